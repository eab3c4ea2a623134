-- no link, and no link counted, is the rule
use Rattle.std.proofs.Common.{◌≡◌, ◌==◌, ◌&&◌, ◌||◌, ℕ, suc, Bool, true, false, cond, not, List, [], ◌∷◌, length, refl, sym, ap, ◌∙◌, arith, rules}
use Rattle.std.specs.Prelude.{filter}
use Rattle.std.specs.List.{list_any, list_all}
use Rattle.std.proofs.lemmas.Bool.{ne_eqb}
use Rattle.unix_names.specs.declared.Pid.{Pid}
use Rattle.orphan_rules.specs.declared.Kin.{Kin}
use Rattle.orphan_rules.specs.Orphans.{is_living_member, is_parent_in_session, is_parent_no_help, orphaned, is_link, is_link_of, links_of}

one : (g l s w : Bool) → not (g && (l && (s && not w))) ≡ (not (g && l) || (w || not s))
one true true true true = refl
one true true true false = refl
one true true false true = refl
one true true false false = refl
one true false s w = refl
one false l s w = refl

both : (a b c d : Bool) → not a ≡ c → not b ≡ d → not (a || b) ≡ (c && d)
both true b c d e h = ap (λ x. x && d) e
both false b c d e h = ap (λ x. x && not b) e ∙ ap (λ x. c && x) h

-- no link among the members is the rule
pub no_link : (kin : List Kin) (group : Pid) → not (list_any (is_link_of group) kin) ≡ orphaned kin group
no_link [] group = refl
no_link (k ∷ ks) group =
    both (is_link_of group k) (list_any (is_link_of group) ks) _ _
    (one (k.group.0 == group.0) k.living (is_parent_in_session k) (k.parent_group.0 == k.group.0)) (no_link ks group)

any_step : {X : Type 0} (x : X) (b a : Bool) (l : List X) → not a ≡ (length l == 0) → not (b || a) ≡ (length (cond b (x ∷ l) l) == 0)
any_step x true a l e = sym (ne_eqb _ _ (λ h. absurd (omega arith)))
any_step x false a l e = e

any_count : {X : Type 0} (t : X → Bool) (xs : List X) → not (list_any t xs) ≡ (length (filter t xs) == 0)
any_count t [] = refl
any_count t (x ∷ xs) = any_step x (t x) (list_any t xs) (filter t xs) (any_count t xs)

-- a count of links that is 0 is the rule
pub links_none : (kin : List Kin) (group : Pid) → (links_of kin group == 0) ≡ orphaned kin group
links_none kin group = sym (any_count (is_link_of group) kin) ∙ no_link kin group
