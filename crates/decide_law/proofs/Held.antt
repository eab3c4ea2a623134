-- what is held where nothing lacks
use Rattle.std.proofs.Common.{◌≡◌, ◌==◌, ◌||◌, ◌++◌, Bool, true, false, cond, not, List, [], ◌∷◌, refl, ap, ◌∙◌, subst}
use Rattle.std.specs.Prelude.{flat_map}
use Rattle.std.specs.List.{list_any}
use Rattle.std.proofs.lemmas.Bool.{eqb-true}
use Rattle.unix_names.specs.declared.Pid.{Pid}
use Rattle.unix_names.specs.declared.Name.{Name}
use Rattle.record_bag.specs.declared.bag.Bag.{Bag}
use Rattle.record_bag.specs.Bags.{is_held}
use Rattle.decide_law.specs.Footprints.{lacking}
use Rattle.decide_law.proofs.Records.{pid_same}
use Rattle.decide_law.specs.Parts.{EachHeld}

-- where none lacks
pub none_lacks : (bag : Bag) (names : List Name) → lacking bag names ≡ [] → EachHeld bag names
none_lacks bag [] e = tt
none_lacks bag (n ∷ ns) e = go (λ l. none_lacks bag ns l) (is_held bag n) refl e
  where
    go : (lacking bag ns ≡ [] → EachHeld bag ns) → (b : Bool) → is_held bag n ≡ b → cond (not b) (n ∷ lacking bag ns) (lacking bag ns) ≡ [] → (is_held bag n ≡ true) × EachHeld bag ns
    go rest true h l = (h, rest l)
    go rest false h l = cc

pub held_first : (bag : Bag) (ns ms : List Name) → EachHeld bag (ns ++ ms) → EachHeld bag ns
held_first bag [] ms h = tt
held_first bag (n ∷ ns) ms h = (h.0, held_first bag ns ms h.1)

pub held_later : (bag : Bag) (ns ms : List Name) → EachHeld bag (ns ++ ms) → EachHeld bag ms
held_later bag [] ms h = h
held_later bag (n ∷ ns) ms h = held_later bag ns ms h.1

-- of each id in a list, what it brings
pub held_flat : (bag : Bag) (f : Pid → List Name) (pids : List Pid) (q : Pid) → EachHeld bag (flat_map f pids) → list_any (λ (c : Pid). c.0 == q.0) pids ≡ true → EachHeld bag (f q)
held_flat bag f [] q h e = cc
held_flat bag f (p ∷ ps) q h e = go (λ t. held_flat bag f ps q (held_later bag (f p) (flat_map f ps) h) t) (p.0 == q.0) refl e
  where
    go : (list_any (λ (c : Pid). c.0 == q.0) ps ≡ true → EachHeld bag (f q)) → (b : Bool) → (p.0 == q.0) ≡ b → (b || list_any (λ (c : Pid). c.0 == q.0) ps) ≡ true → EachHeld bag (f q)
    go rest true s t = subst (λ (x : Pid). EachHeld bag (f x)) (pid_same p q (eqb-true _ _ s)) (held_first bag (f p) (flat_map f ps) h)
    go rest false s t = rest t

-- where each is held, none lacks
pub lacks_none : (bag : Bag) (names : List Name) → EachHeld bag names → lacking bag names ≡ []
lacks_none bag [] h = refl
lacks_none bag (n ∷ ns) h = ap (λ (b : Bool). cond (not b) (n ∷ lacking bag ns) (lacking bag ns)) h.0 ∙ lacks_none bag ns h.1
