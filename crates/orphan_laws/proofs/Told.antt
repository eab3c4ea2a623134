-- what members know of their parents against the table
use Rattle.std.proofs.Common.{◌≡◌, ◌==◌, ◌&&◌, ◌||◌, ℕ, Bool, true, false, not, List, [], ◌∷◌, refl, sym, ap, ◌∙◌, subst, Option, None, Some, ◌⊎◌, inl, inr}
use Rattle.std.specs.Prelude.{All}
use Rattle.std.specs.List.{list_any}
use Rattle.std.proofs.lemmas.Bool.{ne_eqb, eq-eqb}
use Rattle.std.proofs.lemmas.List.Elements.{All-head, All-tail}
use Rattle.std.proofs.lemmas.List.Folds.{list_any_at}
use Rattle.list_laws.specs.Keyed.{at, Distinct}
use Rattle.list_laws.proofs.Elements.{any_some, any_found}
use Rattle.list_laws.proofs.Finding.{found}
use Rattle.unix_names.specs.declared.Pid.{Pid}
use Rattle.unix_names.specs.States.{is_living}
use Rattle.process_table.specs.declared.Row.{Row}
use Rattle.process_table.specs.Rows.{row_of, in_group, AreDistinct}
use Rattle.kernel_model.specs.Sound.{IsSound, IsAlive}
use Rattle.process_table.specs.Orphans.{is_outside_parent, is_link, is_link_of, is_orphaned, is_stopped_in}
use Rattle.orphan_rules.specs.declared.Kin.{Kin}
use Rattle.orphan_rules.specs.Orphans.{is_living_member, is_link as is_link_told, is_link_of as is_link_of_told, orphaned}
use Rattle.orphan_rules.proofs.OrphanLaws.{no_link}
use Rattle.orphan_laws.specs.Kins.{group_told, session_told, kin_of, ListsMembers}
use Rattle.orphan_laws.specs.Laws.{LinksAgree, OrphanedAgrees, NewlyAgrees}

abbrev number : Row → ℕ
number r = r.pid.0

distinct : (rows : List Row) → AreDistinct rows → Distinct number rows
distinct [] d = tt
distinct (r ∷ rows) d = (d.0, distinct rows d.1)

-- ---- tests
left_true : (a b : Bool) → (a && b) ≡ true → a ≡ true
left_true true b e = refl
left_true false b e = cc

right_true : (a b : Bool) → (a && b) ≡ true → b ≡ true
right_true true b e = e
right_true false b e = cc

both_true : (a b : Bool) → a ≡ true → b ≡ true → (a && b) ≡ true
both_true true b e h = h
both_true false b e h = cc

same_truth : (a b : Bool) → (a ≡ true → b ≡ true) → (b ≡ true → a ≡ true) → a ≡ b
same_truth true b f g = sym (f refl)
same_truth false true f g = g refl
same_truth false false f g = refl

turned : (one s g : Bool) → one ≡ false → ((not one && s) && not g) ≡ (not g && s)
turned true s g e = cc
turned false true true e = refl
turned false true false e = refl
turned false false true e = refl
turned false false false e = refl

none : (one s g : Bool) → one ≡ true → ((not one && s) && not g) ≡ false
none true s g e = refl
none false s g e = cc

-- ---- links
parent_told : (rows : List Row) (q : Pid) (r : Row) → IsSound rows → row_of rows q ≡ Some r → (o : Option Row) → row_of rows r.parent ≡ o →
    ((not (r.parent.0 == 1) && ((session_told o).0 == r.session.0)) && not ((group_told o).0 == r.group.0)) ≡ is_outside_parent r o
parent_told rows q r sound here None e = none (r.parent.0 == 1) _ _ (eq-eqb _ _ (only (sound.each q r here).parent_lives))
  where
    only : (r.parent.0 ≡ 1) ⊎ IsAlive (row_of rows r.parent) → r.parent.0 ≡ 1
    only (inl one) = one
    only (inr alive) = absurd (subst IsAlive e alive)
parent_told rows q r sound here (Some p) e =
    turned (r.parent.0 == 1) (p.session.0 == r.session.0) (p.group.0 == r.group.0)
    (ne_eqb _ _ (λ one. (sound.each r.parent p e).not_system (found number r.parent.0 rows p e ∙ one)))

pub links_agree : LinksAgree
links_agree rows q r sound here = ap (λ b. is_living r.life && b) (parent_told rows q r sound here (row_of rows r.parent) refl)

-- ---- members
some_passes : (P : Kin → Type 0) (t : Kin → Bool) (kin : List Kin) → All P kin → list_any t kin ≡ true → (k : Kin) × (t k ≡ true) × P k
some_passes P t [] a e = cc
some_passes P t (k ∷ ks) a e = go (λ h. some_passes P t ks (All-tail P k ks a) h) (t k) refl e
  where
    go : (list_any t ks ≡ true → (x : Kin) × (t x ≡ true) × P x) → (b : Bool) → t k ≡ b → (b || list_any t ks) ≡ true → (x : Kin) × (t x ≡ true) × P x
    go later true here h = (k, here, All-head P k ks a)
    go later false here h = later h

told_member : (group : Pid) (k : Kin) → is_link_of_told group k ≡ true → is_living_member group k ≡ true
told_member group k e = both_true (k.group.0 == group.0) k.living (left_true _ _ e) (left_true k.living _ (right_true (k.group.0 == group.0) (is_link_told k) e))

-- a link in the list is one in the table
from_list : (rows : List Row) (group : Pid) (kin : List Kin) → IsSound rows → ListsMembers rows group kin → list_any (is_link_of_told group) kin ≡ true → list_any (is_link_of rows group) rows ≡ true
from_list rows group kin sound lists e = go (some_passes _ (is_link_of_told group) kin lists.each_is_told e)
  where
    is_one : (k : Kin) (r : Row) → row_of rows k.pid ≡ Some r → k ≡ kin_of rows r → is_link_of_told group k ≡ true → is_link_of rows group r ≡ true
    is_one k r here same link =
        let told : is_link_of_told group (kin_of rows r) ≡ true = subst (λ (x : Kin). is_link_of_told group x ≡ true) same link in
        both_true (in_group group r) (is_link rows r) (left_true (in_group group r) (is_link_told (kin_of rows r)) told)
        (sym (links_agree rows k.pid r sound here) ∙ right_true (in_group group r) (is_link_told (kin_of rows r)) told)

    go : (k : Kin) × (is_link_of_told group k ≡ true) × (is_living_member group k ≡ true → (r : Row) × (row_of rows k.pid ≡ Some r) × (k ≡ kin_of rows r)) → list_any (is_link_of rows group) rows ≡ true
    go (k, link, told) =
        let row = told (told_member group k link) in
        any_some number (is_link_of rows group) k.pid.0 rows row.0 row.1 (is_one k row.0 row.1 row.2 link)

-- a link in the table is one in the list
from_table : (rows : List Row) (group : Pid) (kin : List Kin) → IsSound rows → ListsMembers rows group kin → list_any (is_link_of rows group) rows ≡ true → list_any (is_link_of_told group) kin ≡ true
from_table rows group kin sound lists e = go (any_found number (is_link_of rows group) rows (distinct rows sound.distinct) e)
  where
    go : (y : Row) × (at number (number y) rows ≡ Some y) × (is_link_of rows group y ≡ true) → list_any (is_link_of_told group) kin ≡ true
    go (y, here, link) =
        let member : in_group group y ≡ true = left_true (in_group group y) (is_link rows y) link in
        let linked : is_link rows y ≡ true = right_true (in_group group y) (is_link rows y) link in
        let place = lists.each_is_listed y.pid y here (both_true (in_group group y) (is_living y.life) member (left_true (is_living y.life) _ linked)) in
        let told : is_link_of_told group (kin_of rows y) ≡ true = both_true (in_group group y) (is_link_told (kin_of rows y)) member (links_agree rows y.pid y sound here ∙ linked) in
        list_any_at (is_link_of_told group) kin place.0 (kin_of rows y) place.1 (subst (λ (x : Kin). is_link_of_told group x ≡ true) (sym place.2) told)

pub orphaned_agrees : OrphanedAgrees
orphaned_agrees rows group kin sound lists =
    sym (no_link kin group) ∙ ap not (same_truth _ _ (from_list rows group kin sound lists) (from_table rows group kin sound lists))

three : (a b c : Bool) → ((a && b) && c) ≡ (a && (b && c))
three true b c = refl
three false b c = refl

pub newly_agrees : NewlyAgrees
newly_agrees before after group kin_before kin_after sound_before sound_after lists_before lists_after =
    ap (λ b. (not b && orphaned kin_after group) && list_any (is_stopped_in group) after) (orphaned_agrees before group kin_before sound_before lists_before)
    ∙ ap (λ b. (not (is_orphaned before group) && b) && list_any (is_stopped_in group) after) (orphaned_agrees after group kin_after sound_after lists_after)
    ∙ three (not (is_orphaned before group)) (is_orphaned after group) (list_any (is_stopped_in group) after)
