-- the marks of the processes outside a group, row by row
use Rattle.std.proofs.Common.{◌≡◌, ◌∙◌, ◌==◌, ◌&&◌, ◌||◌, not, Bool, true, false, List, [], ◌∷◌, Option, None, Some, cond, refl, sym, ap}
use Rattle.std.specs.Prelude.{find}
use Rattle.std.specs.List.{list_any}
use Rattle.std.proofs.lemmas.Bool.{eqb-true, and_parts, or_left}
use Rattle.unix_names.specs.declared.Pid.{Pid}
use Rattle.unix_names.specs.States.{is_living}
use Rattle.process_table.specs.declared.rows.Row.{Row}
use Rattle.process_table.specs.Rows.{is_pid, in_group, in_session, row_of}
use Rattle.process_table.specs.Orphans.{is_outside_parent, is_link, is_link_of}
use Rattle.process_table.specs.MethodMarks.{is_marked, AreMarked}

-- ---- a link's parent is marked
found_step : {X : Type 0} (t u : X → Bool) (x : X) (xs : List X) (b : Bool) (y : X) → t x ≡ b → cond b (Some x) (find t xs) ≡ Some y → u y ≡ true → (find t xs ≡ Some y → list_any (λ z. t z && u z) xs ≡ true) →
    ((b && u x) || list_any (λ z. t z && u z) xs) ≡ true
found_step t u x xs true y here e passes ih = let same : x ≡ y = cc in or_left _ _ (ap u same ∙ passes)
found_step t u x xs false y here e passes ih = ih e

found_any : {X : Type 0} (t u : X → Bool) (xs : List X) (y : X) → find t xs ≡ Some y → u y ≡ true → list_any (λ x. t x && u x) xs ≡ true
found_any t u [] y e passes = cc
found_any t u (x ∷ xs) y e passes = found_step t u x xs (t x) y refl e passes (λ h. found_any t u xs y h passes)

link_marked : (marks : List Bool) (rows : List Row) (g : Pid) (c : Row) → AreMarked marks rows g → in_group g c ≡ true → is_link rows c ≡ true → is_marked marks c.parent c.session ≡ true
link_marked marks rows g c marked member linked = go (row_of rows c.parent) refl ((and_parts (is_living c.life) (is_outside_parent c (row_of rows c.parent)) linked).1)
  where
    go : (o : Option Row) → row_of rows c.parent ≡ o → is_outside_parent c o ≡ true → is_marked marks c.parent c.session ≡ true
    go None e h = cc
    go (Some parent) e h = marked c.parent c.session
        (found_any (is_pid c.parent) (λ d. not (in_group g d) && in_session c.session d) rows parent e
        (ap (λ n. not (parent.group.0 == n) && in_session c.session parent) (sym (eqb-true c.group.0 g.0 member)) ∙ h))

unmarked_by : (member linked marked : Bool) → (member ≡ true → linked ≡ true → marked ≡ true) → marked ≡ false → (member && linked) ≡ false
unmarked_by true true marked h e = let f = h refl refl in cc
unmarked_by true false marked h e = refl
unmarked_by false linked marked h e = refl

-- where the parent is not marked the row is no link
pub unmarked_link : (marks : List Bool) (rows : List Row) (g : Pid) (c : Row) → AreMarked marks rows g → is_marked marks c.parent c.session ≡ false → is_link_of rows g c ≡ false
unmarked_link marks rows g c marked e = unmarked_by (in_group g c) (is_link rows c) (is_marked marks c.parent c.session) (link_marked marks rows g c marked) e
