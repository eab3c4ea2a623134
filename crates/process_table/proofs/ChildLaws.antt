-- the processes that an index lists with a process are all its children
use Rattle.std.proofs.Common.{◌≡◌, ◌≢◌, ◌==◌, ◌||◌, Bool, true, false, List, [], ◌∷◌, Option, Some, cond, refl, sym, ap, subst, ◌∙◌, inl, inr, arith}
use Rattle.std.specs.Prelude.{find}
use Rattle.std.specs.Cmp.{both_ways}
use Rattle.std.specs.List.{list_any}
use Rattle.std.proofs.lemmas.Bool.{eq-eqb, ne_eqb, eqb-true, eqb-false, or_left, or_right, or_cases}
use Rattle.unix_names.specs.declared.Pid.{Pid}
use Rattle.ordered_table.specs.Lists.{Lists, members_of}
use Rattle.process_table.specs.declared.rows.Row.{Row}
use Rattle.process_table.specs.declared.index.Index.{Index}
use Rattle.process_table.specs.Rows.{is_same, is_pid, is_parent, row_of, passes, AreChildren}
use Rattle.process_table.specs.MethodIndex.{AllAbove, IsRising, is_listed, AreListed, IsIndexOf, Knows}

-- ids of one number are one id
same_pid : (p q : Pid) → is_same p q ≡ true → p ≡ q
same_pid p q e = ap (λ (n : _). record { 0 = n }) (eqb-true p.0 q.0 e)

-- ---- among rows whose pids rise, each row is that of its pid
abbrev AreFound : List Row → List Row → Type 0
AreFound whole [] = Unit {0}
AreFound whole (c ∷ rows) = (row_of whole c.pid ≡ Some c) × AreFound whole rows

found-lower : (d : Row) (whole rows : List Row) → AllAbove d.pid rows → AreFound whole rows → AreFound (d ∷ whole) rows
found-lower d whole [] above found = tt
found-lower d whole (c ∷ rows) above found =
    let lower = above.0 in
    (rw (ne_eqb d.pid.0 c.pid.0 (λ s. omega arith)) found.0, found-lower d whole rows above.1 found.1)

found-rising : (rows : List Row) → IsRising rows → AreFound rows rows
found-rising [] rising = tt
found-rising (c ∷ rows) rising = (rw (eq-eqb c.pid.0 c.pid.0 refl) refl, found-lower c rows rows rising.0 (found-rising rows rising.1))

-- ---- from a listed process to a row
any-found_by : (t : Row → Bool) (c : Row) (o : Option Row) (b rest : Bool) → passes t (cond b (Some c) o) ≡ true → (passes t o ≡ true → rest ≡ true) → (t c || rest) ≡ true
any-found_by t c o true rest passed later = or_left (t c) rest passed
any-found_by t c o false rest passed later = or_right (t c) rest (later passed)

any-found : (t test : Row → Bool) (rows : List Row) → passes t (find test rows) ≡ true → list_any t rows ≡ true
any-found t test [] passed = cc
any-found t test (c ∷ rows) passed = any-found_by t c (find test rows) (test c) (list_any t rows) passed (any-found t test rows)

any-listed : (t : Row → Bool) (rows : List Row) (pids : List Pid) → list_any (λ q. passes t (row_of rows q)) pids ≡ true → list_any t rows ≡ true
any-listed t rows [] passed = cc
any-listed t rows (q ∷ pids) passed = elim (or_cases (passes t (row_of rows q)) (list_any (λ r. passes t (row_of rows r)) pids) passed) as (λ _. list_any t rows ≡ true) [
  | inl first ↦ any-found t (is_pid q) rows first
  | inr later ↦ any-listed t rows pids later
]

-- ---- from a row to a listed process
any-same : (t : Pid → Bool) (p : Pid) (pids : List Pid) → list_any (is_same p) pids ≡ true → t p ≡ true → list_any t pids ≡ true
any-same t p [] here passed = cc
any-same t p (q ∷ pids) here passed = elim (or_cases (is_same p q) (list_any (is_same p) pids) here) as (λ _. list_any t (q ∷ pids) ≡ true) [
  | inl first ↦ or_left (t q) (list_any t pids) (ap t (sym (same_pid p q first)) ∙ passed)
  | inr later ↦ or_right (t q) (list_any t pids) (any-same t p pids later passed)
]

child-listed : (lists : Lists) (p : Pid) (c : Row) → p.0 ≢ 1 → is_parent p c ≡ true → is_listed lists c ≡ true → list_any (is_same c.pid) (members_of lists p) ≡ true
child-listed lists p c other parent listed =
    let same : c.parent ≡ p = same_pid c.parent p parent in
    let named : (p.0 == 1) ≡ false = ne_eqb p.0 1 other in
    cc

any-row : (t : Row → Bool) (lists : Lists) (p : Pid) (whole rows : List Row) → p.0 ≢ 1 → ((c : Row) → t c ≡ true → is_parent p c ≡ true) → AreListed lists rows → AreFound whole rows → list_any t rows ≡ true →
    list_any (λ q. passes t (row_of whole q)) (members_of lists p) ≡ true
any-row t lists p whole [] other children listed found passed = cc
any-row t lists p whole (c ∷ rows) other children listed found passed = elim (or_cases (t c) (list_any t rows) passed) as (λ _. list_any (λ q. passes t (row_of whole q)) (members_of lists p) ≡ true) [
  | inl first ↦ any-same (λ q. passes t (row_of whole q)) c.pid (members_of lists p) (child-listed lists p c other (children c first) listed.0) (ap (passes t) found.0 ∙ first)
  | inr later ↦ any-row t lists p whole rows other children listed.1 found.1 later
]

-- who is listed with a process
children-listed : (lists : Lists) (rows : List Row) (p : Pid) → IsRising rows → AreListed lists rows → p.0 ≢ 1 → AreChildren rows p (members_of lists p)
children-listed lists rows p rising listed other t children =
    both_ways _ _ (any-listed t rows (members_of lists p)) (any-row t lists p rows rows other children listed (found-rising rows rising))

-- who is listed with a process in an index that knows the rows
pub children-known : (index : Index) (rows : List Row) (p : Pid) (pids : List Pid) → Knows index rows → index.rises ≡ true → (p.0 == 1) ≡ false → members_of index.children p ≡ pids → AreChildren rows p pids
children-known index rows p pids known rises other same =
    let at : IsIndexOf index rows = known rises in
    subst (AreChildren rows p) same (children-listed index.children rows p at.rising at.listed (eqb-false p.0 1 other))
