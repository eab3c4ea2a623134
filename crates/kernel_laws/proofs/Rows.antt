-- rows by their pids
use Rattle.std.proofs.Common.{◌≡◌, ℕ, Bool, true, List, [], ◌∷◌, sym, ap, ◌∙◌, Some}
use Rattle.std.specs.Prelude.{map, filter}
use Rattle.std.specs.Option.{option_map}
use Rattle.std.proofs.lemmas.Bool.{eqb-true}
use Rattle.unix_names.specs.declared.Pid.{Pid}
use Rattle.process_table.specs.declared.Row.{Row}
use Rattle.process_table.specs.Rows.{is_pid, row_of, AreDistinct}
use Rattle.list_laws.specs.Keyed.{at, Distinct, option_filter}
use Rattle.list_laws.proofs.Filters.{some_same, mapped_some}
use Rattle.list_laws.proofs.Finding.{at-map, at-filter, found, found_here, filtered_some}

-- the key of a row
abbrev pub number : Row → ℕ
number r = r.pid.0

pub distinct_from : (rows : List Row) → AreDistinct rows → Distinct number rows
distinct_from [] d = tt
distinct_from (r ∷ rows) d = (d.0, distinct_from rows d.1)

pub distinct_to : (rows : List Row) → Distinct number rows → AreDistinct rows
distinct_to [] d = tt
distinct_to (r ∷ rows) d = (d.0, distinct_to rows d.1)

-- ids of one number are one
pub pid_same : (p q : Pid) → p.0 ≡ q.0 → p ≡ q
pid_same p q e = ap (λ (m : ℕ). record { 0 = m }) e

-- what is found has the pid
pub row_pid : (rows : List Row) (q : Pid) (c : Row) → row_of rows q ≡ Some c → c.pid ≡ q
row_pid rows q c e = pid_same c.pid q (found number q.0 rows c e)

-- what is found is found at its own pid
pub row_here : (rows : List Row) (q : Pid) (c : Row) → row_of rows q ≡ Some c → row_of rows c.pid ≡ Some c
row_here rows q c e = found_here number q.0 rows c e

-- a pid has one row
pub one_row : (rows : List Row) (p : Pid) (c r : Row) → row_of rows p ≡ Some r → row_of rows c.pid ≡ Some c → is_pid p c ≡ true → c ≡ r
one_row rows p c r er ec e = let n : c.pid.0 ≡ p.0 = eqb-true _ _ e in some_same c r (sym ec ∙ ap (λ m. at number m rows) n ∙ er)

-- ---- after a filter and a map that keeps pids
pub row_moved : (rows : List Row) (keep : Row → Bool) (f : Row → Row) → ((c : Row) → (f c).pid ≡ c.pid) → AreDistinct rows → (q : Pid) →
    row_of (map f (filter keep rows)) q ≡ option_map f (option_filter keep (row_of rows q))
row_moved rows keep f same d q =
    at-map number number f (λ c. ap (λ p. p.0) (same c)) q.0 (filter keep rows) ∙ ap (option_map f) (at-filter number keep q.0 rows (distinct_from rows d))

-- a row of the table after, with the row that it comes from
pub record Comes (rows : List Row) (keep : Row → Bool) (f : Row → Row) (q : Pid) (c' : Row) : Type 0 where
  pub from : Row
  pub there : row_of rows q ≡ Some from
  pub passes : keep from ≡ true
  pub is : c' ≡ f from

pub comes : (rows : List Row) (keep : Row → Bool) (f : Row → Row) → ((c : Row) → (f c).pid ≡ c.pid) → AreDistinct rows → (q : Pid) (c' : Row) →
    row_of (map f (filter keep rows)) q ≡ Some c' → Comes rows keep f q c'
comes rows keep f same d q c' e =
    let m = mapped_some f (option_filter keep (row_of rows q)) c' (sym (row_moved rows keep f same d q) ∙ e) in
    let k = filtered_some keep (row_of rows q) m.0 m.1 in
    record { from = m.0; there = k.0; passes = k.1; is = m.2 }

-- ---- what a row that is known becomes
pub row_map : (rows : List Row) (f : Row → Row) → ((c : Row) → (f c).pid ≡ c.pid) → (q : Pid) → row_of (map f rows) q ≡ option_map f (row_of rows q)
row_map rows f same q = at-map number number f (λ c. ap (λ p. p.0) (same c)) q.0 rows

-- after a map
pub mapped_is : (rows : List Row) (f : Row → Row) → ((c : Row) → (f c).pid ≡ c.pid) → (q : Pid) (c c' : Row) → row_of rows q ≡ Some c → row_of (map f rows) q ≡ Some c' → c' ≡ f c
mapped_is rows f same q c c' e e' = some_same c' (f c) (sym e' ∙ row_map rows f same q ∙ ap (option_map f) e)

-- after a filter and a map
pub moved_is : (rows : List Row) (keep : Row → Bool) (f : Row → Row) → ((c : Row) → (f c).pid ≡ c.pid) → AreDistinct rows → (q : Pid) (c c' : Row) →
    row_of rows q ≡ Some c → row_of (map f (filter keep rows)) q ≡ Some c' → c' ≡ f c
moved_is rows keep f same d q c c' e e' = let m = comes rows keep f same d q c' e' in m.is ∙ ap f (some_same m.from c (sym m.there ∙ e))
