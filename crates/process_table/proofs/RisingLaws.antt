-- rows whose pids rise: where the row of a process stands
use Rattle.std.proofs.Common.{◌≡◌, ◌∙◌, ◌<◌, ◌≤◌, ◌-◌, ℕ, zero, suc, Bool, true, false, cond, nat_lt, List, [], ◌∷◌, length, get_or, Option, Some, None, slice_get, sym, ap, refl, arith, ne_eqb, ltb-true, ltb-false}
use Rattle.unix_names.specs.declared.Pid.{Pid}
use Rattle.process_table.specs.declared.rows.Row.{Row}
use Rattle.process_table.specs.Rows.{is_pid, row_of}
use Rattle.process_table.specs.MethodIndex.{AllAbove, IsRising, place, is_next}

-- ---- the row of a process
-- a row of a lesser pid is of another process
pub not-pid : (p : Pid) (c : Row) → nat_lt c.pid.0 p.0 ≡ true → is_pid p c ≡ false
not-pid p c less = let lt = ltb-true c.pid.0 p.0 less in ne_eqb _ _ (λ e. omega arith)

-- and so is one of a greater pid
pub not-pid_above : (p q : Pid) (c : Row) → p.0 ≤ q.0 → q.0 < c.pid.0 → is_pid p c ≡ false
not-pid_above p q c le lt = ne_eqb _ _ (λ e. omega arith)

-- no row is of a pid below all
row_of-above : (p q : Pid) (rows : List Row) → p.0 ≤ q.0 → AllAbove q rows → row_of rows p ≡ None
row_of-above p q [] le a = refl
row_of-above p q (c ∷ rows) le a = rw (not-pid_above p q c le a.0) (row_of-above p q rows le a.1)

-- a row, if it is that of this process
abbrev pub if_pid : Pid → Option Row → Option Row
if_pid p None = None
if_pid p (Some c) = cond (is_pid p c) (Some c) None

row_at_step : (c : Row) (rows : List Row) (p : Pid) (b : Bool) → nat_lt c.pid.0 p.0 ≡ b → IsRising (c ∷ rows) → row_of rows p ≡ if_pid p (slice_get rows (place rows p)) → row_of (c ∷ rows) p ≡ if_pid p (slice_get (c ∷ rows) (cond b (suc (place rows p)) zero))
row_at_step c rows p true less r ih = rw (not-pid p c less) ih
row_at_step c rows p false less r ih = rw (row_of-above p c.pid rows (ltb-false _ _ less) r.0)

row_at : (rows : List Row) (p : Pid) → IsRising rows → row_of rows p ≡ if_pid p (slice_get rows (place rows p))
row_at [] p r = refl
row_at (c ∷ rows) p r = row_at_step c rows p (nat_lt c.pid.0 p.0) refl r (row_at rows p r.1)

-- the row of a process stands at the place of its pid
pub row-at_place : (rows : List Row) (p : Pid) (i : ℕ) (o : Option Row) → IsRising rows → i ≡ place rows p → slice_get rows i ≡ o → row_of rows p ≡ if_pid p o
row-at_place rows p i o r at e = row_at rows p r ∙ ap (if_pid p) (ap (slice_get rows) (sym at) ∙ e)

-- ---- the last row
pub is_next-last : (rows : List Row) (p : Pid) (i : ℕ) (c : Row) → i ≡ length rows - 1 → slice_get rows i ≡ Some c → nat_lt c.pid.0 p.0 ≡ is_next rows p
is_next-last [] p i c at e = cc
is_next-last (d ∷ []) p zero c at e = let same : d ≡ c = cc in rw same
is_next-last (d ∷ []) p (suc i) c at e = cc
is_next-last (d ∷ f ∷ rows) p zero c at e = absurd (omega arith)
is_next-last (d ∷ f ∷ rows) p (suc i) c at e = is_next-last (f ∷ rows) p i c (omega arith) e
