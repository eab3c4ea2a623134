-- the end of a process: the table before the signals is one map of one filter, and it is sound
use Rattle.std.proofs.Common.{◌≡◌, ◌==◌, ◌&&◌, ◌⊎◌, inl, inr, Bool, true, false, cond, not, List, refl, sym, ap, ◌∙◌, None, Some}
use Rattle.std.specs.Prelude.{map, filter}
use Rattle.std.specs.Option.{option_map}
use Rattle.unix_names.specs.declared.Pid.{Pid}
use Rattle.unix_names.specs.declared.Signal.{Signal}
use Rattle.unix_names.specs.declared.Life.TheVariants.{Ended}
use Rattle.unix_names.specs.declared.WaitStatus.{WaitStatus}
use Rattle.unix_names.specs.States.{is_living}
use Rattle.process_table.specs.declared.Row.{Row}
use Rattle.process_table.specs.Rows.{pid, is_pid, is_parent, row_of, AreDistinct, is_ended_child}
use Rattle.process_table.specs.Changes.{receives, received, ended_at, given_up}
use Rattle.kernel_rules.specs.Ending.{is_vanishing, rows_left, sent_by_end, after_end}
use Rattle.kernel_model.specs.Sound.{IsSound}
use Rattle.list_laws.specs.Keyed.{option_filter}
use Rattle.list_laws.proofs.Filters.{filter-map, filter-filter, map-map, and_false, some_same, mapped_some, option_map-map}
use Rattle.list_laws.proofs.Finding.{filtered_some}
use Rattle.kernel_laws.proofs.Rows.{row_pid, row_moved, row_map}
use Rattle.kernel_laws.proofs.Plain.{KeepsParent, IsRowKept, IsPlain, plain_sound}
use Rattle.kernel_laws.proofs.Changes.{received_sound}

-- a row that is left, as it is then
abbrev pub left : Row → WaitStatus → Row → Row
left r w c = given_up r.pid (ended_at r.pid w c)

-- a row is left
abbrev pub is_left : List Row → Row → WaitStatus → Row → Bool
is_left rows r w c = not (is_vanishing rows r c) && not (is_ended_child r.pid (ended_at r.pid w c))

pub left_is : (rows : List Row) (r : Row) (w : WaitStatus) → rows_left rows r w ≡ map (left r w) (filter (is_left rows r w) rows)
left_is rows r w =
    ap (map (given_up r.pid)) (filter-filter (λ c. not (is_ended_child r.pid c)) (λ c. not (is_vanishing rows r c)) (map (ended_at r.pid w) rows)
    ∙ filter-map (λ c. not (is_vanishing rows r c) && not (is_ended_child r.pid c)) (ended_at r.pid w) rows)
    ∙ map-map (given_up r.pid) (ended_at r.pid w) (filter (is_left rows r w) rows)

-- another living row than the one that ends is left, and lives
pub other_left : (rows : List Row) (r : Row) (w : WaitStatus) (d : Row) → is_pid r.pid d ≡ false → is_living d.life ≡ true → is_left rows r w d ≡ true
other_left rows r w d ne a = rw (ne, a, and_false (is_parent r.pid d))

other_lives : (r : Row) (w : WaitStatus) (d : Row) → is_pid r.pid d ≡ false → is_living d.life ≡ true → is_living (left r w d).life ≡ true
other_lives r w d ne a = rw ne a

left_parent : (rows : List Row) (r : Row) (w : WaitStatus) (c : Row) (b : Bool) → is_parent r.pid c ≡ b → ((left r w c).parent.0 ≡ 1) ⊎ KeepsParent rows (is_left rows r w) (left r w) c
left_parent rows r w c true e = inl (rw e)
left_parent rows r w c false e = inr (record {
  same = rw e;
  stays = λ d h a. other_left rows r w d (other d h) a;
  lives = λ d h a. other_lives r w d (other d h) a;
})
  where
    other : (d : Row) → row_of rows c.parent ≡ Some d → is_pid r.pid d ≡ false
    other d h = ap (λ p. p.0 == r.pid.0) (row_pid rows c.parent d h) ∙ e

left_row : (b : Bool) (w : WaitStatus) (q : Pid) (c : Row) → IsRowKept c → IsRowKept (record c { parent = q; life = cond b (Ended w) c.life; change = cond b None c.change })
left_row true w q c k = record { stopped_alike = λ a. cc; signals_kept = k.signals_kept; ended_unchanged = λ e. refl }
left_row false w q c k = record { stopped_alike = k.stopped_alike; signals_kept = k.signals_kept; ended_unchanged = k.ended_unchanged }

pub left_plain : (rows : List Row) (r : Row) (w : WaitStatus) → IsPlain rows (is_left rows r w) (left r w)
left_plain rows r w = record {
  pid = λ c. refl;
  group = λ c. refl;
  session = λ c. refl;
  parent = λ c here. left_parent rows r w c (is_parent r.pid c) refl;
  row = λ c k. left_row (is_pid r.pid c) w (cond (is_parent r.pid c) (pid 1) c.parent) c k;
}

pub left_sound : (rows : List Row) (r : Row) (w : WaitStatus) → IsSound rows → IsSound (rows_left rows r w)
left_sound rows r w sound = rw (left_is rows r w) (plain_sound rows (is_left rows r w) (left r w) sound (left_plain rows r w))

pub end_sound : (rows : List Row) (r : Row) (w : WaitStatus) → IsSound rows → IsSound (after_end rows r w)
end_sound rows r w sound = received_sound (sent_by_end rows r w) (rows_left rows r w) (left_sound rows r w sound)

-- ---- what the end of a process leaves of a row
pub row_left : (rows : List Row) (r : Row) (w : WaitStatus) → AreDistinct rows → (q : Pid) → row_of (rows_left rows r w) q ≡ option_map (left r w) (option_filter (is_left rows r w) (row_of rows q))
row_left rows r w d q = ap (λ t. row_of t q) (left_is rows r w) ∙ row_moved rows (is_left rows r w) (left r w) (λ c. refl) d q

pub row_received : (sent : Row → List Signal) (rows : List Row) (q : Pid) → row_of (received sent rows) q ≡ option_map (receives sent) (row_of rows q)
row_received sent rows q = row_map rows (receives sent) (λ c. refl) q

-- a row after the end of the process of r
abbrev pub after_end_of : List Row → Row → WaitStatus → Row → Row
after_end_of rows r w c = receives (sent_by_end rows r w) (left r w c)

pub row_after_end : (rows : List Row) (r : Row) (w : WaitStatus) → AreDistinct rows → (q : Pid) →
    row_of (after_end rows r w) q ≡ option_map (after_end_of rows r w) (option_filter (is_left rows r w) (row_of rows q))
row_after_end rows r w d q =
    row_received (sent_by_end rows r w) (rows_left rows r w) q
    ∙ ap (option_map (receives (sent_by_end rows r w))) (row_left rows r w d q)
    ∙ option_map-map (receives (sent_by_end rows r w)) (left r w) (option_filter (is_left rows r w) (row_of rows q))

pub ended_is : (rows : List Row) (r : Row) (w : WaitStatus) → AreDistinct rows → (q : Pid) (c c' : Row) → row_of rows q ≡ Some c → row_of (after_end rows r w) q ≡ Some c' → c' ≡ after_end_of rows r w c
ended_is rows r w d q c c' e e' =
    let m = mapped_some (after_end_of rows r w) (option_filter (is_left rows r w) (row_of rows q)) c' (sym (row_after_end rows r w d q) ∙ e') in
    m.2 ∙ ap (after_end_of rows r w) (some_same m.0 c (sym ((filtered_some (is_left rows r w) (row_of rows q) m.0 m.1).0) ∙ e))
