-- marks of the processes outside a group, so that the parents of its members need hardly be looked up. No rule cites this file.
use Rattle.std.specs.List.{list_any}
use Rattle.std.specs.Prelude.{◌≡◌, ◌&&◌, ◌%◌, ◌+◌, ◌*◌, Bool, List, false, not, slice_index_or, true, ℕ}
use Rattle.unix_names.specs.declared.Pid.{Pid}
use Rattle.process_table.specs.Rows.{in_group, in_session, is_pid}
use Rattle.process_table.specs.declared.rows.Row.{Row}

-- where the mark of a process in a session stands; several may share one
unfoldable pub slot : Pid → Pid → ℕ
slot q s = (q.0 % 4096 + s.0 % 4096 * 1009) % 4096

-- the row is that of this process in this session, and of another group
abbrev pub is_outsider : Pid → Pid → Pid → Row → Bool
is_outsider g q s c = is_pid q c && (not (in_group g c) && in_session s c)

abbrev pub is_marked : List Bool → Pid → Pid → Bool
is_marked marks q s = slice_index_or marks (slot q s) false

-- each process of another group is marked; others may be too
abbrev pub AreMarked : List Bool → List Row → Pid → Type 0
AreMarked marks rows g = (q s : Pid) → list_any (is_outsider g q s) rows ≡ true → is_marked marks q s ≡ true
