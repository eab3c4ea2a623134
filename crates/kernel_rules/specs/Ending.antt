-- the end of a process: what becomes of its row, its children, its parent, and the groups that it leaves orphaned (POSIX.1-2017, XSH _Exit)
use Rattle.std.specs.Prelude.{◌==◌, ◌&&◌, ◌||◌, ◌∷◌, ◌++◌, if◌then◌else◌, [], Bool, List, None, Option, Some, false, filter, map, not}
use Rattle.unix_names.specs.Sets.{has}
use Rattle.unix_names.specs.declared.Pid.{Pid}
use Rattle.unix_names.specs.declared.Signal.{Signal}
use Rattle.unix_names.specs.declared.Signal.TheVariants.{Chld}
use Rattle.unix_names.specs.declared.WaitStatus.{WaitStatus}
use Rattle.process_table.specs.Changes.{ended_at, given_up, received}
use Rattle.process_table.specs.Rows.{is_ended_child, is_pid, row_of}
use Rattle.process_table.specs.declared.Row.{Row}
use Rattle.kernel_rules.specs.Orphans.{sent_to_orphans}

-- ---- first: its own row ends, or goes
abbrev pub ignores_children : Option Row → Bool
ignores_children None = false
ignores_children (Some parent) = has parent.sig.ignored Chld

-- nobody waits for it: its parent is the system process, or ignores the signal of a child's end by action
abbrev pub vanishes : List Row → Row → Bool
vanishes rows r = (r.parent.0 == 1) || ignores_children (row_of rows r.parent)

-- the row goes at once
abbrev pub is_vanishing : List Row → Row → Row → Bool
is_vanishing rows r c = is_pid r.pid c && vanishes rows r

abbrev pub with_end : List Row → Row → WaitStatus → List Row
with_end rows r w = filter (λ c. not (is_vanishing rows r c)) (map (ended_at r.pid w) rows)

-- ---- second: its children
-- each ended child goes, and each living one goes to the system process
abbrev pub without_children : Pid → List Row → List Row
without_children p rows = map (given_up p) (filter (λ c. not (is_ended_child p c)) rows)

-- the table after the first two effects
abbrev pub rows_left : List Row → Row → WaitStatus → List Row
rows_left rows r w = without_children r.pid (with_end rows r w)

-- ---- third and fourth: the signals
-- a child that ends, stops or continues signals its parent (POSIX.1-2017, XSH 2.4.3 and exit)
abbrev pub sent_to_parent : Row → Row → List Signal
sent_to_parent r c = if is_pid r.parent c then Chld ∷ [] else []

-- first as the parent, then as a member
abbrev pub sent_by_end : List Row → Row → WaitStatus → Row → List Signal
sent_by_end rows r w c = sent_to_parent r c ++ sent_to_orphans rows (rows_left rows r w) c

-- ---- the table after it
-- the table after the process of row r has ended
abbrev pub after_end : List Row → Row → WaitStatus → List Row
after_end rows r w = received (sent_by_end rows r w) (rows_left rows r w)
