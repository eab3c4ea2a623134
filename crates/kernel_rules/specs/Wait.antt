-- waitpid, always with WNOHANG (POSIX.1-2017, XSH wait): it sends nothing
use Rattle.std.specs.List.{list_any}
use Rattle.std.specs.Prelude.{◌==◌, ◌&&◌, if◌then◌else◌, Bool, List, None, Option, Some, false, filter, is_some, map, not, true}
use Rattle.unix_names.specs.Signals.{number_of}
use Rattle.unix_names.specs.declared.Errno.{Errno}
use Rattle.unix_names.specs.declared.Errno.TheVariants.{ECHILD}
use Rattle.unix_names.specs.declared.Life.{Life}
use Rattle.unix_names.specs.declared.Life.TheVariants.{Ended, Runs, Stopped}
use Rattle.unix_names.specs.declared.WaitStatus.{WaitStatus}
use Rattle.unix_names.specs.declared.WaitStatus.TheVariants as status
use Rattle.unix_calls.specs.declared.Reply.{Reply}
use Rattle.unix_calls.specs.declared.Reply.TheVariants.{Again, Child}
use Rattle.unix_calls.specs.declared.Selector.{Selector}
use Rattle.unix_calls.specs.declared.Selector.TheVariants as selector
use Rattle.process_table.specs.Changes.{reported_at}
use Rattle.process_table.specs.Rows.{in_group, is_ended_at, is_parent, is_pid, row_of}
use Rattle.process_table.specs.declared.Row.{Row}

-- ---- refusals
-- the selector names this child of the caller
abbrev pub selects : Row → Selector → Row → Bool
selects r selector.Any c = true
selects r selector.OwnGroup c = in_group r.group c
selects r (selector.One p) c = is_pid p c
selects r (selector.InGroup g) c = in_group g c

-- a child of the caller that the selector names
abbrev pub is_match : Row → Selector → Row → Bool
is_match r sel c = is_parent r.pid c && selects r sel c

-- no child is named
abbrev pub wait_refusal : List Row → Row → Selector → Option Errno
wait_refusal rows r sel = if list_any (is_match r sel) rows then None else Some ECHILD

-- ---- replies
-- the change that is reported where stops, or continuings, are asked for
abbrev pub asked_change : Option WaitStatus → Bool → Bool → Option WaitStatus
asked_change (Some (status.Stopped s)) stopped continued = if stopped then Some (status.Stopped s) else None
asked_change (Some status.Continued) stopped continued = if continued then Some status.Continued else None
asked_change _ stopped continued = None

-- what a child has to report: its end, or a change that is asked for
abbrev pub report_of : Life → Option WaitStatus → Bool → Bool → Option WaitStatus
report_of (Ended w) change stopped continued = Some w
report_of Runs change stopped continued = asked_change change stopped continued
report_of Stopped change stopped continued = asked_change change stopped continued

-- a child that the selector names and that has something to report
abbrev pub is_ready_match : Row → Selector → Bool → Bool → Row → Bool
is_ready_match r sel stopped continued c = is_match r sel c && is_some (report_of c.life c.change stopped continued)

abbrev pub is_same_status : WaitStatus → WaitStatus → Bool
is_same_status (status.Exited m) (status.Exited n) = m == n
is_same_status (status.Killed s) (status.Killed t) = number_of s == number_of t
is_same_status (status.Stopped s) (status.Stopped t) = number_of s == number_of t
is_same_status status.Continued status.Continued = true
is_same_status _ _ = false

abbrev pub is_report : Option WaitStatus → WaitStatus → Bool
is_report None w = false
is_report (Some v) w = is_same_status v w

-- the row is that of a child that the selector names, and this is what it has to report
abbrev pub reports : Row → Selector → Bool → Bool → WaitStatus → Option Row → Bool
reports r sel stopped continued w None = false
reports r sel stopped continued w (Some c) = is_match r sel c && is_report (report_of c.life c.change stopped continued) w

-- any ready child with what it has to report; again exactly where none is ready
abbrev pub is_wait_answer : List Row → Row → Selector → Bool → Bool → Reply → Bool
is_wait_answer rows r sel stopped continued (Child p w) = reports r sel stopped continued w (row_of rows p)
is_wait_answer rows r sel stopped continued Again = not (list_any (is_ready_match r sel stopped continued) rows)
is_wait_answer rows r sel stopped continued _ = false

-- ---- the table after it
-- a report of an end takes the row away, and another report is made but once (POSIX.1-2017, XSH wait)
abbrev pub after_wait : List Row → Reply → List Row
after_wait rows (Child p w) = map (reported_at p) (filter (λ c. not (is_ended_at p c)) rows)
after_wait rows _ = rows
