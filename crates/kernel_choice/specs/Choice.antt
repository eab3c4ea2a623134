-- what is chosen where the rules leave a choice: the event that happens first, and the reply of a call
use Rattle.std.specs.Prelude.{ℕ, Bool, List, Option, None, Some, find, if◌then◌else◌}
use Rattle.std.specs.Option.{option_map}
use Rattle.unix_names.specs.declared.Pid.{Pid}
use Rattle.unix_names.specs.declared.Signal.{Signal}
use Rattle.unix_names.specs.declared.Signal.TheVariants as signal
use Rattle.unix_names.specs.declared.Errno.{Errno}
use Rattle.unix_names.specs.declared.Errno.TheVariants.{ESRCH}
use Rattle.unix_names.specs.declared.WaitStatus.{WaitStatus}
use Rattle.unix_names.specs.Signals.{all_signals}
use Rattle.unix_calls.specs.declared.Call.{Call}
use Rattle.unix_calls.specs.declared.Call.TheVariants.{Getpid, Getppid, Getpgid, Getsid, Fork, Exec, Exit, Waitpid, Kill, Setpgid, Setsid, Action, Mask, Pending, Migrate}
use Rattle.unix_calls.specs.declared.Reply.{Reply}
use Rattle.unix_calls.specs.declared.Reply.TheVariants.{Fine, Number, Set, Child, Again, Refused, NoReply}
use Rattle.unix_calls.specs.declared.Event.{Event}
use Rattle.unix_calls.specs.declared.Event.TheVariants.{Caught, Discarded, StoppedBy, EndedBy, Continued}
use Rattle.unix_calls.specs.Calls.{selector_of}
use Rattle.process_table.specs.declared.Row.{Row}
use Rattle.process_table.specs.Rows.{row_named}
use Rattle.kernel_rules.specs.Calls.{refusal}
use Rattle.kernel_rules.specs.Wait.{report_of, is_ready_match}
use Rattle.kernel_rules.specs.Events.{is_deliverable_in, is_caught_in, is_discarded_in, stops_in}
use Rattle.process_table.specs.Orphans.{is_orphaned}
use Rattle.signal_state.specs.Signals.{Signals}

-- ---- events, from the process's signals and whether its group is orphaned
-- what a deliverable signal does
abbrev pub event_in : Signals → Bool → Signal → Event
event_in x orphaned s =
    if is_caught_in x s then Caught s
    else (if is_discarded_in x orphaned s then Discarded s
    else (if stops_in x orphaned s then StoppedBy s
    else EndedBy s))

-- the deliverable signal with the least number
abbrev pub least_in : Signals → Option Signal
least_in x = find (is_deliverable_in x) all_signals

-- killing comes first, then continuing, then the deliverable signals in order of number
abbrev pub first_event_of : Signals → Bool → Option Event
first_event_of x orphaned =
    if is_deliverable_in x signal.Kill then Some (EndedBy signal.Kill)
    else (if x.due then Some Continued
    else option_map (event_in x orphaned) (least_in x))

-- ---- the same of the process of row r
abbrev pub event_of : List Row → Row → Signal → Event
event_of rows r s = event_in r.sig (is_orphaned rows r.group) s

abbrev pub least_deliverable : Row → Option Signal
least_deliverable r = least_in r.sig

abbrev pub first_event : List Row → Row → Option Event
first_event rows r = first_event_of r.sig (is_orphaned rows r.group)

-- ---- replies
-- the group of a row that there is
abbrev pub group_reply : Option Row → Reply
group_reply None = Refused ESRCH
group_reply (Some c) = Number c.group.0

-- the session of a row that there is
abbrev pub session_reply : Option Row → Reply
session_reply None = Refused ESRCH
session_reply (Some c) = Number c.session.0

abbrev pub report_reply : Pid → Option WaitStatus → Reply
report_reply p None = Again
report_reply p (Some w) = Child p w

-- what this child has to report; without one, that there is nothing yet
abbrev pub child_reply : Bool → Bool → Option Row → Reply
child_reply stopped continued None = Again
child_reply stopped continued (Some c) = report_reply c.pid (report_of c.life c.change stopped continued)

-- the reply of a call that is not refused: a fork's is this number, a wait's is of the first row that is ready
abbrev pub answer_of : List Row → Row → Call → ℕ → Reply
answer_of rows r Getpid fresh = Number r.pid.0
answer_of rows r Getppid fresh = Number r.parent.0
answer_of rows r (Getpgid t) fresh = group_reply (row_named rows r t)
answer_of rows r (Getsid t) fresh = session_reply (row_named rows r t)
answer_of rows r Fork fresh = Number fresh
answer_of rows r Exec fresh = Fine
answer_of rows r (Exit n) fresh = NoReply
answer_of rows r (Waitpid sel stopped continued) fresh = child_reply stopped continued (find (is_ready_match r (selector_of sel) stopped continued) rows)
answer_of rows r (Kill target s) fresh = Fine
answer_of rows r (Setpgid t q) fresh = Fine
answer_of rows r Setsid fresh = Number r.pid.0
answer_of rows r (Action s act) fresh = Fine
answer_of rows r (Mask set) fresh = Set r.sig.mask
answer_of rows r Pending fresh = Set r.sig.pending
answer_of rows r Migrate fresh = Fine

abbrev pub refused_or : Option Errno → Reply → Reply
refused_or None answer = answer
refused_or (Some e) answer = Refused e

-- the first refusal that holds, or else the answer
abbrev pub reply_of : List Row → Row → Call → ℕ → Reply
reply_of rows r call fresh = refused_or (refusal rows r call) (answer_of rows r call fresh)
