-- one step of the kernel: what the rules say of an entry, and the table after it
use Rattle.std.specs.Prelude.{if◌then◌else◌, List, None, Option, Some, not}
use Rattle.unix_names.specs.States.{is_living}
use Rattle.unix_names.specs.declared.Pid.{Pid}
use Rattle.unix_names.specs.declared.Signal.{Signal}
use Rattle.unix_calls.specs.declared.Call.{Call}
use Rattle.unix_calls.specs.declared.Entry.{Entry}
use Rattle.unix_calls.specs.declared.Entry.TheVariants.{Called, Happened}
use Rattle.unix_calls.specs.declared.Event.{Event}
use Rattle.unix_calls.specs.declared.Event.TheVariants.{Moved}
use Rattle.unix_calls.specs.declared.Reply.{Reply}
use Rattle.process_table.specs.Changes.{sent_nothing}
use Rattle.process_table.specs.Rows.{row_of}
use Rattle.process_table.specs.declared.Row.{Row}
use Rattle.kernel_rules.specs.Calls.{after_call, allows, sent_by_call}
use Rattle.kernel_rules.specs.Events.{after_event, can_call, may_happen, sent_by_event}
use Rattle.kernel_model.specs.declared.verdict.Rule.TheVariants.{SignalFirst, UnknownProcess, WrongEvent, WrongReply}
use Rattle.kernel_model.specs.declared.verdict.Verdict.{Verdict}
use Rattle.kernel_model.specs.declared.verdict.Verdict.TheVariants.{Illegal, Legal}

-- ---- what the rules say
abbrev pub call_verdict : List Row → Row → Call → Reply → Verdict
call_verdict rows r call reply =
    if not (can_call r) then Illegal SignalFirst
    else (if allows rows r call reply then Legal
    else Illegal WrongReply)

abbrev pub event_verdict : List Row → Row → Event → Verdict
event_verdict rows r Moved = if can_call r then Legal else Illegal SignalFirst
event_verdict rows r event = if may_happen rows r event then Legal else Illegal WrongEvent

abbrev pub row_verdict : List Row → Row → Entry → Verdict
row_verdict rows r (Called caller call reply) = call_verdict rows r call reply
row_verdict rows r (Happened p event) = event_verdict rows r event

-- the process that an entry speaks of
abbrev pub process_of : Entry → Pid
process_of (Called caller call reply) = caller
process_of (Happened p event) = p

abbrev pub verdict_at : List Row → Option Row → Entry → Verdict
verdict_at rows None entry = Illegal UnknownProcess
verdict_at rows (Some r) entry = if is_living r.life then row_verdict rows r entry else Illegal UnknownProcess

-- legal, or the first rule that fails: the process lives, no signal comes first, the reply is allowed, the event may happen
abbrev pub verdict : List Row → Entry → Verdict
verdict rows entry = verdict_at rows (row_of rows (process_of entry)) entry

-- ---- the table after an entry
abbrev pub row_after : List Row → Row → Entry → List Row
row_after rows r (Called caller call reply) = after_call rows r call reply
row_after rows r (Happened p event) = after_event rows r event

abbrev pub after_at : List Row → Option Row → Entry → List Row
after_at rows None entry = rows
after_at rows (Some r) entry = row_after rows r entry

-- the table after an entry that is legal there
abbrev pub after : List Row → Entry → List Row
after rows entry = after_at rows (row_of rows (process_of entry)) entry

-- ---- what an entry sends
abbrev pub sent_by_row : List Row → Row → Entry → Row → List Signal
sent_by_row rows r (Called caller call reply) = sent_by_call rows r call reply
sent_by_row rows r (Happened p event) = sent_by_event rows r event

abbrev pub sent_at : List Row → Option Row → Entry → Row → List Signal
sent_at rows None entry = sent_nothing
sent_at rows (Some r) entry = sent_by_row rows r entry

-- the signals that an entry that is legal here generates for a row, in their order; an ended row takes none of them
abbrev pub sent : List Row → Entry → Row → List Signal
sent rows entry = sent_at rows (row_of rows (process_of entry)) entry
