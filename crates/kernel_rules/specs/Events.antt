-- when a process may call, what may happen to it without a call of its own, and what that changes (POSIX.1-2017, XSH 2.4)
use Rattle.std.specs.Prelude.{◌≡◌, ◌==◌, ◌&&◌, ◌||◌, Bool, List, false, map, not, true}
use Rattle.unix_names.specs.Sets.{has}
use Rattle.unix_names.specs.Signals.{default_of, number_of}
use Rattle.unix_names.specs.declared.DefaultAct.{DefaultAct}
use Rattle.unix_names.specs.declared.DefaultAct.TheVariants.{End, StopIt}
use Rattle.unix_names.specs.declared.Signal.{Signal}
use Rattle.unix_names.specs.declared.Signal.TheVariants.{Kill, Stop, Tstp, Ttin, Ttou}
use Rattle.unix_names.specs.declared.WaitStatus.TheVariants as status
use Rattle.unix_calls.specs.declared.Event.{Event}
use Rattle.unix_calls.specs.declared.Event.TheVariants.{Caught, Continued, Discarded, EndedBy, Moved, StoppedBy}
use Rattle.signal_state.specs.Signals.{Signals}
use Rattle.signal_state.specs.Sig.{deliverable, is_dropped_by_default}
use Rattle.process_table.specs.Changes.{continued_at, delivered_at, received, sent_nothing, stopped_at}
use Rattle.process_table.specs.Orphans.{is_orphaned}
use Rattle.process_table.specs.declared.Row.{Row}
use Rattle.kernel_rules.specs.Ending.{after_end, sent_by_end, sent_to_parent}

-- ---- when it may call
-- the process is not stopped, and nothing is deliverable to it
abbrev pub can_call : Row → Bool
can_call r = not r.sig.stopped && (deliverable r.sig == 0)

-- the process is stopped, and stays so: it isn't due to continue, and no KILL is pending
pub record StaysStopped (r : Row) : Type 0 where
  pub stopped : r.sig.stopped ≡ true
  pub not_due : r.sig.due ≡ false
  pub not_killed : has r.sig.pending Kill ≡ false

-- ---- what a signal does, from the process's signals and whether its group is orphaned
abbrev pub is_deliverable_in : Signals → Signal → Bool
is_deliverable_in x s = has (deliverable x) s

-- the action is neither to ignore the signal nor to catch it
abbrev pub has_default_action_in : Signals → Signal → Bool
has_default_action_in x s = not (has x.ignored s) && not (has x.caught s)

-- the signal is deliverable, and its action is the default
abbrev pub acts_by_default_in : Signals → Signal → Bool
acts_by_default_in x s = is_deliverable_in x s && has_default_action_in x s

abbrev pub is_caught_in : Signals → Signal → Bool
is_caught_in x s = is_deliverable_in x s && has x.caught s

abbrev pub is_stop_act : DefaultAct → Bool
is_stop_act StopIt = true
is_stop_act _ = false

abbrev pub is_end_act : DefaultAct → Bool
is_end_act End = true
is_end_act _ = false

abbrev pub is_stop_signal : Signal → Bool
is_stop_signal s = is_stop_act (default_of s)

-- the signal whose stop no orphaned group is spared
abbrev pub is_plain_stop : Signal → Bool
is_plain_stop s = number_of s == number_of Stop

-- a stop signal from a terminal is deliverable
abbrev pub has_terminal_stop_in : Signals → Bool
has_terminal_stop_in x = is_deliverable_in x Tstp || (is_deliverable_in x Ttin || is_deliverable_in x Ttou)

-- a stop signal from a terminal, which an orphaned group is spared
abbrev pub is_spared_in : Bool → Signal → Bool
is_spared_in orphaned s = is_stop_signal s && (not (is_plain_stop s) && orphaned)

abbrev pub is_discarded_in : Signals → Bool → Signal → Bool
is_discarded_in x orphaned s = acts_by_default_in x s && (is_dropped_by_default s || is_spared_in orphaned s)

abbrev pub stops_in : Signals → Bool → Signal → Bool
stops_in x orphaned s = acts_by_default_in x s && (is_stop_signal s && (is_plain_stop s || not orphaned))

abbrev pub ends_in : Signals → Signal → Bool
ends_in x s = acts_by_default_in x s && is_end_act (default_of s)

-- ---- the same of the process of row r
abbrev pub is_deliverable : Row → Signal → Bool
is_deliverable r s = is_deliverable_in r.sig s

abbrev pub has_default_action : Row → Signal → Bool
has_default_action r s = has_default_action_in r.sig s

abbrev pub acts_by_default : Row → Signal → Bool
acts_by_default r s = acts_by_default_in r.sig s

abbrev pub is_caught : Row → Signal → Bool
is_caught r s = is_caught_in r.sig s

abbrev pub has_terminal_stop : Row → Bool
has_terminal_stop r = has_terminal_stop_in r.sig

abbrev pub is_spared : List Row → Row → Signal → Bool
is_spared rows r s = is_spared_in (is_orphaned rows r.group) s

abbrev pub is_discarded : List Row → Row → Signal → Bool
is_discarded rows r s = is_discarded_in r.sig (is_orphaned rows r.group) s

abbrev pub stops : List Row → Row → Signal → Bool
stops rows r s = stops_in r.sig (is_orphaned rows r.group) s

abbrev pub ends : Row → Signal → Bool
ends r s = ends_in r.sig s

-- ---- what may happen
-- the event may happen to the process of row r
abbrev pub may_happen : List Row → Row → Event → Bool
may_happen rows r (Caught s) = is_caught r s
may_happen rows r (Discarded s) = is_discarded rows r s
may_happen rows r (StoppedBy s) = stops rows r s
may_happen rows r (EndedBy s) = ends r s
may_happen rows r Continued = r.sig.due
may_happen rows r Moved = can_call r

-- ---- the table after it
-- the table after the event; a signal that ends the process stays pending in its row
abbrev pub after_event : List Row → Row → Event → List Row
after_event rows r (Caught s) = map (delivered_at r.pid s) rows
after_event rows r (Discarded s) = map (delivered_at r.pid s) rows
after_event rows r (StoppedBy s) = received (sent_to_parent r) (map (stopped_at r.pid s) rows)
after_event rows r (EndedBy s) = after_end rows r (status.Killed s)
after_event rows r Continued = received (sent_to_parent r) (map (continued_at r.pid) rows)
after_event rows r Moved = rows

-- ---- what it sends
abbrev pub sent_by_event : List Row → Row → Event → Row → List Signal
sent_by_event rows r (StoppedBy s) = sent_to_parent r
sent_by_event rows r (EndedBy s) = sent_by_end rows r (status.Killed s)
sent_by_event rows r Continued = sent_to_parent r
sent_by_event rows r _ = sent_nothing
