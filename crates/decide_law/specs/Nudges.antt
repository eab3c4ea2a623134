-- whom a decision nudges, in order: those to whom something may have happened while they slept
use Rattle.std.specs.Prelude.{ℕ, ◌==◌, ◌||◌, not, List, [], ◌∷◌, ◌++◌, map, filter, flat_map, Option, None, Some, if◌then◌else◌}
use Rattle.unix_names.specs.declared.Pid.{Pid}
use Rattle.unix_names.specs.declared.Signal.{Signal}
use Rattle.unix_names.specs.Signals.{signal_of}
use Rattle.unix_names.specs.States.{is_living}
use Rattle.unix_calls.specs.declared.Call.{Call}
use Rattle.unix_calls.specs.declared.Call.TheVariants.{Exit, Kill, Setpgid, Setsid}
use Rattle.unix_calls.specs.declared.Reply.{Reply}
use Rattle.unix_calls.specs.declared.Reply.TheVariants.{Fine, Number, NoReply}
use Rattle.unix_calls.specs.declared.Event.{Event}
use Rattle.unix_calls.specs.declared.Event.TheVariants.{StoppedBy, EndedBy, Continued}
use Rattle.unix_calls.specs.declared.Entry.{Entry}
use Rattle.unix_calls.specs.declared.Entry.TheVariants.{Called, Happened}
use Rattle.unix_calls.specs.declared.Target.{Target}
use Rattle.unix_calls.specs.declared.Target.TheVariants.{OwnGroup, One, InGroup}
use Rattle.unix_calls.specs.Calls.{target_of}
use Rattle.group_record.specs.declared.Member.{Member}
use Rattle.group_record.specs.declared.Group.{Group}
use Rattle.ordered_table.specs.declared.Entry.{Entry as Held}
use Rattle.record_bag.specs.declared.bag.Bag.{Bag}
use Rattle.record_bag.specs.Bags.{group_in}
use Rattle.process_table.specs.declared.Row.{Row}
use Rattle.process_table.specs.Rows.{pid, row_of}
use Rattle.kernel_rules.specs.Orphans.{is_newly_orphaned}

-- ---- parts of the list
-- the parent of a process, unless it is the system process
abbrev pub parent_of_row : Option Row → List Pid
parent_of_row None = []
parent_of_row (Some r) = if r.parent.0 == 1 then [] else r.parent ∷ []

-- a process, unless it is the caller
abbrev pub but_caller : Pid → Pid → List Pid
but_caller p q = if q.0 == p.0 then [] else q ∷ []

-- a process, unless it is the caller or the system process
abbrev pub but_system : Pid → Pid → List Pid
but_system p q = if (q.0 == p.0) || (q.0 == 1) then [] else q ∷ []

-- the members but p, in the order of the list
abbrev pub others_of : Pid → List Member → List Pid
others_of p members = map (λ m. m.pid) (filter (λ m. not (m.pid.0 == p.0)) members)

abbrev pub others_in : Pid → Option Group → List Pid
others_in p None = []
others_in p (Some g) = others_of p g.members

-- ---- what was done
-- a signal to a process: it, if it lives
abbrev pub if_living : Pid → Pid → Option Row → List Pid
if_living p t None = []
if_living p t (Some c) = if is_living c.life then but_caller p t else []

abbrev pub own_group : Bag → Option Row → Option Group
own_group bag None = None
own_group bag (Some r) = group_in bag r.group

-- a signal that was sent to a process, or to a group: the process, or each member but the caller
abbrev pub target_nudges : List Row → Pid → Bag → Target → List Pid
target_nudges rows p bag OwnGroup = others_in p (own_group bag (row_of rows p))
target_nudges rows p bag (One t) = if_living p t (row_of rows t)
target_nudges rows p bag (InGroup g) = others_in p (group_in bag g)

-- 0 is no signal
abbrev pub signal_nudges : List Row → Pid → Bag → Target → Option Signal → List Pid
signal_nudges rows p bag target None = []
signal_nudges rows p bag target (Some s) = target_nudges rows p bag target

-- a process whose group changed: it, and then its parent, but not the caller
abbrev pub moved_nudges : Pid → Option Row → Option Row → List Pid
moved_nudges p (Some was) (Some now) = if was.group.0 == now.group.0 then [] else but_system p was.pid ++ but_system p was.parent
moved_nudges p _ _ = []

abbrev pub named_by : Pid → ℕ → Pid
named_by p t = if t == 0 then p else pid t

-- a group that an end left orphaned with a stopped member: each member but p
abbrev pub orphan_nudges : List Row → List Row → Pid → Held (Option Group) → List Pid
orphan_nudges rows now p h = if is_newly_orphaned rows now h.pid then others_in p h.value else []

-- an end: the parent, and then by group those that it left orphaned, as the records list them afterwards
abbrev pub end_nudges : List Row → List Row → Pid → Bag → List Pid
end_nudges rows now p left = parent_of_row (row_of rows p) ++ flat_map (orphan_nudges rows now p) left.groups

-- ---- by the entry
abbrev pub fine_nudges : List Row → List Row → Pid → Bag → Call → List Pid
fine_nudges rows now p bag (Kill target s) = signal_nudges rows p bag (target_of target) (signal_of s)
fine_nudges rows now p bag (Setpgid t q) = moved_nudges p (row_of rows (named_by p t)) (row_of now (named_by p t))
fine_nudges rows now p bag _ = []

abbrev pub number_nudges : List Row → Pid → Call → List Pid
number_nudges rows p Setsid = parent_of_row (row_of rows p)
number_nudges rows p _ = []

abbrev pub last_nudges : List Row → List Row → Pid → Bag → Call → List Pid
last_nudges rows now p left (Exit n) = end_nudges rows now p left
last_nudges rows now p left _ = []

abbrev pub call_nudges : List Row → List Row → Pid → Bag → Bag → Reply → Call → List Pid
call_nudges rows now p bag left Fine call = fine_nudges rows now p bag call
call_nudges rows now p bag left (Number n) call = number_nudges rows p call
call_nudges rows now p bag left NoReply call = last_nudges rows now p left call
call_nudges rows now p bag left _ call = []

abbrev pub event_nudges : List Row → List Row → Pid → Bag → Event → List Pid
event_nudges rows now p left (StoppedBy s) = parent_of_row (row_of rows p)
event_nudges rows now p left (EndedBy s) = end_nudges rows now p left
event_nudges rows now p left Continued = parent_of_row (row_of rows p)
event_nudges rows now p left _ = []

-- whom the decision of p nudges, from one table to the next, over a bag, leaving another
abbrev pub nudges_of : List Row → List Row → Pid → Bag → Bag → Option Entry → List Pid
nudges_of rows now p bag left None = []
nudges_of rows now p bag left (Some (Called q call reply)) = call_nudges rows now p bag left reply call
nudges_of rows now p bag left (Some (Happened q event)) = event_nudges rows now p left event
