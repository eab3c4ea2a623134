-- the names that a decision is made on
use Rattle.std.specs.Prelude.{ℕ, ℤ, pos, negsuc, Bool, true, false, ◌==◌, ◌||◌, not, nat_lt, List, [], ◌∷◌, ◌++◌, filter, flat_map, Option, None, Some, is_some, if◌then◌else◌}
use Rattle.unix_names.specs.declared.Pid.{Pid}
use Rattle.unix_names.specs.declared.Name.{Name}
use Rattle.unix_names.specs.declared.Name.TheVariants.{V, G}
use Rattle.unix_names.specs.States.{is_living}
use Rattle.unix_calls.specs.declared.Call.{Call}
use Rattle.unix_calls.specs.declared.Call.TheVariants.{Getpgid, Getsid, Exit, Waitpid, Kill, Setpgid, Setsid}
use Rattle.unix_calls.specs.declared.Event.{Event}
use Rattle.unix_calls.specs.declared.Event.TheVariants.{Discarded, StoppedBy, EndedBy, Continued}
use Rattle.unix_calls.specs.declared.Job.{Job}
use Rattle.unix_calls.specs.declared.Job.TheVariants.{Ask}
use Rattle.unix_calls.specs.declared.Target.{Target}
use Rattle.unix_calls.specs.declared.Target.TheVariants.{OwnGroup, One, InGroup}
use Rattle.unix_calls.specs.declared.Selector.{Selector}
use Rattle.unix_calls.specs.declared.Selector.TheVariants as selector
use Rattle.unix_calls.specs.Calls.{target_of, selector_of}
use Rattle.signal_state.specs.declared.Own.{Own}
use Rattle.vproc_record.specs.declared.Vproc.{Vproc}
use Rattle.group_record.specs.declared.Group.{Group}
use Rattle.ordered_table.specs.Entries.{value_at}
use Rattle.record_bag.specs.declared.bag.Bag.{Bag}
use Rattle.record_bag.specs.Bags.{is_held, vproc_in, group_in}
use Rattle.unix_names.specs.Names.{is_before}
use Rattle.process_table.specs.Rows.{pid, is_same}
use Rattle.kernel_rules.specs.Events.{is_stop_signal}
use Rattle.kernel_rules.specs.Kill.{is_sendable}
use Rattle.decide_law.specs.Effects.{folded}
use Rattle.decide_law.specs.Told.{event_told, has_child, target_pid, wanted_group, target_in, early_refusal, is_ready, first_child}

-- ---- what a held record tells
-- the group of a process
abbrev pub group_shown : Option Vproc → List Name
group_shown None = []
group_shown (Some u) = G u.group ∷ []

-- the group of one that has not ended
abbrev pub living_group_shown : Option Vproc → List Name
living_group_shown None = []
living_group_shown (Some u) = if is_living u.life then G u.group ∷ [] else []

-- a process with the group that its record tells, once it is held
abbrev pub with_group : Bag → Pid → List Name
with_group bag q = V q ∷ group_shown (vproc_in bag q)

-- the same of a living one; of one that has ended the process alone
abbrev pub with_living_group : Bag → Pid → List Name
with_living_group bag q = V q ∷ living_group_shown (vproc_in bag q)

-- the parent with its group; the system process has no records
abbrev pub parent_footprint : Bag → Vproc → List Name
parent_footprint bag v = if v.parent.0 == 1 then [] else with_group bag v.parent

-- the parent alone
abbrev pub parent_name : Vproc → List Name
parent_name v = if v.parent.0 == 1 then [] else V v.parent ∷ []

-- the children with their groups; a call on groups needs those of the living ones
abbrev pub children_footprint : Bag → Vproc → List Name
children_footprint bag v = flat_map (with_group bag) v.children

abbrev pub living_children_footprint : Bag → Vproc → List Name
living_children_footprint bag v = flat_map (with_living_group bag) v.children

-- an end: the parent, the children and all their groups
abbrev pub end_footprint : Bag → Vproc → List Name
end_footprint bag v = parent_footprint bag v ++ children_footprint bag v

-- ---- calls
-- getpgid and getsid: another process that is named
abbrev pub look_footprint : ℕ → List Name
look_footprint t = if nat_lt 1 t then V (pid t) ∷ [] else []

-- kill: the process that is named with its group, if it has not ended; or the group that is named
abbrev pub target_footprint : Bag → Target → List Name
target_footprint bag OwnGroup = []
target_footprint bag (One t) = if t.0 == 1 then [] else with_living_group bag t
target_footprint bag (InGroup g) = G g ∷ []

abbrev pub kill_footprint : Bag → Target → ℕ → List Name
kill_footprint bag target s = if is_sendable s then target_footprint bag target else []

-- setpgid: what a move takes; the parent of the caller alone, since another target is the caller's child
abbrev pub move_footprint : Bag → Vproc → Vproc → Pid → List Name
move_footprint bag v u new = G u.group ∷ G new ∷ (if is_same u.pid v.pid then parent_name u else []) ++ living_children_footprint bag u

abbrev pub move_footprint_of : Bag → Vproc → Option Vproc → Pid → List Name
move_footprint_of bag v None new = []
move_footprint_of bag v (Some u) new = move_footprint bag v u new

-- the target, if it is the caller or a child; the rest where no record of a process refuses
abbrev pub regroup_footprint : Bag → Vproc → Pid → Pid → List Name
regroup_footprint bag v t new =
    (if is_same t v.pid || has_child v t then V t ∷ [] else [])
    ++ (if is_some (early_refusal v (target_in bag v t)) then [] else move_footprint_of bag v (target_in bag v t) new)

abbrev pub setpgid_footprint : Bag → Vproc → ℕ → ℤ → List Name
setpgid_footprint bag v t (negsuc _) = []
setpgid_footprint bag v t (pos q) = regroup_footprint bag v (target_pid v t) (wanted_group v t q)

-- setsid: the group of the caller's own pid; where there is none, its parent and its children with their groups
abbrev pub setsid_rest : Bag → Vproc → Option (Option Group) → List Name
setsid_rest bag v (Some None) = parent_name v ++ living_children_footprint bag v
setsid_rest bag v _ = []

-- waitpid: the child that is named, or every child
abbrev pub selected_footprint : Vproc → Selector → List Name
selected_footprint v (selector.One c) = if has_child v c then V c ∷ [] else []
selected_footprint v _ = flat_map (λ c. V c ∷ []) v.children

-- once they are held: the group of the first that is ready, where it has ended
abbrev pub ended_group_shown : Option Vproc → List Name
ended_group_shown None = []
ended_group_shown (Some u) = if is_living u.life then [] else G u.group ∷ []

-- the names that lack
abbrev pub lacking : Bag → List Name → List Name
lacking bag names = filter (λ n. not (is_held bag n)) names

abbrev pub is_none : List Name → Bool
is_none [] = true
is_none (n ∷ ns) = false

abbrev pub wait_footprint : Bag → Vproc → Selector → Bool → Bool → List Name
wait_footprint bag v sel stopped continued =
    selected_footprint v sel ++ (if is_none (lacking bag (selected_footprint v sel)) then ended_group_shown (first_child bag v (is_ready v sel stopped continued)) else [])

-- what a call needs beside the caller and its group
abbrev pub call_footprint : Bag → Vproc → Call → List Name
call_footprint bag v (Getpgid t) = look_footprint t
call_footprint bag v (Getsid t) = look_footprint t
call_footprint bag v (Kill target s) = kill_footprint bag (target_of target) s
call_footprint bag v (Setpgid t q) = setpgid_footprint bag v t q
call_footprint bag v Setsid = G v.pid ∷ setsid_rest bag v (value_at bag.groups v.pid)
call_footprint bag v (Waitpid sel stopped continued) = wait_footprint bag v (selector_of sel) stopped continued
call_footprint bag v (Exit n) = end_footprint bag v
call_footprint bag v _ = []

-- a migration and a push change the caller's record alone, and a look nothing
abbrev pub job_footprint : Bag → Vproc → Job → List Name
job_footprint bag v (Ask call at) = call_footprint bag v call
job_footprint bag v _ = []

-- ---- events
-- a stop signal, whether it stops or is passed over, and a continuing signal the parent
abbrev pub event_footprint : Bag → Vproc → Event → List Name
event_footprint bag v (Discarded s) = if is_stop_signal s then parent_footprint bag v else []
event_footprint bag v (StoppedBy s) = parent_footprint bag v
event_footprint bag v (EndedBy s) = end_footprint bag v
event_footprint bag v Continued = parent_footprint bag v
event_footprint bag v _ = []

-- ---- the whole
-- an event that is to happen comes before the job
abbrev pub what_footprint : Bag → Vproc → Job → Option Event → List Name
what_footprint bag v job None = job_footprint bag v job
what_footprint bag v job (Some e) = event_footprint bag v e

-- whether the group is orphaned, by its count of links
abbrev pub is_orphaned : Group → Bool
is_orphaned g = g.links == 0

-- the event that comes first, once the caller has taken its tail
abbrev pub coming : Own → Vproc → Group → Option Event
coming own v g = event_told (is_orphaned g) (folded own v g).sig

abbrev pub further_in : Bag → Own → Job → Vproc → Option Group → List Name
further_in bag own job v None = []
further_in bag own job v (Some g) = what_footprint bag v job (coming own v g)

abbrev pub further : Bag → Own → Job → Option Vproc → List Name
further bag own job None = []
further bag own job (Some v) = G v.group ∷ further_in bag own job v (group_in bag v.group)

-- the names that the decision on a job of p is made on: the process and its group, and with them what the event or the job needs; a name that a held record tells is among them as soon as that record is held
abbrev pub footprint : Pid → Job → Own → Bag → List Name
footprint p job own bag = V p ∷ further bag own job (vproc_in bag p)

-- ---- what is needed
-- a name more in a rising list, unless it is there
abbrev pub with_name : Name → List Name → List Name
with_name n [] = n ∷ []
with_name n (m ∷ ms) = if is_before n m then n ∷ m ∷ ms else (if is_before m n then m ∷ with_name n ms else m ∷ ms)

-- the names in order, each once
abbrev pub in_order : List Name → List Name
in_order [] = []
in_order (n ∷ ns) = with_name n (in_order ns)

-- the names that a decision needs and that lack, in order, each once
abbrev pub needed : Bag → List Name → List Name
needed bag names = in_order (lacking bag names)
