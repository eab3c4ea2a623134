-- the end of a process, decided on records (POSIX.1-2017, XSH _Exit)
use Rattle.std.specs.Prelude.{ℕ, Bool, false, ◌==◌, ◌%◌, ◌&&◌, ◌||◌, not, List, [], ◌∷◌, ◌++◌, filter, flat_map, Option, None, Some, if◌then◌else◌}
use Rattle.std.specs.Option.{option_map}
use Rattle.list_laws.specs.Keyed.{option_filter}
use Rattle.unix_names.specs.declared.Pid.{Pid}
use Rattle.unix_names.specs.declared.Life.TheVariants.{Ended}
use Rattle.unix_names.specs.declared.Signal.{Signal}
use Rattle.unix_names.specs.declared.Signal.TheVariants.{Hup, Chld, Cont}
use Rattle.unix_names.specs.declared.WaitStatus.{WaitStatus}
use Rattle.unix_names.specs.declared.WaitStatus.TheVariants as status
use Rattle.unix_names.specs.States.{is_living}
use Rattle.unix_calls.specs.declared.Call.TheVariants.{Exit}
use Rattle.unix_calls.specs.declared.Reply.TheVariants.{NoReply}
use Rattle.unix_calls.specs.declared.Event.TheVariants.{EndedBy}
use Rattle.unix_calls.specs.declared.Entry.{Entry}
use Rattle.unix_calls.specs.declared.Entry.TheVariants.{Called, Happened}
use Rattle.unix_calls.specs.declared.Phase.TheVariants as phase
use Rattle.signal_state.specs.Signals.{Signals}
use Rattle.vproc_record.specs.declared.Vproc.{Vproc}
use Rattle.group_record.specs.declared.Member.{Member}
use Rattle.group_record.specs.declared.LogEntry.{LogEntry}
use Rattle.group_record.specs.declared.Group.{Group}
use Rattle.ordered_table.specs.declared.Entry.{Entry as Held}
use Rattle.record_bag.specs.declared.bag.Bag.{Bag}
use Rattle.record_bag.specs.Bags.{vproc_in, group_in}
use Rattle.process_table.specs.Rows.{pid}
use Rattle.decide_law.specs.Effects.{changed, same, regroups, to_one, to_all, Effect}
use Rattle.decide_law.specs.Counts.{passes, recounted}
use Rattle.decide_law.specs.Nudges.{others_of}

-- ---- records of processes
-- nobody waits for it: its parent is the system process, or ignores the signal of a child's end
abbrev pub vanishes : Bag → Vproc → Bool
vanishes bag v = (v.parent.0 == 1) || passes (λ d. d.ignchld) (vproc_in bag v.parent)

-- the record goes: that of p itself, where nobody waits, and that of a child that has ended
abbrev pub goes : Pid → Bool → Vproc → Bool
goes p vanished v = ((v.pid.0 == p.0) && vanished) || ((v.parent.0 == p.0) && not (is_living v.life))

-- a record that stays: that of p ends and has no children, a child goes to the system process, and the parent has a child less where nobody waits
abbrev pub left_vproc : Pid → Bool → WaitStatus → Vproc → Vproc
left_vproc p vanished w v = record v {
  parent = if v.parent.0 == p.0 then pid 1 else v.parent;
  life = if v.pid.0 == p.0 then Ended w else v.life;
  change = if v.pid.0 == p.0 then None else v.change;
  children = if v.pid.0 == p.0 then [] else filter (λ c. not ((c.0 == p.0) && vanished)) v.children;
}

abbrev pub ended_vproc : Pid → Bool → WaitStatus → Pid → Option Vproc → Option Vproc
ended_vproc p vanished w q h = option_map (left_vproc p vanished w) (option_filter (λ v. not (goes p vanished v)) h)

-- the bag once the records of processes tell of the end
abbrev pub ended_vprocs : Bag → Pid → Bool → WaitStatus → Bag
ended_vprocs bag p vanished w = changed (ended_vproc p vanished w) same bag

-- ---- records of groups
-- the counts after the end, of which p and its children alone may have changed
abbrev pub ended_counts : Bag → WaitStatus → Pid → List Pid → Bool → Pid → Group → Group
ended_counts bag w p children vanished id g = recounted bag (ended_vprocs bag p vanished w) (p ∷ children) id g

-- by its counts the group is orphaned by this end, and has a stopped member
abbrev pub is_newly_orphaned : Group → Group → Bool
is_newly_orphaned g later = not (g.links == 0) && ((later.links == 0) && not (later.stopped == 0))

abbrev pub is_newly : Bag → WaitStatus → Pid → List Pid → Bool → Pid → Group → Bool
is_newly bag w p children vanished id g = is_newly_orphaned g (ended_counts bag w p children vanished id g)

-- what the log of a group gets: the parent's signal, if it is a member; then a hangup and a continue, if this end leaves it orphaned
abbrev pub end_entries : Bag → WaitStatus → Pid → Pid → List Pid → Bool → Pid → Group → List LogEntry
end_entries bag w p parent children vanished id g =
    (if passes (λ d. d.group.0 == id.0) (vproc_in bag parent) then to_one Chld parent ∷ [] else [])
    ++ (if is_newly bag w p children vanished id g then to_all Hup ∷ to_all Cont ∷ [] else [])

-- the members whose records stay
abbrev pub left_members : Bag → Pid → Bool → Group → List Member
left_members bag p vanished g = filter (λ m. not (passes (goes p vanished) (vproc_in bag m.pid))) g.members

abbrev pub left_group : Bag → WaitStatus → Pid → Pid → List Pid → Bool → Pid → Group → Group
left_group bag w p parent children vanished id g = record (ended_counts bag w p children vanished id g) {
  members = left_members bag p vanished g;
  log = g.log ++ end_entries bag w p parent children vanished id g;
}

-- ---- nudges
-- a test of a group's record, which none passes where there is none
abbrev pub passes_group : (Group → Bool) → Option Group → Bool
passes_group test None = false
passes_group test (Some g) = test g

-- by what is held under its id, this end leaves the group orphaned with a stopped member
abbrev pub leaves_orphaned : Bag → WaitStatus → Pid → List Pid → Bool → Pid → Bool
leaves_orphaned bag w p children vanished id = passes_group (is_newly bag w p children vanished id) (group_in bag id)

-- the members but p of a group that this end leaves orphaned
abbrev pub nudged_in : Bag → WaitStatus → Pid → List Pid → Bool → Pid → Option Group → List Pid
nudged_in bag w p children vanished id None = []
nudged_in bag w p children vanished id (Some g) = if leaves_orphaned bag w p children vanished id then others_of p (left_members bag p vanished g) else []

-- the parent, where it is not the system process; then those members, by group and in the order of the list
abbrev pub end_nudges : Bag → WaitStatus → Pid → Pid → List Pid → Bool → List Pid
end_nudges bag w p parent children vanished = (if parent.0 == 1 then [] else parent ∷ []) ++ flat_map (λ (h : Held (Option Group)). nudged_in bag w p children vanished h.pid h.value) bag.groups

-- ---- the effect
-- the end of p, with its parent, its children, its session, and whether nobody waits
abbrev pub end_by : Bag → Signals → Entry → WaitStatus → Pid → Pid → List Pid → Bool → Pid → Effect
end_by bag sig e w p parent children vanished session = record {
  entry = Some e;
  sig = sig;
  phase = phase.Gone;
  born = None;
  nudges = end_nudges bag w p parent children vanished;
  vprocs = ended_vproc p vanished w;
  groups = regroups session (left_group bag w p parent children vanished);
}

-- the end of the caller v with this status
abbrev pub end_effect : Bag → Signals → Vproc → Entry → WaitStatus → Effect
end_effect bag sig v e w = end_by bag sig e w v.pid v.parent v.children (vanishes bag v) v.session

-- exit
abbrev pub exit_effect : Bag → Signals → Pid → Vproc → ℕ → Effect
exit_effect bag sig p v n = end_effect bag sig v (Called p (Exit n) NoReply) (status.Exited (n % 256))

-- a signal that ends the process; it stays in its pending set
abbrev pub killed_effect : Bag → Signals → Pid → Vproc → Signal → Effect
killed_effect bag sig p v s = end_effect bag sig v (Happened p (EndedBy s)) (status.Killed s)
