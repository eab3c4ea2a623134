-- method: the code of a move changes the bag in place, by what is kept of the record of who moves and by counts that were taken before
use Rattle.std.specs.Prelude.{ℕ, ℤ, pos, negsuc, Bool, true, false, ◌≡◌, ◌<◌, ◌≤◌, ◌+◌, ◌-◌, List, [], ◌∷◌, length, map, All, Option, None, Some, IsSome}
use Rattle.std.specs.Option.{option_map}
use Rattle.unix_names.specs.declared.Pid.{Pid}
use Rattle.unix_calls.specs.declared.Call.{Call}
use Rattle.unix_calls.specs.declared.Call.TheVariants.{Setpgid, Setsid}
use Rattle.unix_calls.specs.declared.Reply.{Reply}
use Rattle.unix_calls.specs.declared.Entry.TheVariants.{Called}
use Rattle.unix_calls.specs.declared.Phase.TheVariants as phase
use Rattle.signal_state.specs.Signals.{Signals}
use Rattle.signal_state.specs.declared.Own.{Own}
use Rattle.vproc_record.specs.declared.Vproc.{Vproc}
use Rattle.group_record.specs.declared.Group.{Group}
use Rattle.group_record.specs.Groups.{joined, left}
use Rattle.ordered_table.specs.declared.Entry.{Entry}
use Rattle.ordered_table.specs.Entries.{with_each}
use Rattle.record_bag.specs.declared.bag.Bag.{Bag}
use Rattle.record_bag.specs.declared.vector.Decided.{Decided}
use Rattle.process_table.specs.Rows.{is_same}
use Rattle.decide_law.specs.Agrees.{group_at}
use Rattle.decide_law.specs.Counts.{is_link_to, is_stopped_to, count_passing}
use Rattle.decide_law.specs.Effects.{only, changed, emptied, settled_for, regroups, or_empty, unless_empty, Effect, decided_by, written}
use Rattle.decide_law.specs.Told.{wanted_group}
use Rattle.ops_groups.specs.Move.{GroupInSession, moved_vproc, moved_group}
use Rattle.ops_groups.specs.declared.mover.Place.{Place}
use Rattle.ops_groups.specs.declared.mover.Mover.{Mover}
use Rattle.ops_groups.specs.declared.tallies.Counts.{Counts}
use Rattle.ops_groups.specs.declared.moves.Change.{Change}

-- the calls that may move a process from group to group
abbrev pub IsMoveCall : Call → Type 0
IsMoveCall (Setpgid t q) = Unit {0}
IsMoveCall Setsid = Unit {0}
IsMoveCall _ = ⊥

abbrev pub in_session : Place → GroupInSession
in_session place = record { group = place.group; session = place.session }

-- the group that setpgid names; a negative number names none
abbrev pub named_group : Vproc → ℕ → ℤ → Pid
named_group v t (pos q) = wanted_group v t q
named_group v t (negsuc n) = v.pid

-- counts so small that a few more fit 32 bits
pub record IsCounted (g : Group) : Type 0 where
  pub links : g.links < 1000000
  pub stopped : g.stopped < 1000000

abbrev pub IsCountedIn : Option Group → Type 0
IsCountedIn None = Unit {0}
IsCountedIn (Some g) = IsCounted g

-- ---- the caller is settled in two steps
-- its record once it has taken its backlog
abbrev pub backlog_taken : Pid → Bag → Bag
backlog_taken p bag = record bag { vprocs = with_each (only p (option_map emptied)) bag.vprocs }

-- its group once it has taken its part of the log
abbrev pub group_settled : Pid → Pid → Bag → Bag
group_settled p id bag = record bag { groups = with_each (only id (option_map (settled_for p))) bag.groups }

-- ---- a move
-- what is kept of the record of who moves
abbrev pub mover_of : Vproc → Mover
mover_of u = record { pid = u.pid; uid = u.uid; group = u.group; near = u.pid ∷ u.children }

-- of these processes, the links and stopped members of a group
abbrev pub counts_in : Bag → List Pid → Pid → Counts
counts_in bag near id = record { links = count_passing bag (is_link_to bag id) near; stopped = count_passing bag (is_stopped_to id) near }

-- the same of each group
abbrev pub counts_by_group : Bag → List Pid → List (Entry (Option Group)) → List Counts
counts_by_group bag near groups = map (λ e. counts_in bag near e.pid) groups

-- a group, empty if it is absent, once who moves has become its last member
abbrev pub joined_to : Mover → GroupInSession → Option Group → Option Group
joined_to m new h = Some (joined (left (or_empty new.group new.session h) m.pid) m.pid m.uid)

-- the bag once the record of who moves tells of the new group, where it is a member
abbrev pub joined_bag : Bag → Mover → Group → GroupInSession → Bag
joined_bag bag m old new = changed (only m.pid (option_map (moved_vproc old new))) (only new.group (joined_to m new)) bag

-- a group with these counts before and with what the later bag tells, where of all processes only these may have changed
abbrev pub recounted_from : Counts → Bag → List Pid → Pid → Group → Group
recounted_from before later near id g = record g {
  links = (g.links + count_passing later (is_link_to later id) near) - before.links;
  stopped = (g.stopped + count_passing later (is_stopped_to id) near) - before.stopped;
}

-- who moves leaves each group that it has not joined
abbrev pub left_unless : Bool → Pid → Group → Group
left_unless true p g = g
left_unless false p g = left g p

-- what is held of a group, from what it was once who moves had joined the new one
abbrev pub regrouped_by : Counts → Bag → Mover → Pid → Pid → Option Group → Option Group
regrouped_by before later m to id None = None
regrouped_by before later m to id (Some g) = unless_empty (left_unless (is_same to id) m.pid (recounted_from before later m.near id g))

-- the entries, where as many of the first as there are counts have changed, each by its count
abbrev pub with_counts : {C T : Type 0} → (C → Pid → T → T) → List C → List (Entry T) → List (Entry T)
with_counts f [] es = es
with_counts f (c ∷ cs) [] = []
with_counts f (c ∷ cs) (e ∷ es) = (record { pid = e.pid; value = f c e.pid e.value }) ∷ with_counts f cs es

-- the bag that a move of u leaves
abbrev pub moved_bag : Bag → Vproc → Group → GroupInSession → Bag
moved_bag bag u old new = changed (only u.pid (option_map (moved_vproc old new))) (regroups new.session (moved_group bag u old new)) bag

-- no member's part of the log begins after its end
abbrev pub IsWithin : Group → Type 0
IsWithin g = All (λ m. m.from ≤ length g.log) g.members

-- a decision of p that answers this call
abbrev pub decided_as : Pid → Call → Own → Reply → List Pid → Decided
decided_as p call own reply nudges = record { entry = Some (Called p call reply); own = own; phase = phase.Ready; born = None; nudges = nudges }

-- what the code made of this bag is what this effect of a call of p is, and what is held and begins within its log stays so
pub record IsChange (bag later : Bag) (p : Pid) (call : Call) (sig : Signals) (x : Effect) (change : Change) : Type 0 where
  pub decided : decided_by x ≡ decided_as p call (record { sig = sig; taken = 0 }) change.reply change.nudges
  pub left : later ≡ written x bag
  pub held : (id : Pid) → IsSome (group_at bag id) → IsSome (group_at later id)
  pub within : (id : Pid) → ((g : Group) → group_at bag id ≡ Some (Some g) → IsWithin g) → (g : Group) → group_at later id ≡ Some (Some g) → IsWithin g

abbrev pub ChangesAs : Bag → Bag → Pid → Call → (Signals → Effect) → Change → Type 0
ChangesAs bag later p call x change = (sig : Signals) → IsChange bag later p call sig (x sig) change
