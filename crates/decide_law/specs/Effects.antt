-- what all decisions that are done have in common: the caller takes in its tail and is settled, the decision writes, and the group that the caller had is trimmed
use Rattle.std.specs.Prelude.{◌==◌, List, [], ◌∷◌, Option, None, Some, if◌then◌else◌}
use Rattle.std.specs.Option.{option_map}
use Rattle.unix_names.specs.declared.Pid.{Pid}
use Rattle.unix_calls.specs.declared.Entry.{Entry}
use Rattle.unix_calls.specs.declared.Entry.TheVariants.{Called}
use Rattle.unix_calls.specs.declared.Call.{Call}
use Rattle.unix_calls.specs.declared.Reply.{Reply}
use Rattle.unix_calls.specs.declared.Reply.TheVariants.{Refused}
use Rattle.unix_names.specs.declared.Errno.{Errno}
use Rattle.unix_names.specs.declared.Signal.{Signal}
use Rattle.unix_calls.specs.declared.Phase.{Phase}
use Rattle.unix_calls.specs.declared.Phase.TheVariants as phase
use Rattle.signal_state.specs.Signals.{Signals}
use Rattle.signal_state.specs.Sig.{generated_all}
use Rattle.signal_state.specs.declared.Own.{Own}
use Rattle.vproc_record.specs.declared.Vproc.{Vproc}
use Rattle.group_record.specs.declared.Member.{Member}
use Rattle.group_record.specs.declared.Group.{Group}
use Rattle.group_record.specs.declared.LogEntry.{LogEntry}
use Rattle.group_record.specs.declared.Allow.TheVariants.{All}
use Rattle.group_record.specs.Groups.{settled, trimmed, with_entry}
use Rattle.sig_stream.specs.Streams.{tail}
use Rattle.ordered_table.specs.Entries.{with_each}
use Rattle.record_bag.specs.declared.bag.Bag.{Bag}
use Rattle.record_bag.specs.declared.vector.Decided.{Decided}
use Rattle.record_bag.specs.declared.vector.Outcome.TheVariants as outcome
use Rattle.record_bag.specs.Decisions.{Answered, answered}
use Rattle.record_bag.specs.Bags.{vproc_in, group_in}
use Rattle.unix_names.specs.declared.Name.TheVariants.{V, G}

-- ---- signals
-- a signal to one process, whoever may send it
abbrev pub to_one : Signal → Pid → LogEntry
to_one s q = record { signal = s; target = Some q; allow = All }

-- a signal to each member of a group
abbrev pub to_all : Signal → LogEntry
to_all s = record { signal = s; target = None; allow = All }

-- ---- changes of what is held
-- a change of what is held under one id
abbrev pub only : {T : Type 0} → Pid → (T → T) → Pid → T → T
only p f q x = if q.0 == p.0 then f x else x

-- the bag after a change of each record that is held
abbrev pub changed : (Pid → Option Vproc → Option Vproc) → (Pid → Option Group → Option Group) → Bag → Bag
changed f g bag = record { vprocs = with_each f bag.vprocs; groups = with_each g bag.groups }

-- what is held stays
abbrev pub same : {T : Type 0} → Pid → T → T
same q x = x

-- a group without members is absent
abbrev pub unless_empty_by : List Member → Group → Option Group
unless_empty_by [] g = None
unless_empty_by (m ∷ ms) g = Some g

abbrev pub unless_empty : Group → Option Group
unless_empty g = unless_empty_by g.members g

-- a group that nobody is in
abbrev pub empty_group : Pid → Pid → Group
empty_group id session = record { id = id; session = session; members = []; log = []; links = 0; stopped = 0 }

-- an absent group stands for one that nobody is in
abbrev pub or_empty : Pid → Pid → Option Group → Group
or_empty id session None = empty_group id session
or_empty id session (Some g) = g

-- a change of groups that takes an absent one for an empty one, and leaves an empty one absent; a group that comes has this session
abbrev pub regroups : Pid → (Pid → Group → Group) → Pid → Option Group → Option Group
regroups session f id h = unless_empty (f id (or_empty id session h))

-- ---- folding, settling, trimming
-- what the process carries once it has taken its whole stream
abbrev pub folded : Own → Vproc → Group → Own
folded own v g = record { sig = generated_all own.sig (tail own.taken v g); taken = 0 }

abbrev pub emptied : Vproc → Vproc
emptied v = record v { backlog = [] }

abbrev pub settled_for : Pid → Group → Group
settled_for p g = settled g p

-- the process p of this group has taken its whole stream
abbrev pub settled_in : Pid → Pid → Bag → Bag
settled_in p id bag = changed (only p (option_map emptied)) (only id (option_map (settled_for p))) bag

-- the group is trimmed, where it is present
abbrev pub trimmed_in : Pid → Bag → Bag
trimmed_in id bag = record bag { groups = with_each (only id (option_map trimmed)) bag.groups }

-- ---- effects
-- what one decision does beside that: its entry, the caller's own signals, its phase, the nudges, and what it writes
pub record Effect : Type 0 where
  pub entry : Option Entry
  pub sig : Signals
  pub phase : Phase
  pub born : Option Vproc
  pub nudges : List Pid
  pub vprocs : Pid → Option Vproc → Option Vproc
  pub groups : Pid → Option Group → Option Group

abbrev pub decided_by : Effect → Decided
decided_by x = record { entry = x.entry; own = record { sig = x.sig; taken = 0 }; phase = x.phase; born = x.born; nudges = x.nudges }

-- the bag that an effect leaves of a settled one
abbrev pub written : Effect → Bag → Bag
written x bag = changed x.vprocs x.groups bag

-- the bag that is left of the whole decision
abbrev pub left_by : Effect → Pid → Pid → Bag → Bag
left_by x p id bag = trimmed_in id (written x (settled_in p id bag))

-- the effect that writes nothing: the caller's signals are as folded, and nobody is nudged
abbrev pub quiet : Option Entry → Signals → Phase → Effect
quiet entry sig phase = record { entry = entry; sig = sig; phase = phase; born = None; nudges = []; vprocs = same; groups = same }

-- the effect that changes the record of one process alone, which keeps its group, and the caller's signals
abbrev pub plain : Option Entry → Signals → Phase → Pid → (Vproc → Vproc) → Effect
plain entry sig phase t f = record { entry = entry; sig = sig; phase = phase; born = None; nudges = []; vprocs = only t (option_map f); groups = same }

-- ---- answers
-- the whole answer of a decision of p with this effect, which has its footprint
abbrev pub done_by : Pid → Vproc → Bag → Effect → Answered
done_by p v bag x = answered (outcome.Done (decided_by x)) (left_by x p v.group bag)

-- the answer on the records of a process and of its group; where one is not there, it is needed
abbrev pub on_group : (Vproc → Group → Answered) → Bag → Vproc → Option Group → Answered
on_group answer bag v None = answered (outcome.Need (G v.group ∷ [])) bag
on_group answer bag v (Some g) = answer v g

abbrev pub on_vproc : (Vproc → Group → Answered) → Pid → Bag → Option Vproc → Answered
on_vproc answer p bag None = answered (outcome.Need (V p ∷ [])) bag
on_vproc answer p bag (Some v) = on_group answer bag v (group_in bag v.group)

abbrev pub on_base : (Vproc → Group → Answered) → Pid → Bag → Answered
on_base answer p bag = on_vproc answer p bag (vproc_in bag p)

-- a group with an entry more in its log
abbrev pub told_to : LogEntry → Group → Group
told_to e g = with_entry g e

-- the effect that appends one entry to the log of one group
abbrev pub append : Option Entry → Signals → Phase → List Pid → Pid → LogEntry → Effect
append entry sig phase nudges id e = record { entry = entry; sig = sig; phase = phase; born = None; nudges = nudges; vprocs = same; groups = only id (option_map (told_to e)) }

-- a reply that changes nothing
abbrev pub replied : Pid → Call → Reply → Signals → Effect
replied p call reply sig = quiet (Some (Called p call reply)) sig phase.Ready

-- the effect of a call, unless it is refused
abbrev pub unless_refused : Option Errno → Pid → Call → Signals → Effect → Effect
unless_refused None p call sig x = x
unless_refused (Some e) p call sig x = replied p call (Refused e) sig
