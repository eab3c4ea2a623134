-- fork, decided on records (POSIX.1-2017, XSH fork)
use Rattle.std.specs.Prelude.{ℕ, Bool, false, ◌++◌, nat_le, [], ◌∷◌, length, Option, None, Some, if◌then◌else◌}
use Rattle.std.specs.Option.{option_map}
use Rattle.unix_names.specs.declared.Pid.{Pid}
use Rattle.unix_names.specs.declared.NodeId.{NodeId}
use Rattle.unix_names.specs.declared.Life.TheVariants.{Runs}
use Rattle.unix_names.specs.declared.Errno.TheVariants.{EAGAIN}
use Rattle.unix_calls.specs.declared.Call.TheVariants.{Fork}
use Rattle.unix_calls.specs.declared.Reply.TheVariants.{Number, Refused}
use Rattle.unix_calls.specs.declared.Entry.TheVariants.{Called}
use Rattle.unix_calls.specs.declared.Phase.TheVariants as phase
use Rattle.signal_state.specs.Signals.{Signals}
use Rattle.signal_state.specs.declared.Own.{Own}
use Rattle.vproc_record.specs.declared.Vproc.{Vproc}
use Rattle.group_record.specs.declared.Group.{Group}
use Rattle.group_record.specs.Groups.{joined}
use Rattle.record_bag.specs.declared.bag.Bag.{Bag}
use Rattle.record_bag.specs.declared.vector.Site.{Site}
use Rattle.record_bag.specs.Decisions.{Answered}
use Rattle.decide_law.specs.Places.{named_or}
use Rattle.decide_law.specs.Arrivals.{done_at}
use Rattle.decide_law.specs.Effects.{only, folded, emptied, Effect, replied, done_by, on_base}
use Rattle.unix_names.specs.declared.limits.TheConstants.{MOST_CHILDREN}

-- the record of the child of v that is made at a site: of its parent's group, session and user, with no children and nothing on its way
abbrev pub born_record : Vproc → Site → Vproc
born_record v site = record {
  pid = site.fresh;
  parent = v.pid;
  group = v.group;
  session = v.session;
  uid = v.uid;
  life = Runs;
  change = None;
  execed = false;
  ignchld = v.ignchld;
  loc = site.node;
  children = [];
  backlog = [];
}

-- the parent's record with a child more, the last in its list
abbrev pub with_newborn : Pid → Vproc → Vproc
with_newborn q v = record v { children = v.children ++ q ∷ [] }

-- the group with a member more, of this user
abbrev pub joins : Pid → ℕ → Group → Group
joins q uid g = joined g q uid

-- the child comes: it is the last in its parent's list and the last member of its group, whose part of the log begins at its end; no count changes
abbrev pub fork_effect : Signals → Pid → Site → Vproc → Effect
fork_effect sig p site v = record {
  entry = Some (Called p Fork (Number site.fresh.0));
  sig = sig;
  phase = phase.Ready;
  born = Some (born_record v site);
  nudges = [];
  vprocs = only p (option_map (with_newborn site.fresh));
  groups = only v.group (option_map (joins site.fresh v.uid));
}

-- whether a process has as many children as it may have, ended ones counted
abbrev pub is_full : Vproc → Bool
is_full v = nat_le MOST_CHILDREN (length v.children)

-- the answer on the records of the caller and of its group: a fork that is not refused is done at the child's node, which is the one that is named, or else the parent's place
abbrev pub fork_answer : Option NodeId → Site → Own → Bag → Pid → Vproc → Group → Answered
fork_answer at site own bag p v g =
    if is_full v then done_by p v bag (replied p Fork (Refused EAGAIN) (folded own v g).sig)
    else done_at (named_or at v.loc) site p v bag (fork_effect (folded own v g).sig p site (emptied v))

-- and where one of these records may lack
abbrev pub decide_fork : Option NodeId → Site → Pid → Own → Bag → Answered
decide_fork at site p own bag = on_base (fork_answer at site own bag p) p bag
