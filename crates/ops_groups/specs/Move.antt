-- a process goes from its group to another, which may be of another session (POSIX.1-2017, XSH setpgid and setsid)
use Rattle.std.specs.Prelude.{Bool, true, false, List, ◌∷◌, ◌++◌, None, Some, if◌then◌else◌}
use Rattle.std.specs.Option.{option_map}
use Rattle.unix_names.specs.declared.Pid.{Pid}
use Rattle.unix_calls.specs.declared.Entry.{Entry}
use Rattle.unix_calls.specs.declared.Phase.TheVariants as phase
use Rattle.signal_state.specs.Signals.{Signals}
use Rattle.vproc_record.specs.declared.Vproc.{Vproc}
use Rattle.group_record.specs.declared.Member.{Member}
use Rattle.group_record.specs.declared.Group.{Group}
use Rattle.group_record.specs.Groups.{joined, left}
use Rattle.sig_stream.specs.Streams.{regrouped}
use Rattle.record_bag.specs.declared.bag.Bag.{Bag}
use Rattle.process_table.specs.declared.Row.{Row}
use Rattle.process_table.specs.Rows.{is_pid, is_same}
use Rattle.decide_law.specs.Effects.{only, changed, same, regroups, Effect}
use Rattle.decide_law.specs.Counts.{recounted}
use Rattle.decide_law.specs.Nudges.{but_system}

-- where a process goes: a group, and the session that it is of
pub record GroupInSession : Type 0 where
  pub group : Pid
  pub session : Pid

-- a row of the table once t is there
abbrev pub moved_at : Pid → GroupInSession → Row → Row
moved_at t new c = record c { group = if is_pid t c then new.group else c.group; session = if is_pid t c then new.session else c.session }

-- the members of a group once u has left its group for this one, or for another
abbrev pub moved_members : Bool → Vproc → Group → List Member
moved_members true u g = (joined (left g u.pid) u.pid u.uid).members
moved_members false u g = (left g u.pid).members

abbrev pub moved_vproc : Group → GroupInSession → Vproc → Vproc
moved_vproc old new u = record (regrouped u old new.group) { session = new.session }

-- the bag once the record of u tells of the new group
abbrev pub moved_vprocs : Bag → Vproc → Group → GroupInSession → Bag
moved_vprocs bag u old new = changed (only u.pid (option_map (moved_vproc old new))) same bag

-- a group after the move: u leaves its old one and joins the new one, and the links and stopped members are counted again, of which u and its children alone may have changed
abbrev pub moved_group : Bag → Vproc → Group → GroupInSession → Pid → Group → Group
moved_group bag u old new id g = record (recounted bag (moved_vprocs bag u old new) (u.pid ∷ u.children) id g) { members = moved_members (is_same new.group id) u g }

-- the effect of a call of p by which u moves: u and its parent are nudged, but neither p nor the system process
abbrev pub move : Entry → Bag → Signals → Pid → Vproc → Group → GroupInSession → Effect
move entry bag sig p u old new = record {
  entry = Some entry;
  sig = sig;
  phase = phase.Ready;
  born = None;
  nudges = but_system p u.pid ++ but_system p u.parent;
  vprocs = only u.pid (option_map (moved_vproc old new));
  groups = regroups new.session (moved_group bag u old new);
}
