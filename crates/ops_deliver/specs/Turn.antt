-- a process that stops or continues, decided on records (POSIX.1-2017, XSH 2.4.3)
use Rattle.std.specs.Prelude.{◌==◌, List, [], ◌∷◌, ◌++◌, Option, None, Some, if◌then◌else◌}
use Rattle.std.specs.Option.{option_map}
use Rattle.unix_names.specs.declared.Pid.{Pid}
use Rattle.unix_names.specs.declared.Life.{Life}
use Rattle.unix_names.specs.declared.Life.TheVariants as life
use Rattle.unix_names.specs.declared.Signal.{Signal}
use Rattle.unix_names.specs.declared.Signal.TheVariants.{Chld}
use Rattle.unix_names.specs.declared.WaitStatus.{WaitStatus}
use Rattle.unix_names.specs.declared.WaitStatus.TheVariants as status
use Rattle.unix_calls.specs.declared.Event.TheVariants.{StoppedBy, Continued}
use Rattle.unix_calls.specs.declared.Entry.{Entry}
use Rattle.unix_calls.specs.declared.Entry.TheVariants.{Happened}
use Rattle.unix_calls.specs.declared.Phase.{Phase}
use Rattle.unix_calls.specs.declared.Phase.TheVariants as phase
use Rattle.signal_state.specs.Signals.{Signals}
use Rattle.signal_state.specs.Sig.{stopped_by, resumed}
use Rattle.vproc_record.specs.declared.Vproc.{Vproc}
use Rattle.group_record.specs.declared.LogEntry.{LogEntry}
use Rattle.group_record.specs.declared.Group.{Group}
use Rattle.record_bag.specs.declared.bag.Bag.{Bag}
use Rattle.record_bag.specs.Bags.{vproc_in}
use Rattle.decide_law.specs.Effects.{only, changed, same, to_one, Effect}
use Rattle.decide_law.specs.Counts.{passes, recounted}
use Rattle.ops_deliver.specs.Events.{EventEffect}

-- the process has another life, and that to report
abbrev pub turned_vproc : Life → WaitStatus → Vproc → Vproc
turned_vproc l w v = record v { life = l; change = Some w }

abbrev pub turned_vprocs : Bag → Pid → Life → WaitStatus → Bag
turned_vprocs bag p l w = changed (only p (option_map (turned_vproc l w))) same bag

-- the log of the parent's group gets its signal
abbrev pub parent_entries : Bag → Pid → Pid → List LogEntry
parent_entries bag up id = if passes (λ d. d.group.0 == id.0) (vproc_in bag up) then to_one Chld up ∷ [] else []

-- a group afterwards: its stopped members are counted again, of which p alone may have changed
abbrev pub turned_group : Bag → Pid → Pid → Life → WaitStatus → Pid → Group → Group
turned_group bag p up l w id g = record g {
  stopped = (recounted bag (turned_vprocs bag p l w) (p ∷ []) id g).stopped;
  log = g.log ++ parent_entries bag up id;
}

abbrev pub turned_groups : Bag → Pid → Pid → Life → WaitStatus → Pid → Option Group → Option Group
turned_groups bag p up l w id h = option_map (turned_group bag p up l w id) h

-- p, whose parent is up, goes to this life; the parent is nudged, where it is not the system process
abbrev pub turn_by : Bag → Signals → Entry → Phase → Pid → Pid → Life → WaitStatus → Effect
turn_by bag sig e ph p up l w = record {
  entry = Some e;
  sig = sig;
  phase = ph;
  born = None;
  nudges = if up.0 == 1 then [] else up ∷ [];
  vprocs = only p (option_map (turned_vproc l w));
  groups = turned_groups bag p up l w;
}

-- a signal stops the process
abbrev pub stop_effect : Signal → EventEffect
stop_effect s bag sig p v = turn_by bag (stopped_by sig s) (Happened p (StoppedBy s)) phase.Stopped v.pid v.parent life.Stopped (status.Stopped s)

-- it continues
abbrev pub continue_effect : EventEffect
continue_effect bag sig p v = turn_by bag (resumed sig) (Happened p Continued) phase.Ready v.pid v.parent life.Runs status.Continued
