-- the signals that are on their way to a process
use Rattle.std.specs.Prelude.{ℕ, ◌≡◌, Some, List, ◌++◌, map, filter, drop}
use Rattle.unix_names.specs.declared.Pid.{Pid}
use Rattle.unix_names.specs.declared.Signal.{Signal}
use Rattle.vproc_record.specs.declared.Vproc.{Vproc}
use Rattle.group_record.specs.declared.LogEntry.{LogEntry}
use Rattle.group_record.specs.declared.Group.{Group}
use Rattle.group_record.specs.Members.{uid_of}
use Rattle.group_record.specs.Log.{concerns, log_part}

-- a process is a member of the group under its user id
abbrev pub IsListed : Vproc → Group → Type 0
IsListed v g = uid_of g.members v.pid ≡ Some v.uid

-- the signals of these entries for a process
abbrev pub signals_for : Pid → ℕ → List LogEntry → List Signal
signals_for p uid entries = map (λ e. e.signal) (filter (concerns p uid) entries)

-- the backlog of a process, then what its group's log has for it
abbrev pub stream : Vproc → Group → List Signal
stream v g = v.backlog ++ log_part v.pid v.uid g

-- the stream without what was taken
abbrev pub tail : ℕ → Vproc → Group → List Signal
tail taken v g = drop taken (stream v g)

-- a process in another group: what the old log has for it goes to the backlog
abbrev pub regrouped : Vproc → Group → Pid → Vproc
regrouped v old id = record v { group = id; backlog = stream v old }
