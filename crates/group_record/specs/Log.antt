-- what of a group's log concerns a process
use Rattle.std.specs.Prelude.{ℕ, Bool, true, ◌==◌, ◌&&◌, List, [], ◌∷◌, map, filter, drop, Option, None, Some, if◌then◌else◌}
use Rattle.unix_names.specs.declared.Pid.{Pid}
use Rattle.unix_names.specs.declared.Signal.{Signal}
use Rattle.group_record.specs.declared.log.Allow.{Allow}
use Rattle.group_record.specs.declared.log.Allow.TheVariants.{All, Uid}
use Rattle.group_record.specs.declared.log.LogEntry.{LogEntry}
use Rattle.group_record.specs.declared.group.Group.{Group}
use Rattle.group_record.specs.Members.{from_of}

-- no target means every member
abbrev pub is_for : Option Pid → Pid → Bool
is_for None p = true
is_for (Some q) p = q.0 == p.0

abbrev pub allows : Allow → ℕ → Bool
allows All uid = true
allows (Uid named) uid = named == uid

-- an entry is for a process by its target and by its user id
abbrev pub concerns : Pid → ℕ → LogEntry → Bool
concerns p uid e = is_for e.target p && allows e.allow uid

-- what an entry tells a process
abbrev pub told : Pid → ℕ → LogEntry → List Signal
told p uid e = if concerns p uid e then e.signal ∷ [] else []

-- the signals of the log for a process, from its `from` on
abbrev pub log_part : Pid → ℕ → Group → List Signal
log_part p uid g = map (λ e. e.signal) (filter (concerns p uid) (drop (from_of g.members p) g.log))
