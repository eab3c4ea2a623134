-- method: how the code settles the caller once an entry stands in a log that may be its own group's
use Rattle.std.specs.Prelude.{ℕ, map}
use Rattle.unix_names.specs.declared.Pid.{Pid}
use Rattle.group_record.specs.declared.Group.{Group}
use Rattle.group_record.specs.Members.{begun_at}

-- a member's part of the log begins at this place
abbrev pub begun : ℕ → Pid → Group → Group
begun end p g = record g { members = map (begun_at end p) g.members }
