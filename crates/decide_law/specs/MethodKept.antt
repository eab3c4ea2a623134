-- method: how the code gives back what settling took
use Rattle.std.specs.Prelude.{List}
use Rattle.unix_names.specs.declared.Signal.{Signal}
use Rattle.vproc_record.specs.declared.Vproc.{Vproc}

-- a record with this backlog
abbrev pub backlogged : List Signal → Vproc → Vproc
backlogged signals v = record v { backlog = signals }
