-- what the changes of a process's record leave
use Rattle.std.specs.Prelude.{[], ◌∷◌, ◌++◌}
use Rattle.unix_names.specs.declared.Pid.{Pid}
use Rattle.unix_names.specs.declared.Signal.{Signal}
use Rattle.vproc_record.specs.declared.vproc.Vproc.{Vproc}
use Rattle.vproc_record.specs.Lists.{without}

-- a child more, the last
abbrev pub with_child : Vproc → Pid → Vproc
with_child v child = record v { children = v.children ++ child ∷ [] }

-- a child less
abbrev pub without_child : Vproc → Pid → Vproc
without_child v child = record v { children = without child v.children }

-- a signal more, the last
abbrev pub with_signal : Vproc → Signal → Vproc
with_signal v signal = record v { backlog = v.backlog ++ signal ∷ [] }
