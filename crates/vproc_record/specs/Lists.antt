use Rattle.std.specs.Prelude.{◌==◌, not, List, filter}
use Rattle.unix_names.specs.declared.Pid.{Pid}

-- the others, in their order
abbrev pub without : Pid → List Pid → List Pid
without p pids = filter (λ q. not (q.0 == p.0)) pids
