use Rattle.std.proofs.Common.{◌≡◌}
use Rattle.ops_ending.specs.Ending.{ended_vproc}
use Rattle.ops_ending.specs.MethodEnding.{partly}
use Rattle.ops_ending.proofs.left_vprocs.leave_vprocs.Given as goal

abbrev pub invariant-loop-at : goal.invariant-loop-at
invariant-loop-at l = l.vprocs ≡ partly (ended_vproc l.end.pid l.end.vanishes l.end.status) l.at l.fn.vprocs
