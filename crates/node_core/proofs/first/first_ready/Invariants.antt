use Rattle.std.proofs.Common.{◌≡◌, ◌++◌}
use Rattle.node_core.specs.First.{ready_from}
use Rattle.node_core.proofs.first.first_ready.Given as goal

abbrev pub invariant-loop-k : goal.invariant-loop-k
invariant-loop-k l = l.ready ++ ready_from l.world l.id l.k ≡ ready_from l.world l.id 0
