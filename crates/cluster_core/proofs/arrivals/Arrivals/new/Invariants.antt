use Rattle.std.proofs.Common.{◌≡◌, [], replicate}
use Rattle.cluster_core.proofs.arrivals.Arrivals.new.Given as goal

abbrev pub invariant-loop : goal.invariant-loop
invariant-loop l = l.wires.items ≡ replicate l.counter []
