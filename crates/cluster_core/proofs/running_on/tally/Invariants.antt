use Rattle.std.proofs.Common.{◌≡◌, replicate, take}
use Rattle.cluster_core.specs.MethodGoingOn.{IsTally}
use Rattle.cluster_core.proofs.running_on.tally.Given as goal

abbrev pub invariant-loop : goal.invariant-loop
invariant-loop l = l.made.items ≡ replicate l.counter 0

abbrev pub invariant-loop-this : goal.invariant-loop-this
invariant-loop-this l = IsTally l.nodes (take l.this-index l.steps) l.made.items
