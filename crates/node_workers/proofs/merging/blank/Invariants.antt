use Rattle.std.proofs.Common.{◌≡◌, length}
use Rattle.node_workers.proofs.merging.blank.Given as goal

abbrev pub invariant-loop : goal.invariant-loop
invariant-loop l = length l.steps.items ≡ l.counter
