use Rattle.std.proofs.Common.{◌≡◌, ◌+◌, drop}
use Rattle.decide_law.specs.MethodNeeds.{passed}
use Rattle.decide_law.proofs.needs.passed.Given as goal

abbrev pub invariant-loop-at : goal.invariant-loop-at
invariant-loop-at l = passed l.name l.names ≡ l.at + passed l.name (drop l.at l.names)
