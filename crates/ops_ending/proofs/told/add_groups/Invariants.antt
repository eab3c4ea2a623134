use Rattle.std.proofs.Common.{◌≡◌, ◌++◌, drop}
use Rattle.ops_ending.specs.MethodEnding.{nudges_in}
use Rattle.ops_ending.proofs.told.add_groups.Given as goal

abbrev pub invariant-loop-held : goal.invariant-loop-held
invariant-loop-held l = l.nudges ++ nudges_in l.bag l.near l.end (drop l.held-index l.held-items) ≡ l.initial.nudges ++ nudges_in l.bag l.near l.end l.held-items
