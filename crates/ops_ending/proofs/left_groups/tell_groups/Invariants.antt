use Rattle.std.proofs.Common.{◌≡◌}
use Rattle.ops_ending.specs.MethodEnding.{held_told_by, partly}
use Rattle.ops_ending.proofs.left_groups.tell_groups.Given as goal

abbrev pub invariant-loop-at : goal.invariant-loop-at
invariant-loop-at l = l.groups ≡ partly (held_told_by l.bag l.near l.end) l.at l.fn.groups
