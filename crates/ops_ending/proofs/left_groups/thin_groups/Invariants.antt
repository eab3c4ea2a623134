use Rattle.std.proofs.Common.{◌≡◌}
use Rattle.ops_ending.specs.MethodEnding.{held_thinned_by, partly}
use Rattle.ops_ending.proofs.left_groups.thin_groups.Given as goal

abbrev pub invariant-loop-at : goal.invariant-loop-at
invariant-loop-at l = l.groups ≡ partly (held_thinned_by l.bag l.near l.end) l.at l.fn.groups
