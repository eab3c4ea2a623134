use Rattle.std.proofs.Common.{◌≡◌, take}
use Rattle.ops_groups.specs.MethodMove.{regrouped_by, with_counts}
use Rattle.ops_groups.proofs.bag_after.regroup_each.Given as goal

abbrev pub invariant-loop-at : goal.invariant-loop-at
invariant-loop-at l = l.groups ≡ with_counts (λ counts. regrouped_by counts l.later l.m l.to) (take l.at l.before) l.initial.groups
