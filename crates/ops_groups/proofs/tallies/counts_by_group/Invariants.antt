use Rattle.std.proofs.Common.{◌≡◌, take}
use Rattle.ops_groups.specs.MethodMove.{counts_by_group}
use Rattle.ops_groups.proofs.tallies.counts_by_group.Given as goal

abbrev pub invariant-loop-held : goal.invariant-loop-held
invariant-loop-held l = l.counts ≡ counts_by_group l.bag l.near (take l.held-index l.held-items)
