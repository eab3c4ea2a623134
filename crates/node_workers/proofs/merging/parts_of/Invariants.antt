use Rattle.std.proofs.Common.{◌≡◌, ◌+◌, length, map}
use Rattle.node_workers.specs.MethodMerging.{AreParts}
use Rattle.node_workers.proofs.merging.parts_of.Given as goal

abbrev pub invariant-loop-station : goal.invariant-loop-station
invariant-loop-station g l = record {
  many : length l.stations.items + length l.passes.items ≡ length l.fn.stations.items;
  parts : AreParts g.W.WorldName.world g.J.LogName.log (length l.passes.items) l.passes.items (map (λ v. v.items) l.lists.items);
}

abbrev pub decreases-loop-station : goal.decreases-loop-station
decreases-loop-station g l = length l.stations.items
