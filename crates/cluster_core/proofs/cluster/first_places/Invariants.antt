use Rattle.std.proofs.Common.{◌≤◌}
use Rattle.cluster_core.proofs.Beginning.{Begun}
use Rattle.cluster_core.proofs.cluster.first_places.Given as goal

abbrev pub invariant-loop-k : goal.invariant-loop-k
invariant-loop-k g l = record {
  within : l.k ≤ l.world.nodes;
  begun : Begun l.world l.ops l.k l.places.items;
}
