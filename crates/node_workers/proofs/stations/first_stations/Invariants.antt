use Rattle.std.proofs.Common.{◌≡◌, ◌+◌, length}
use Rattle.commit_log.specs.Passes.{first_passes}
use Rattle.node_workers.proofs.stations.first_stations.Given as goal

abbrev pub invariant-loop-pass : goal.invariant-loop-pass
invariant-loop-pass g l = record {
  many : l.id + length l.rest.items ≡ l.world.nodes;
  left : l.rest.items ≡ first_passes g.J.LogName.log l.id (length l.rest.items);
  made : length l.stations.items ≡ l.id;
}

abbrev pub decreases-loop-pass : goal.decreases-loop-pass
decreases-loop-pass g l = length l.rest.items
