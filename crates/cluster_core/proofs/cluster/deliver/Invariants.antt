use Rattle.cluster_core.specs.MethodShows.{AreDelivered}
use Rattle.cluster_core.proofs.cluster.deliver.Given as goal

abbrev pub invariant-loop-sent : goal.invariant-loop-sent
invariant-loop-sent g l = AreDelivered l.from l.yielded l.initial.places.items l.places.items
