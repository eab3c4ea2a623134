use Rattle.cluster_tests.proofs.Deciding.{decides}
use Rattle.cluster_tests.proofs.runs.played.Goals as goal

pub run-requires-clause-decides : goal.run-requires-clause-decides
run-requires-clause-decides c = decides c.args.world.now
