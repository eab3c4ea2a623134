use Rattle.cluster_laws.proofs.Simulation.{turns_can_be_made}
use Rattle.cluster_laws.proofs.turns_can_be_made.Goals as goal

pub returns : goal.returns
returns c = turns_can_be_made
