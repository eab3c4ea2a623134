use Rattle.node_laws.proofs.Moves.{laid-keeps}
use Rattle.node_laws.proofs.Advances.{steps_keep}
use Rattle.node_laws.proofs.steps_keep_couriers.Goals as goal

pub returns-clause-steps : goal.returns-clause-steps
returns-clause-steps c = steps_keep

pub returns-clause-returns : goal.returns-clause-returns
returns-clause-returns c = laid-keeps
