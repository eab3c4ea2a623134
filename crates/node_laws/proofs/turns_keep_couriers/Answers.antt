use Rattle.node_laws.proofs.Turns.{turns_keep, messages_keep}
use Rattle.node_laws.proofs.turns_keep_couriers.Goals as goal

pub returns-clause-turns : goal.returns-clause-turns
returns-clause-turns c = turns_keep

pub returns-clause-messages : goal.returns-clause-messages
returns-clause-messages c = messages_keep
