use Rattle.cluster_laws.proofs.Simulation.{messages_stay_inside, turns_send_to_nodes}
use Rattle.cluster_laws.proofs.messages_stay_inside.Goals as goal

pub returns-clause-wires : goal.returns-clause-wires
returns-clause-wires c = messages_stay_inside

pub returns-clause-sends : goal.returns-clause-sends
returns-clause-sends c = turns_send_to_nodes
