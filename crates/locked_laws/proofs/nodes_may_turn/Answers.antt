use Rattle.locked_laws.proofs.MayTurn.{node_may_turn}
use Rattle.locked_laws.proofs.nodes_may_turn.Goals as goal

pub returns : goal.returns
returns c = node_may_turn
