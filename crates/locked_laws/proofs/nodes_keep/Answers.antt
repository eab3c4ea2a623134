use Rattle.locked_laws.proofs.Locked.{nodes_keep}
use Rattle.locked_laws.proofs.nodes_keep.Goals as goal

pub returns : goal.returns
returns c = λ world ask. nodes_keep world ask
