use Rattle.node_laws.proofs.Begins.{nodes_begin_sound}
use Rattle.node_laws.proofs.nodes_begin_sound.Goals as goal

pub returns : goal.returns
returns c = nodes_begin_sound
