-- the kernel's decisions may be made at the nodes of each world
use Rattle.unix_calls.specs.declared.World.{World}
use Rattle.decide_law.specs.Vector.{Fits}
use Rattle.ops_vector.specs.Answer.{unix_answer}
use Rattle.ops_vector.proofs.Lawful.{is_vector}
use Rattle.cluster_core.specs.Deciding.{MayDecide}

pub decides : (world : World) → MayDecide world Fits unix_answer
decides world = record { lawful = is_vector world.nodes; asked = λ pid job own bag site f. f }
