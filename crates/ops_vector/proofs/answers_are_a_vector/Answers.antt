use Rattle.ops_vector.proofs.Lawful.{is_vector}
use Rattle.ops_vector.proofs.answers_are_a_vector.Goals as goal

pub returns : goal.returns
returns c = is_vector
