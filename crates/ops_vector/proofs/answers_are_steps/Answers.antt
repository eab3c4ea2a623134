use Rattle.ops_vector.proofs.Whole.{questions_answered}
use Rattle.ops_vector.proofs.answers_are_steps.Goals as goal

pub returns : goal.returns
returns c = questions_answered
