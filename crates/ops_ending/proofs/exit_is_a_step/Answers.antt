use Rattle.ops_ending.proofs.Steps.{exit_is_step}
use Rattle.ops_ending.proofs.exit_is_a_step.Goals as goal

pub returns : goal.returns
returns c = exit_is_step
