use Rattle.ops_exit_wait.proofs.Steps.{exit_wait_calls_answered}
use Rattle.ops_exit_wait.proofs.exit_wait_calls_are_steps.Goals as goal

pub returns : goal.returns
returns c = exit_wait_calls_answered
