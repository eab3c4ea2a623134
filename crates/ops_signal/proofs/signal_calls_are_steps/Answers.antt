use Rattle.ops_signal.proofs.Steps.{signal_calls_answered}
use Rattle.ops_signal.proofs.signal_calls_are_steps.Goals as goal

pub returns : goal.returns
returns c = signal_calls_answered
