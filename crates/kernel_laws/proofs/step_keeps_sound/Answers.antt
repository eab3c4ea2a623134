use Rattle.kernel_laws.proofs.Steps.{step_keeps}
use Rattle.kernel_laws.proofs.step_keeps_sound.Goals as goal

pub returns : goal.returns
returns c = step_keeps
