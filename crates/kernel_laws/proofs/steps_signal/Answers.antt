use Rattle.kernel_laws.proofs.Others.{others_signalled}
use Rattle.kernel_laws.proofs.Own.{own_signalled}
use Rattle.kernel_laws.proofs.steps_signal.Goals as goal

pub returns-clause-others : goal.returns-clause-others
returns-clause-others c = others_signalled

pub returns-clause-own : goal.returns-clause-own
returns-clause-own c = own_signalled
