use Rattle.kernel_laws.proofs.Own.{kill_once}
use Rattle.kernel_laws.proofs.kill_signals_once.Goals as goal

pub returns : goal.returns
returns c = kill_once
