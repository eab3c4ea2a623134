use Rattle.kernel_laws.proofs.Own.{fork_fresh}
use Rattle.kernel_laws.proofs.fork_is_fresh.Goals as goal

pub returns : goal.returns
returns c = fork_fresh
