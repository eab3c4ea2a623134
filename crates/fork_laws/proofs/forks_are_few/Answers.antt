use Rattle.fork_laws.proofs.Budget.{forks_are_few}
use Rattle.fork_laws.proofs.forks_are_few.Goals as goal

pub returns : goal.returns
returns c = forks_are_few
