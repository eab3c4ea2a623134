use Rattle.ops_fork.proofs.Whole.{fork_answered}
use Rattle.ops_fork.proofs.fork_is_lawful.Goals as goal

pub returns : goal.returns
returns c = fork_answered
