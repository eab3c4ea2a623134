use Rattle.job_commands.proofs.Single.{one_answer}
use Rattle.job_commands.proofs.laws.compile_is_one.Goals as goal

pub returns : goal.returns
returns c = one_answer
