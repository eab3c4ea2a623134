use Rattle.job_runs.proofs.Single.{one_answer}
use Rattle.job_runs.proofs.laws.jobs_is_one.Goals as goal

pub returns : goal.returns
returns c = one_answer
