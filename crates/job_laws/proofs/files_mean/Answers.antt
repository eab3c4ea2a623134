use Rattle.job_laws.proofs.Accepted.{files_mean}
use Rattle.job_laws.proofs.files_mean.Goals as goal

pub returns : goal.returns
returns c = files_mean
