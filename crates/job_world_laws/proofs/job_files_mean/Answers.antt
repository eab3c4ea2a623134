use Rattle.job_world_laws.proofs.Read.{job_files_mean}
use Rattle.job_world_laws.proofs.job_files_mean.Goals as goal

pub returns : goal.returns
returns c = job_files_mean
