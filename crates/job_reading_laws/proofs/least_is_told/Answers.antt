use Rattle.job_reading_laws.proofs.Least.{least_is_told}
use Rattle.job_reading_laws.proofs.least_is_told.Goals as goal

pub returns : goal.returns
returns c = least_is_told
