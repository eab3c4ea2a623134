use Rattle.job_reading_laws.proofs.Either.{describes_or_fails}
use Rattle.job_reading_laws.proofs.file_describes_or_fails.Goals as goal

pub returns : goal.returns
returns c = describes_or_fails
