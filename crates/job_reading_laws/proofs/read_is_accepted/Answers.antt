use Rattle.job_reading_laws.proofs.Read.{read_accepted}
use Rattle.job_reading_laws.proofs.read_is_accepted.Goals as goal

pub returns : goal.returns
returns c = read_accepted
