use Rattle.job_laws.proofs.Accepted.{accepted_are_plans}
use Rattle.job_laws.proofs.accepted_are_plans.Goals as goal

pub returns : goal.returns
returns c = accepted_are_plans
