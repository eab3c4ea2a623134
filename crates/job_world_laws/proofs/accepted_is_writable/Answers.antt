use Rattle.job_world_laws.proofs.Writable.{accepted_valid, accepted_writable}
use Rattle.job_world_laws.proofs.accepted_is_writable.Goals as goal

pub returns-clause-valid : goal.returns-clause-valid
returns-clause-valid c = accepted_valid

pub returns-clause-writable : goal.returns-clause-writable
returns-clause-writable c = accepted_writable
