use Rattle.fault_laws.proofs.Least.{least_told}
use Rattle.fault_laws.proofs.least_is_told.Goals as goal

pub returns : goal.returns
returns c = least_told
