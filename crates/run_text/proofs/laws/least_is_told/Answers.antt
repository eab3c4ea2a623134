use Rattle.run_text.proofs.FaultLaws.{least_told}
use Rattle.run_text.proofs.laws.least_is_told.Goals as goal

pub returns : goal.returns
returns c = least_told
