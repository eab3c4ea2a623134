use Rattle.history_shell.specs.Tables.{ground_said}
use Rattle.history_shell.proofs.Single.{one_hearing}
use Rattle.history_shell.proofs.laws.why_is_one.Goals as goal

pub returns : goal.returns
returns c = λ at. one_hearing (ground_said at)
