use Rattle.history_shell.specs.Tables.{table_said}
use Rattle.history_shell.proofs.Single.{one_hearing}
use Rattle.history_shell.proofs.laws.table_is_one.Goals as goal

pub returns : goal.returns
returns c = λ at. one_hearing (table_said at)
