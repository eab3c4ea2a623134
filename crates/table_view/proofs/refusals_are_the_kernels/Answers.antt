use Rattle.table_view.proofs.Numbers.{are_refusals}
use Rattle.table_view.proofs.refusals_are_the_kernels.Goals as goal

pub returns : goal.returns
returns c = are_refusals
