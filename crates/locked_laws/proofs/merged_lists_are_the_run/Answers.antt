use Rattle.locked_laws.proofs.Merging.{merged_are_right}
use Rattle.locked_laws.proofs.merged_lists_are_the_run.Goals as goal

pub returns : goal.returns
returns c = merged_are_right
