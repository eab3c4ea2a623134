use Rattle.ops_ending.proofs.Killed.{killed_is_right}
use Rattle.ops_ending.proofs.killed_is_right.Goals as goal

pub returns : goal.returns
returns c = killed_is_right
