use Rattle.past_lists.proofs.Joining.{join}
use Rattle.past_lists.proofs.pasts_join.Goals as goal

pub returns : goal.returns
returns g c = join
