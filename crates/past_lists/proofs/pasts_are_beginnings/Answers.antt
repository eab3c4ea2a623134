use Rattle.past_lists.proofs.Joining.{begin}
use Rattle.past_lists.proofs.pasts_are_beginnings.Goals as goal

pub returns : goal.returns
returns g c = begin
