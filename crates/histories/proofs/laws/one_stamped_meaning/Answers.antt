use Rattle.byte_ends.specs.Text.{words}
use Rattle.histories.proofs.TwoMeanings.{stamped-unique}
use Rattle.histories.proofs.laws.one_stamped_meaning.Goals as goal

pub returns : goal.returns
returns c = λ line s t. stamped-unique (words line) s t
