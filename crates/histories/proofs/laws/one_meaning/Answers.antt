use Rattle.byte_ends.specs.Text.{words}
use Rattle.histories.proofs.Meanings.{spelling-unique}
use Rattle.histories.proofs.laws.one_meaning.Goals as goal

pub returns : goal.returns
returns c = λ line d e. spelling-unique (words line) d e
