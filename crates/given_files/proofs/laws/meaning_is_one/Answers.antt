use Rattle.given_files.proofs.Meanings.{one_meaning}
use Rattle.given_files.proofs.laws.meaning_is_one.Goals as goal

pub returns : goal.returns
returns c = one_meaning
