use Rattle.histories.proofs.WrittenLaws.{history-written}
use Rattle.histories.proofs.laws.histories_read_back.Goals as goal

pub returns : goal.returns
returns c = λ entries is_quiet all fit. history-written entries is_quiet all fit
