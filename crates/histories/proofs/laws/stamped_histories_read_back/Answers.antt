use Rattle.histories.proofs.WrittenTwo.{history-two-written}
use Rattle.histories.proofs.laws.stamped_histories_read_back.Goals as goal

pub returns : goal.returns
returns c = λ entries is_quiet all fit. history-two-written entries is_quiet all fit
