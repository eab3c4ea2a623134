use Rattle.past_laws.proofs.Numbers.{numbers_choose}
use Rattle.past_laws.proofs.numbers_choose_pasts.Goals as goal

pub returns : goal.returns
returns g c = λ node log. numbers_choose node log
