use Rattle.kernel_laws.proofs.Coming.{living_stay, only_forks_add}
use Rattle.kernel_laws.proofs.rows_come_and_go.Goals as goal

pub returns-clause-stay : goal.returns-clause-stay
returns-clause-stay c = living_stay

pub returns-clause-come : goal.returns-clause-come
returns-clause-come c = only_forks_add
