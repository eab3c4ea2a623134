use Rattle.past_laws.proofs.Pasts.{true_past, stays_true}
use Rattle.past_laws.proofs.pasts_tell_the_truth.Goals as goal

pub returns-clause-whole : goal.returns-clause-whole
returns-clause-whole c = λ world ask. true_past world ask

pub returns-clause-larger : goal.returns-clause-larger
returns-clause-larger c = λ world ask. stays_true world ask
