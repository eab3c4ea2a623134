use Rattle.past_laws.proofs.Numbers.{larger_possible, own_enough}
use Rattle.past_laws.proofs.numbers_keep_both_laws.Goals as goal

pub returns-clause-merge : goal.returns-clause-merge
returns-clause-merge c = λ world ask log a b whole. larger_possible world ask log whole a b

pub returns-clause-causal : goal.returns-clause-causal
returns-clause-causal c = λ world ask log whole. own_enough world ask log whole
