use Rattle.past_laws.proofs.Pasts.{nothing, merge, causal}
use Rattle.past_laws.proofs.pasts_merge_and_are_causal.Goals as goal

pub returns-clause-none : goal.returns-clause-none
returns-clause-none c = λ world ask. nothing world ask

pub returns-clause-merge : goal.returns-clause-merge
returns-clause-merge c = λ world ask. merge world ask

pub returns-clause-causal : goal.returns-clause-causal
returns-clause-causal c = λ world ask. causal world ask
