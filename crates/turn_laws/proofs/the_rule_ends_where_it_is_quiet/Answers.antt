use Rattle.cluster_state.specs.Run.{numbers_from}
use Rattle.turn_laws.proofs.Playing.{rule_ends, quiet_ends}
use Rattle.turn_laws.proofs.the_rule_ends_where_it_is_quiet.Goals as goal

pub returns-clause-ends : goal.returns-clause-ends
returns-clause-ends c = λ nodes C e. rule_ends nodes C e

pub returns-clause-quiet : goal.returns-clause-quiet
returns-clause-quiet c = λ nodes C q. quiet_ends nodes C q (numbers_from 0 nodes)
