use Rattle.cluster_state.specs.Cluster.{first_cluster}
use Rattle.cluster_state.specs.Run.{orders}
use Rattle.turn_laws.proofs.Playing.{plays_ran, ran_plays, run_on}
use Rattle.turn_laws.proofs.schedules_make_possible_turns.Goals as goal

pub returns-clause-made : goal.returns-clause-made
returns-clause-made c = λ world ask s C made es r. plays_ran world ask (first_cluster world) C (orders s) made es r

pub returns-clause-all : goal.returns-clause-all
returns-clause-all c = λ world ask turns C es r. ran_plays world ask (first_cluster world) C turns es r

pub returns-clause-on : goal.returns-clause-on
returns-clause-on c = λ world ask. run_on world ask
