use Rattle.cluster_state.specs.Cluster.{first_cluster}
use Rattle.cluster_state.specs.Run.{orders}
use Rattle.turn_laws.proofs.Steps.{does_one, ran_one, ran_join}
use Rattle.turn_laws.proofs.Playing.{plays_one}
use Rattle.turn_laws.proofs.each_schedule_has_one_run.Goals as goal

pub returns-clause-turn : goal.returns-clause-turn
returns-clause-turn c = does_one

pub returns-clause-run : goal.returns-clause-run
returns-clause-run c = ran_one

pub returns-clause-joins : goal.returns-clause-joins
returns-clause-joins c = ran_join

pub returns-clause-schedule : goal.returns-clause-schedule
returns-clause-schedule c = λ world ask s C D made others es fs p q. plays_one world ask (first_cluster world) C D (orders s) made others es fs p q
