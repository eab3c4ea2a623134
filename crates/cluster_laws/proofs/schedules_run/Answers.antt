use Rattle.cluster_laws.proofs.Simulation.{offered_are_possible, schedules_run}
use Rattle.cluster_laws.proofs.schedules_run.Goals as goal

pub returns-clause-offered : goal.returns-clause-offered
returns-clause-offered c = offered_are_possible

pub returns-clause-runs : goal.returns-clause-runs
returns-clause-runs c = schedules_run
