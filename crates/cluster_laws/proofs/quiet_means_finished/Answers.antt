use Rattle.cluster_laws.proofs.Simulation.{quiet_is_home, quiet_is_finished, serials_are_small}
use Rattle.cluster_laws.proofs.quiet_means_finished.Goals as goal

pub returns-clause-home : goal.returns-clause-home
returns-clause-home c = quiet_is_home

pub returns-clause-finished : goal.returns-clause-finished
returns-clause-finished c = quiet_is_finished

pub returns-clause-serials : goal.returns-clause-serials
returns-clause-serials c = serials_are_small
