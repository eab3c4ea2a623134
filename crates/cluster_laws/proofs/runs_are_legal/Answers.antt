use Rattle.cluster_laws.proofs.Simulation.{runs_are_legal, runs_follow, runs_are_written, runs_stand}
use Rattle.cluster_laws.proofs.runs_are_legal.Goals as goal

pub returns-clause-legal : goal.returns-clause-legal
returns-clause-legal c = runs_are_legal

pub returns-clause-follows : goal.returns-clause-follows
returns-clause-follows c = runs_follow

pub returns-clause-stands : goal.returns-clause-stands
returns-clause-stands c = runs_stand

pub returns-clause-written : goal.returns-clause-written
returns-clause-written c = runs_are_written
