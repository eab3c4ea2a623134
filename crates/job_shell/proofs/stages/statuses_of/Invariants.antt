use Rattle.std.proofs.Common.{◌≡◌, take}
use Rattle.job_plans.specs.Plans.{statuses_of}
use Rattle.job_shell.proofs.stages.statuses_of.Given as goal

abbrev pub invariant-loop-stage : goal.invariant-loop-stage
invariant-loop-stage l = l.statuses.items ≡ statuses_of (take l.stage-index l.stages)
