use Rattle.std.proofs.Common.{◌≡◌, take}
use Rattle.job_plans.specs.Plans.{all_stages}
use Rattle.job_shell.proofs.stages.stages_in_all.Given as goal

abbrev pub invariant-loop-line : goal.invariant-loop-line
invariant-loop-line l = l.stages.items ≡ all_stages l.file.jobs (take l.line-index l.line-items)
