use Rattle.std.proofs.Common.{◌≡◌, ◌≤◌, ◌*◌, drop}
use Rattle.job_plans.specs.Plans.{first_from}
use Rattle.job_shell.proofs.stages.first_of.Given as goal

abbrev pub invariant-loop-line : goal.invariant-loop-line
invariant-loop-line l = record {
  value : first_from l.file.jobs l.first (drop l.line-index l.line-items) l.job ≡ first_from l.file.jobs 0 l.line-items l.job;
  few : l.first ≤ 8 * l.line-index;
}
