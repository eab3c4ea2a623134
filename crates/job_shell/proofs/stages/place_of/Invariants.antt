use Rattle.std.proofs.Common.{◌≡◌, ◌+◌, drop}
use Rattle.job_plans.specs.Plans.{place_of}
use Rattle.job_shell.proofs.stages.place_of.Given as goal

abbrev pub invariant-loop-e : goal.invariant-loop-e
invariant-loop-e l = record {
  value : l.place + place_of l.status (drop l.e-index l.statuses) ≡ place_of l.status l.statuses;
  index : l.place ≡ l.e-index;
}
