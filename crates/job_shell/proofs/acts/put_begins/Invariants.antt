use Rattle.std.proofs.Common.{◌≡◌, ◌+◌, ◌++◌, map, drop}
use Rattle.job_plans.specs.Acts.{statement_of}
use Rattle.job_plans.specs.Plans.{begun}
use Rattle.job_shell.proofs.acts.put_begins.Given as goal

abbrev pub invariant-loop-k : goal.invariant-loop-k
invariant-loop-k l = l.script ++ map statement_of (begun l.statuses (l.first + l.k) (drop l.k l.stages)) ≡ l.initial.script ++ map statement_of (begun l.statuses l.first l.stages)
