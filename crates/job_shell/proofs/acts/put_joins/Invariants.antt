use Rattle.std.proofs.Common.{◌≡◌, ◌+◌, ◌++◌, map, drop}
use Rattle.job_plans.specs.Acts.{statement_of}
use Rattle.job_plans.specs.Plans.{joined}
use Rattle.job_shell.proofs.acts.put_joins.Given as goal

abbrev pub invariant-loop-k : goal.invariant-loop-k
invariant-loop-k l = l.script ++ map statement_of (joined l.first (l.first + l.k) (drop l.k l.stages)) ≡ l.initial.script ++ map statement_of (joined l.first l.first l.stages)
