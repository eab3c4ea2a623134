use Rattle.std.proofs.Common.{◌≡◌, take}
use Rattle.std.specs.Prelude.{reverse}
use Rattle.job_laws.specs.Forks.{stage_in}
use Rattle.job_runs.proofs.reports.stage_of.Given as goal

abbrev pub invariant-loop-k : goal.invariant-loop-k
invariant-loop-k l = l.stage ≡ stage_in (reverse (take l.k l.forks)) l.pid
