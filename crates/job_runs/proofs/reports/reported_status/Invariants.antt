use Rattle.std.proofs.Common.{◌≡◌, ◌==◌, drop}
use Rattle.std.specs.Prelude.{reverse}
use Rattle.std.specs.List.{filter}
use Rattle.job_laws.specs.Reports.{reports_from, reports_of}
use Rattle.job_runs.specs.Jobs.{status_of}
use Rattle.job_runs.proofs.reports.reported_status.Given as goal

abbrev pub invariant-loop-entry : goal.invariant-loop-entry
invariant-loop-entry l = status_of (filter (λ r. r.stage == l.stage) (reports_from (reverse l.forks.items) (drop l.entry-index l.history))) ≡ status_of (reports_of l.stage l.history)
