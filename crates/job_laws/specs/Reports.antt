-- The ends of stages that a history reports to the shell.
use Rattle.std.specs.Prelude.{ℕ, ◌==◌, Bool, true, false, List, [], ◌∷◌, ◌++◌, filter, Option, None, Some, if◌then◌else◌}
use Rattle.unix_names.specs.declared.WaitStatus.{WaitStatus}
use Rattle.unix_names.specs.declared.WaitStatus.TheVariants as status
use Rattle.unix_calls.specs.declared.Call.TheVariants.{Waitpid}
use Rattle.unix_calls.specs.declared.Reply.TheVariants.{Child}
use Rattle.unix_calls.specs.declared.Entry.{Entry}
use Rattle.unix_calls.specs.declared.Entry.TheVariants.{Called}
use Rattle.job_laws.specs.Forks.{stage_in, with_fork}

-- the end of a stage, and how it ended
pub record Report : Type 0 where
  pub stage : ℕ
  pub status : WaitStatus

abbrev pub is_end_status : WaitStatus → Bool
is_end_status (status.Exited n) = true
is_end_status (status.Killed s) = true
is_end_status (status.Stopped s) = false
is_end_status status.Continued = false

abbrev pub report_for : Option ℕ → WaitStatus → List Report
report_for None w = []
report_for (Some v) w = if is_end_status w then record { stage = v; status = w } ∷ [] else []

-- the end of a stage that an entry reports to the shell, where these were the forks
abbrev pub reported : List ℕ → Entry → List Report
reported told (Called p (Waitpid sel stopped continued) (Child child w)) = if p.0 == 2 then report_for (stage_in told child.0) w else []
reported told _ = []

-- the ends that a history reports, in order, where these were the forks before it
abbrev pub reports_from : List ℕ → List Entry → List Report
reports_from told [] = []
reports_from told (entry ∷ history) = reported told entry ++ reports_from (with_fork told entry) history

abbrev pub reports : List Entry → List Report
reports history = reports_from [] history

abbrev pub reports_of : ℕ → List Entry → List Report
reports_of v history = filter (λ r. r.stage == v) (reports history)
