-- method: the bounds that a reading keeps.
use Rattle.std.specs.Prelude.{◌≤◌, ◌+◌, length, All, Result, Ok, Err}
use Rattle.unix_calls.specs.declared.limits.TheConstants.{MOST_STATEMENTS}
use Rattle.job_plans.specs.declared.Job.{Job}
use Rattle.job_plans.specs.declared.limits.TheConstants.{MOST_STAGES, MOST_STAGES_IN_ALL}
use Rattle.job_files.specs.declared.drafts.Draft.{Draft}
use Rattle.job_files.specs.declared.drafts.Item.{Item}
use Rattle.job_files.specs.declared.drafts.Item.TheVariants.{Nothing, Nodes, Job as ItemJob, Tells}
use Rattle.job_files.specs.declared.faults.JobKind.{JobKind}
use Rattle.job_files.specs.MethodReading.{step_count}

abbrev pub HasFew : Job → Type 0
HasFew job = length job.stages ≤ MOST_STAGES

pub record IsBounded (draft : Draft) : Type 0 where
  pub stages : draft.stages ≤ MOST_STAGES_IN_ALL
  pub steps : draft.steps ≤ MOST_STATEMENTS
  pub jobs : All HasFew draft.jobs

-- a draft keeps its bounds behind an item
abbrev pub KeepsBounds : Draft → Item → Type 0
KeepsBounds draft Nothing = Unit {0}
KeepsBounds draft (Nodes n) = Unit {0}
KeepsBounds draft (ItemJob job) = HasFew job × (draft.stages + length job.stages ≤ MOST_STAGES_IN_ALL)
KeepsBounds draft (Tells line) = draft.steps + step_count draft.jobs line ≤ MOST_STATEMENTS

-- what a line says keeps them
abbrev pub ReadKeeps : Draft → Result Item JobKind → Type 0
ReadKeeps draft (Ok item) = KeepsBounds draft item
ReadKeeps draft (Err kind) = Unit {0}
