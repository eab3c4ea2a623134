-- Which job files there are.
use Rattle.std.specs.Prelude.{ℕ, ◌+◌, ◌<◌, ◌≤◌, ◌==◌, ◌≡◌, List, [], ◌∷◌, length, slice_get, Option, None, Some, if◌then◌else◌, All}
use Rattle.job_plans.specs.declared.files.Stage.{Stage}
use Rattle.job_plans.specs.declared.files.Job.{Job}
use Rattle.job_plans.specs.declared.files.JobLine.{JobLine}
use Rattle.job_plans.specs.declared.files.Phase.{Phase}
use Rattle.job_plans.specs.declared.files.Phase.TheVariants.{Idle, Background, Done}
use Rattle.job_plans.specs.declared.files.JobLine.TheVariants.{Run, Start, Stop, End, Bring}
use Rattle.job_plans.specs.declared.limits.TheConstants.{MOST_STAGES}

abbrev pub stages_in : Option Job → List Stage
stages_in None = []
stages_in (Some job) = job.stages

-- the stages of a job, none where there is no such job
abbrev pub stages_of : List Job → ℕ → List Stage
stages_of jobs j = stages_in (slice_get jobs j)

-- how many stages there are
abbrev pub total : List Job → ℕ
total [] = 0
total (job ∷ jobs) = length job.stages + total jobs

-- ---- the lines
abbrev pub put_at : {X : Type 0} → ℕ → X → (ℕ → X) → ℕ → X
put_at v x f u = if u == v then x else f u

-- the job that a line names
abbrev pub job_of : JobLine → ℕ
job_of (Run j) = j
job_of (Start j) = j
job_of (Stop j) = j
job_of (End j) = j
job_of (Bring j) = j

-- a job is started once, and only a job in the background is stopped, ended or brought back
abbrev pub IsInPhase : (ℕ → Phase) → JobLine → Type 0
IsInPhase phase (Run j) = phase j ≡ Idle
IsInPhase phase (Start j) = phase j ≡ Idle
IsInPhase phase (Stop j) = phase j ≡ Background
IsInPhase phase (End j) = phase j ≡ Background
IsInPhase phase (Bring j) = phase j ≡ Background

abbrev pub after_line : JobLine → (ℕ → Phase) → ℕ → Phase
after_line (Run j) phase = put_at j Done phase
after_line (Start j) phase = put_at j Background phase
after_line (Stop j) phase = phase
after_line (End j) phase = phase
after_line (Bring j) phase = put_at j Done phase

abbrev pub all_idle : ℕ → Phase
all_idle j = Idle

-- lines for so many jobs, each where its job is so far
abbrev pub AreLines : ℕ → (ℕ → Phase) → List JobLine → Type 0
AreLines jobs phase [] = Unit {0}
AreLines jobs phase (line ∷ lines) = (job_of line < jobs) × IsInPhase phase line × AreLines jobs (after_line line phase) lines

-- ---- the jobs
abbrev pub IsStage : ℕ → Stage → Type 0
IsStage nodes stage = (stage.status < 256) × (stage.node.0 < nodes)

-- a pipeline of 1 to 8 stages
pub record IsJob (nodes : ℕ) (job : Job) : Type 0 where
  pub some : 1 ≤ length job.stages
  pub few : length job.stages ≤ MOST_STAGES
  pub stages : All (IsStage nodes) job.stages
