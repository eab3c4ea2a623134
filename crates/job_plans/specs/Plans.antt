-- What the shell does for a job file: the stages that are started, in order of their forks, the scripts that they run, and the steps of the shell.
use Rattle.std.specs.Prelude.{ℕ, ◌+◌, ◌≤◌, ◌==◌, Bool, false, List, [], ◌∷◌, ◌++◌, map, length, slice_get, fold, Option, None, Some, if◌then◌else◌, All}
use Rattle.std.specs.List.{flat_map, list_any}
use Rattle.unix_names.specs.declared.Signal.TheVariants as signal
use Rattle.unix_calls.specs.declared.limits.TheConstants.{MOST_NODES, MOST_STATEMENTS}
use Rattle.job_plans.specs.declared.files.Stage.{Stage}
use Rattle.job_plans.specs.declared.files.Job.{Job}
use Rattle.job_plans.specs.declared.files.JobLine.{JobLine}
use Rattle.job_plans.specs.declared.files.JobLine.TheVariants.{Run, Start, Stop, End, Bring}
use Rattle.job_plans.specs.declared.files.JobFile.{JobFile}
use Rattle.job_plans.specs.declared.limits.TheConstants.{MOST_STAGES_IN_ALL}
use Rattle.job_plans.specs.Acts.{Act, Begin, Await, Join, Send, Reap}
use Rattle.job_plans.specs.Files.{stages_of, total, all_idle, AreLines, IsJob}

-- ---- the stages, in order of their forks
-- the stages that a line starts
abbrev pub stages_started : List Job → JobLine → List Stage
stages_started jobs (Run j) = stages_of jobs j
stages_started jobs (Start j) = stages_of jobs j
stages_started jobs (Stop j) = []
stages_started jobs (End j) = []
stages_started jobs (Bring j) = []

abbrev pub all_stages : List Job → List JobLine → List Stage
all_stages jobs lines = flat_map (stages_started jobs) lines

-- for each stage the number of its job's first stage, where so many were forked before
abbrev pub firsts_from : List Job → ℕ → List JobLine → List ℕ
firsts_from jobs n [] = []
firsts_from jobs n (line ∷ lines) = map (λ s. n) (stages_started jobs line) ++ firsts_from jobs (n + length (stages_started jobs line)) lines

-- whether a line starts a job
abbrev pub starts : ℕ → JobLine → Bool
starts j (Run i) = i == j
starts j (Start i) = i == j
starts j (Stop i) = false
starts j (End i) = false
starts j (Bring i) = false

-- the number of a job's first stage, where so many were forked before: that of the next fork at the line that starts it
abbrev pub first_from : List Job → ℕ → List JobLine → ℕ → ℕ
first_from jobs n [] j = n
first_from jobs n (line ∷ lines) j = if starts j line then n else first_from jobs (n + length (stages_started jobs line)) lines j

-- ---- the scripts of the stages, one for each status
-- each status once, in order of the first stage that ends with it
abbrev pub with_status : List ℕ → Stage → List ℕ
with_status statuses stage = if list_any (λ e. e == stage.status) statuses then statuses else statuses ++ stage.status ∷ []

abbrev pub statuses_of : List Stage → List ℕ
statuses_of stages = fold with_status [] stages

-- the place of a status in a list
abbrev pub place_of : ℕ → List ℕ → ℕ
place_of e [] = 0
place_of e (d ∷ rest) = if d == e then 0 else place_of e rest + 1

-- ---- the steps, where the scripts of the stages are those of these statuses
-- stages are forked in order, from the v-th on, and each is waited for until it has stopped
abbrev pub begun : List ℕ → ℕ → List Stage → List Act
begun statuses v [] = []
begun statuses v (s ∷ stages) = Begin v (place_of s.status statuses) s.node ∷ Await v ∷ begun statuses (v + 1) stages

-- they are put into the group of their first
abbrev pub joined : ℕ → ℕ → List Stage → List Act
joined first v [] = []
joined first v (s ∷ stages) = Join v first ∷ joined first (v + 1) stages

-- they are waited for until they have ended
abbrev pub reaped : ℕ → List Stage → List Act
reaped v [] = []
reaped v (s ∷ stages) = Reap v ∷ reaped (v + 1) stages

-- a job is started: no stage goes on before all are in the group of the first
abbrev pub started : List ℕ → ℕ → List Stage → List Act
started statuses first stages = begun statuses first stages ++ (joined first first stages ++ Send first signal.Cont ∷ [])

-- what is done for a line, where the jobs have these first stages
abbrev pub line_acts : List Job → List ℕ → (ℕ → ℕ) → JobLine → List Act
line_acts jobs statuses first (Run j) = started statuses (first j) (stages_of jobs j) ++ reaped (first j) (stages_of jobs j)
line_acts jobs statuses first (Start j) = started statuses (first j) (stages_of jobs j)
line_acts jobs statuses first (Stop j) = Send (first j) signal.Stop ∷ []
line_acts jobs statuses first (End j) = Send (first j) signal.Term ∷ Send (first j) signal.Cont ∷ []
line_acts jobs statuses first (Bring j) = Send (first j) signal.Cont ∷ reaped (first j) (stages_of jobs j)

-- ---- the plan of a file
-- the steps of a shell, how many stages it forks, and for each stage the first stage of its job and the status that it ends with
pub record Plan : Type 0 where
  pub acts : List Act
  pub count : ℕ
  pub first : ℕ → ℕ
  pub status : ℕ → ℕ

abbrev pub stages_in_all : JobFile → List Stage
stages_in_all file = all_stages file.jobs file.lines

abbrev pub statuses : JobFile → List ℕ
statuses file = statuses_of (stages_in_all file)

abbrev pub first_of : JobFile → ℕ → ℕ
first_of file j = first_from file.jobs 0 file.lines j

abbrev pub acts_of : JobFile → List Act
acts_of file = flat_map (line_acts file.jobs (statuses file) (first_of file)) file.lines

abbrev pub number_or : ℕ → Option ℕ → ℕ
number_or other None = other
number_or other (Some n) = n

abbrev pub status_in : Option Stage → ℕ
status_in None = 0
status_in (Some stage) = stage.status

abbrev pub plan_of : JobFile → Plan
plan_of file = record {
  acts = acts_of file;
  count = length (stages_in_all file);
  first = λ v. number_or v (slice_get (firsts_from file.jobs 0 file.lines) v);
  status = λ v. status_in (slice_get (stages_in_all file) v);
}

-- ---- which files are accepted
pub record IsAccepted (file : JobFile) : Type 0 where
  pub some_node : 1 ≤ file.nodes
  pub nodes : file.nodes ≤ MOST_NODES
  pub jobs : All (IsJob file.nodes) file.jobs
  pub few : total file.jobs ≤ MOST_STAGES_IN_ALL
  pub lines : AreLines (length file.jobs) all_idle file.lines
  pub short : length (acts_of file) ≤ MOST_STATEMENTS
