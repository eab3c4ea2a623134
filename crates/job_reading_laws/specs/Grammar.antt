-- The grammar of job files: which words describe which jobs.
use Rattle.std.specs.Prelude.{◌≡◌, ℕ, true, List, [], ◌∷◌, ◌++◌, codes, map, All, Contains}
use Rattle.std.specs.List.{AllZip}
use Rattle.std.specs.Str.{is_utf8}
use Rattle.byte_ends.specs.Text.{words}
use Rattle.script_words.specs.Words.{Word, Row, is_skipped}
use Rattle.script_laws.specs.Grammar.{IsName, IsFor, IsCalled}
use Rattle.job_plans.specs.declared.Stage.{Stage}
use Rattle.job_plans.specs.declared.Job.{Job}
use Rattle.job_plans.specs.declared.JobLine.{JobLine}
use Rattle.job_plans.specs.declared.JobLine.TheVariants.{Run, Start, Stop, End, Bring}
use Rattle.job_plans.specs.declared.JobFile.{JobFile}
use Rattle.job_plans.specs.Files.{job_of}
use Rattle.job_plans.specs.Plans.{IsAccepted}

-- a stage: a status, `@`, and a node
abbrev pub SpellsStage : Word → Stage → Type 0
SpellsStage word stage = (status node : Word) × (word ≡ status ++ 64 ∷ node) × IsFor status stage.status × IsFor node stage.node.0

-- the word with which a line of the shell begins
abbrev pub verb_of : JobLine → Word
verb_of (Run j) = codes "run"
verb_of (Start j) = codes "start"
verb_of (Stop j) = codes "stop"
verb_of (End j) = codes "end"
verb_of (Bring j) = codes "bring"

-- The lines behind the first, where these names of jobs are known, each at the place of its job's number: the names in the end, the further jobs, and what the shell is told.
pub data Lines : List Word → List Word → List Job → List JobLine → List Row → Type 0 where
  ends : (known : List Word) → Lines known known [] [] []
  skips : {known names : List Word} {jobs : List Job} {lines : List JobLine} (row : Row) {rows : List Row} → is_skipped row ≡ true → Lines known names jobs lines rows → Lines known names jobs lines (row ∷ rows)
  adds : {known names : List Word} {jobs : List Job} {lines : List JobLine} (name : Word) (stages : Row) (job : Job) {rows : List Row} → IsName name → ¬ Contains known name → AllZip SpellsStage stages job.stages
      → Lines (known ++ name ∷ []) names jobs lines rows → Lines known names (job ∷ jobs) lines ((codes "job" ∷ name ∷ stages) ∷ rows)
  tells : {known names : List Word} {jobs : List Job} {lines : List JobLine} (name : Word) (line : JobLine) {rows : List Row} → IsCalled known name (job_of line)
      → Lines known names jobs lines rows → Lines known names jobs (line ∷ lines) ((verb_of line ∷ name ∷ []) ∷ rows)

-- a whole file: lines that say nothing, the line of the cluster, and the others
pub data Part (names : List Word) (file : JobFile) : List Row → Type 0 where
  silent : (row : Row) {rows : List Row} → is_skipped row ≡ true → Part names file rows → Part names file (row ∷ rows)
  opens : (word : Word) {rows : List Row} → IsFor word file.nodes → Lines [] names file.jobs file.lines rows → Part names file ((codes "cluster" ∷ word ∷ []) ∷ rows)

-- The lines describe these jobs, which have these names.
pub record Describes (lines : List (List ℕ)) (names : List Word) (file : JobFile) : Type 0 where
  pub texts : All (λ line. is_utf8 line ≡ true) lines
  pub part : Part names file (map words lines)
  pub accepted : IsAccepted file

-- the lines are a job file that describes these jobs
abbrev pub IsJobFile : List (List ℕ) → JobFile → Type 0
IsJobFile lines file = (names : List Word) × Describes lines names file
