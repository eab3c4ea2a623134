-- The faults of a job file, each by its own condition on a line and what the lines before it describe.
use Rattle.std.specs.Prelude.{◌≡◌, ◌≢◌, ◌⊎◌, ℕ, ◌+◌, ◌<◌, ◌≤◌, true, false, List, [], ◌∷◌, ◌++◌, length, codes, All, Contains}
use Rattle.std.specs.Str.{is_utf8}
use Rattle.std.specs.Str.Parse.{digits_value}
use Rattle.byte_ends.specs.Text.{words, IsNumber}
use Rattle.unix_calls.specs.declared.limits.TheConstants.{MOST_NODES, MOST_STATEMENTS}
use Rattle.script_words.specs.Words.{Word, Row, is_skipped}
use Rattle.script_words.specs.declared.limits.TheConstants.{LONGEST_NAME}
use Rattle.script_laws.specs.Grammar.{HasNameForm, IsName, IsCalled}
use Rattle.job_plans.specs.declared.Stage.{Stage}
use Rattle.job_plans.specs.declared.JobLine.{JobLine}
use Rattle.job_plans.specs.declared.JobLine.TheVariants.{Run, Start, Stop, End, Bring}
use Rattle.job_plans.specs.declared.JobFile.{JobFile}
use Rattle.job_plans.specs.declared.Phase.{Phase}
use Rattle.job_plans.specs.declared.Phase.TheVariants.{Idle, Background}
use Rattle.job_plans.specs.declared.limits.TheConstants.{MOST_STAGES, MOST_STAGES_IN_ALL}
use Rattle.job_plans.specs.Files.{total, job_of, IsInPhase, after_line, all_idle, IsStage}
use Rattle.job_plans.specs.Plans.{acts_of}
use Rattle.job_files.specs.declared.JobFault.{JobFault}
use Rattle.job_files.specs.declared.JobKind.{JobKind}
use Rattle.job_files.specs.declared.JobKind.TheVariants.{NotUtf8, NoClusterLine, TooManyNodes, BadNumber, NoSuchNode, LongName, UnknownWord, DoubleName, TooManyStages, UnknownJob, JobTwice, NotInBackground, TooManyStatements}
use Rattle.job_files.specs.Kinds.{fault_at}
use Rattle.job_reading_laws.specs.Grammar.{SpellsStage, verb_of, Describes}

-- ---- words
-- it has no name's form, or is too long
abbrev pub IsNoName : Word → JobKind → Type 0
IsNoName word kind = ((kind ≡ UnknownWord) × ¬ HasNameForm word) ⊎ ((kind ≡ LongName) × HasNameForm word × (LONGEST_NAME < length word))

-- a number below 256
abbrev pub IsStatus : Word → Type 0
IsStatus word = IsNumber word × (digits_value 10 word < 256)

-- what is wrong with the two halves of a stage: the status, or else the node
abbrev pub AreNoHalves : ℕ → Word → Word → JobKind → Type 0
AreNoHalves nodes status node kind =
    ((kind ≡ BadNumber) × ¬ IsStatus status)
    ⊎ ((kind ≡ BadNumber) × IsStatus status × ¬ IsNumber node)
    ⊎ ((kind ≡ NoSuchNode) × IsStatus status × IsNumber node × (nodes ≤ digits_value 10 node))

-- a word that is no stage, and why: it has no `@`, or what stands before the first or behind it is wrong
abbrev pub IsNoStage : ℕ → Word → JobKind → Type 0
IsNoStage nodes word kind =
    ((kind ≡ UnknownWord) × ¬ Contains word 64)
    ⊎ ((status node : Word) × (word ≡ status ++ 64 ∷ node) × (¬ Contains status 64) × AreNoHalves nodes status node kind)

-- a word that is a stage on so many nodes
abbrev pub IsStageWord : ℕ → Word → Type 0
IsStageWord nodes word = (stage : Stage) × SpellsStage word stage × IsStage nodes stage

-- the first of some words that is no stage, and why
abbrev pub HasNoStage : ℕ → Row → JobKind → Type 0
HasNoStage nodes [] kind = ⊥
HasNoStage nodes (word ∷ words) kind = IsNoStage nodes word kind ⊎ (IsStageWord nodes word × HasNoStage nodes words kind)

-- ---- the line of the cluster
abbrev pub IsTotal : ℕ → Type 0
IsTotal n = (1 ≤ n) × (n ≤ MOST_NODES)

abbrev pub IsNoCluster : Row → JobKind → Type 0
IsNoCluster [] kind = kind ≡ UnknownWord
IsNoCluster (word ∷ more) kind =
    ((kind ≡ BadNumber) × ¬ IsNumber word)
    ⊎ ((kind ≡ TooManyNodes) × IsNumber word × ¬ IsTotal (digits_value 10 word))
    ⊎ ((kind ≡ UnknownWord) × IsNumber word × IsTotal (digits_value 10 word) × (more ≢ []))

-- the first line that says something, where that is wrong
abbrev pub IsWrongFirst : Row → JobKind → Type 0
IsWrongFirst [] kind = ⊥
IsWrongFirst (first ∷ rest) kind =
    (is_skipped (first ∷ rest) ≡ false) × (((kind ≡ NoClusterLine) × (first ≢ codes "cluster")) ⊎ ((first ≡ codes "cluster") × IsNoCluster rest kind))

-- ---- the line of a job
-- more stages than a job has, or than all have
abbrev pub AreTooMany : JobFile → ℕ → Type 0
AreTooMany file count = (MOST_STAGES < count) ⊎ (MOST_STAGES_IN_ALL < total file.jobs + count)

abbrev pub IsNoPipeline : JobFile → Row → JobKind → Type 0
IsNoPipeline file [] kind = kind ≡ UnknownWord
IsNoPipeline file (word ∷ words) kind =
    HasNoStage file.nodes (word ∷ words) kind ⊎ ((kind ≡ TooManyStages) × All (IsStageWord file.nodes) (word ∷ words) × AreTooMany file (length (word ∷ words)))

abbrev pub IsNoJob : List Word → JobFile → Row → JobKind → Type 0
IsNoJob names file [] kind = kind ≡ UnknownWord
IsNoJob names file (name ∷ stages) kind =
    IsNoName name kind
    ⊎ ((kind ≡ DoubleName) × IsName name × Contains names name)
    ⊎ (IsName name × (¬ Contains names name) × IsNoPipeline file stages kind)

-- ---- a line of the shell
-- how far the jobs are behind these lines
unfoldable pub after_lines : List JobLine → (ℕ → Phase) → ℕ → Phase
after_lines [] phase = phase
after_lines (line ∷ lines) phase = after_lines lines (after_line line phase)

-- a job is started twice, or is not in the background
abbrev pub IsUntimely : (ℕ → Phase) → JobLine → JobKind → Type 0
IsUntimely phase (Run j) kind = (kind ≡ JobTwice) × (phase j ≢ Idle)
IsUntimely phase (Start j) kind = (kind ≡ JobTwice) × (phase j ≢ Idle)
IsUntimely phase (Stop j) kind = (kind ≡ NotInBackground) × (phase j ≢ Background)
IsUntimely phase (End j) kind = (kind ≡ NotInBackground) × (phase j ≢ Background)
IsUntimely phase (Bring j) kind = (kind ≡ NotInBackground) × (phase j ≢ Background)

-- the shell has too many statements with one line more
abbrev pub IsTooLong : JobFile → JobLine → Type 0
IsTooLong file line = MOST_STATEMENTS < length (acts_of (record file { lines = file.lines ++ line ∷ [] }))

-- what is wrong with the line of a known job, behind which these words stand
abbrev pub IsNoLine : JobFile → JobLine → Row → JobKind → Type 0
IsNoLine file line more kind =
    IsUntimely (after_lines file.lines all_idle) line kind
    ⊎ (IsInPhase (after_lines file.lines all_idle) line × (((kind ≡ UnknownWord) × (more ≢ [])) ⊎ ((kind ≡ TooManyStatements) × (more ≡ []) × IsTooLong file line)))

-- behind the word of a line
abbrev pub IsNoTelling : List Word → JobFile → Word → Row → JobKind → Type 0
IsNoTelling names file verb [] kind = kind ≡ UnknownWord
IsNoTelling names file verb (name ∷ more) kind =
    IsNoName name kind
    ⊎ ((kind ≡ UnknownJob) × IsName name × ¬ Contains names name)
    ⊎ ((line : JobLine) × (verb ≡ verb_of line) × IsName name × IsCalled names name (job_of line) × IsNoLine file line more kind)

abbrev pub IsVerb : Word → Type 0
IsVerb word = (line : JobLine) × (word ≡ verb_of line)

-- ---- any line
-- the first wrong word of a line, or the limit that it passes, behind lines that describe these jobs
abbrev pub IsWrong : List Word → JobFile → Row → JobKind → Type 0
IsWrong names file [] kind = ⊥
IsWrong names file (first ∷ rest) kind =
    (is_skipped (first ∷ rest) ≡ false) × (
    ((kind ≡ UnknownWord) × (first ≢ codes "job") × ¬ IsVerb first)
    ⊎ ((first ≡ codes "job") × IsNoJob names file rest kind)
    ⊎ (IsVerb first × IsNoTelling names file first rest kind))

-- all lines are text, and none says anything
abbrev pub AreSilent : List (List ℕ) → Type 0
AreSilent lines = All (λ line. (is_utf8 line ≡ true) × (is_skipped (words line) ≡ true)) lines

-- the line is no text, or has this fault by its words
abbrev pub IsBadLine : (Row → JobKind → Type 0) → List ℕ → JobKind → Type 0
IsBadLine wrong line kind = ((kind ≡ NotUtf8) × (is_utf8 line ≡ false)) ⊎ ((is_utf8 line ≡ true) × wrong (words line) kind)

-- these lines have no fault, and the line behind them has this one
abbrev pub HasFault : List (List ℕ) → List ℕ → JobKind → Type 0
HasFault before line kind =
    (AreSilent before × IsBadLine IsWrongFirst line kind)
    ⊎ ((names : List Word) × (file : JobFile) × Describes before names file × IsBadLine (IsWrong names file) line kind)

-- ---- files
-- a file in which no line says anything: that is a fault of its first line, where that is text
abbrev pub IsSilentFault : List (List ℕ) → JobFault → Type 0
IsSilentFault [] fault = fault ≡ fault_at 1 NoClusterLine
IsSilentFault (line ∷ lines) fault =
    ((is_utf8 line ≡ false) × (fault ≡ fault_at 1 NotUtf8)) ⊎ ((is_utf8 line ≡ true) × (fault ≡ fault_at 1 NoClusterLine))

-- the first line with a fault, and its first fault
pub record IsFirstFault (lines : List (List ℕ)) (fault : JobFault) : Type 0 where
  pub before : List (List ℕ)
  pub line : List ℕ
  pub later : List (List ℕ)
  pub are : lines ≡ before ++ line ∷ later
  pub at_line : fault.line ≡ 1 + length before
  pub is : HasFault before line fault.kind

-- no line says anything
abbrev pub SaysNothing : List (List ℕ) → Type 0
SaysNothing lines = All (λ line. is_skipped (words line) ≡ true) lines

-- the least fault of a file
abbrev pub IsLeastFault : List (List ℕ) → JobFault → Type 0
IsLeastFault lines fault = (SaysNothing lines × IsSilentFault lines fault) ⊎ ((¬ SaysNothing lines) × IsFirstFault lines fault)
