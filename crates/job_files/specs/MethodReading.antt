-- method: how a job file is read, line by line: what each line says behind those before it, or its first fault.
use Rattle.std.specs.Prelude.{ℕ, ◌+◌, ◌*◌, Bool, true, false, ◌||◌, ◌&&◌, not, nat_lt, nat_le, if◌then◌else◌, List, [], ◌∷◌, ◌++◌, length, take, drop, fold, codes, position, ◌==◌, Option, Some, None, Result, Ok, Err}
use Rattle.std.specs.List.{list_any}
use Rattle.std.specs.Str.{is_utf8, bytes_eq}
use Rattle.byte_ends.specs.Text.{words}
use Rattle.unix_calls.specs.declared.limits.TheConstants.{MOST_NODES, MOST_STATEMENTS}
use Rattle.script_words.specs.declared.Kind.{Kind}
use Rattle.script_words.specs.declared.Kind.TheVariants as kind
use Rattle.script_words.specs.Words.{Word, Row, is_same, is_skipped}
use Rattle.script_words.specs.Words as word
use Rattle.job_plans.specs.declared.Stage.{Stage}
use Rattle.job_plans.specs.declared.Job.{Job}
use Rattle.job_plans.specs.declared.JobLine.{JobLine}
use Rattle.job_plans.specs.declared.JobLine.TheVariants.{Run, Start, Stop, End, Bring}
use Rattle.job_plans.specs.declared.Phase.{Phase}
use Rattle.job_plans.specs.declared.Phase.TheVariants.{Idle, Background, Done}
use Rattle.job_plans.specs.declared.JobFile.{JobFile}
use Rattle.job_plans.specs.declared.limits.TheConstants.{MOST_STAGES, MOST_STAGES_IN_ALL}
use Rattle.job_plans.specs.Files.{stages_of, job_of}
use Rattle.job_files.specs.declared.faults.JobKind.{JobKind}
use Rattle.job_files.specs.declared.faults.JobKind.TheVariants.{NotUtf8, NoClusterLine, TooManyNodes, BadNumber, NoSuchNode, LongName, UnknownWord, DoubleName, TooManyStages, UnknownJob, JobTwice, NotInBackground, TooManyStatements}
use Rattle.job_files.specs.declared.faults.JobFault.{JobFault}
use Rattle.job_files.specs.declared.drafts.Item.{Item}
use Rattle.job_files.specs.declared.drafts.Item.TheVariants as item
use Rattle.job_files.specs.declared.drafts.Draft.{Draft}
use Rattle.job_files.specs.Kinds.{fault_at}

-- what comes next reads what came before, where that has no fault
infixl 10 ◌>>=◌
abbrev pub ◌>>=◌ : {A B : Type 0} → Result A JobKind → (A → Result B JobKind) → Result B JobKind
(Ok x) >>= f = f x
(Err e) >>= f = Err e

-- ---- words
-- whatever is no number is a bad one
abbrev pub as_number : Result ℕ Kind → Result ℕ JobKind
as_number (Ok n) = Ok n
as_number (Err k) = Err BadNumber

abbrev pub number_in : Word → Result ℕ JobKind
number_in w = as_number (word.number w)

abbrev pub status : Word → Result ℕ JobKind
status w = number_in w >>= λ e. (if nat_lt e 256 then Ok e else Err BadNumber)

abbrev pub node : ℕ → Word → Result ℕ JobKind
node nodes w = number_in w >>= λ k. (if nat_lt k nodes then Ok k else Err NoSuchNode)

-- a stage is cut at its first `@`
abbrev pub stage_cut : ℕ → Word → Option ℕ → Result Stage JobKind
stage_cut nodes w None = Err UnknownWord
stage_cut nodes w (Some at) = status (take at w) >>= λ e. (node nodes (drop (at + 1) w) >>= λ k. Ok (record { status = e; node = record { 0 = k } }))

abbrev pub at_sign : Word → Option ℕ
at_sign w = position (λ b. b == 64) w

abbrev pub stage : ℕ → Word → Result Stage JobKind
stage nodes w = stage_cut nodes w (at_sign w)

abbrev pub stages : ℕ → Row → Result (List Stage) JobKind
stages nodes [] = Ok []
stages nodes (w ∷ ws) = stage nodes w >>= λ s. (stages nodes ws >>= λ ss. Ok (s ∷ ss))

abbrev pub as_name : Result (Unit {0}) Kind → Result (Unit {0}) JobKind
as_name (Ok x) = Ok x
as_name (Err kind.LongName) = Err LongName
as_name (Err _) = Err UnknownWord

abbrev pub name : Word → Result (Unit {0}) JobKind
name w = as_name (word.name w)

-- ---- the line of the cluster
abbrev pub cluster_row : Row → Result Item JobKind
cluster_row [] = Err UnknownWord
cluster_row (w ∷ more) = number_in w >>= λ n.
    (if nat_le 1 n && nat_le n MOST_NODES then (if length more == 0 then Ok (item.Nodes n) else Err UnknownWord) else Err TooManyNodes)

-- ---- the line of a job
abbrev pub number_of : List Word → Word → Option ℕ
number_of names w = position (λ n. bytes_eq n w) names

abbrev pub new_name : Option ℕ → Result (Unit {0}) JobKind
new_name None = Ok tt
new_name (Some j) = Err DoubleName

abbrev pub fresh_name : List Word → Word → Result (Unit {0}) JobKind
fresh_name names w = name w >>= λ _. new_name (number_of names w)

abbrev pub counted : ℕ → List Stage → Result Item JobKind
counted before stages =
    if nat_lt MOST_STAGES (length stages) || nat_lt MOST_STAGES_IN_ALL (before + length stages) then Err TooManyStages
    else Ok (item.Job (record { stages = stages }))

abbrev pub job_stages : Draft → Row → Result Item JobKind
job_stages draft more = if length more == 0 then Err UnknownWord else (stages draft.nodes more >>= λ ss. counted draft.stages ss)

abbrev pub job_row : Draft → Row → Result Item JobKind
job_row draft [] = Err UnknownWord
job_row draft (w ∷ more) = fresh_name draft.names w >>= λ _. job_stages draft more

-- ---- a line that tells the shell something
-- the line of a word and a job, where it is one
abbrev pub line_named : Word → ℕ → Option JobLine
line_named w j =
    if is_same w (codes "run") then Some (Run j)
    else (if is_same w (codes "start") then Some (Start j)
    else (if is_same w (codes "stop") then Some (Stop j)
    else (if is_same w (codes "end") then Some (End j)
    else (if is_same w (codes "bring") then Some (Bring j) else None))))

abbrev pub known : Option ℕ → Result ℕ JobKind
known None = Err UnknownJob
known (Some j) = Ok j

-- how far a job is behind one line more, and behind all of some lines
abbrev pub phase_with : ℕ → Phase → JobLine → Phase
phase_with j phase (Run i) = if i == j then Done else phase
phase_with j phase (Start i) = if i == j then Background else phase
phase_with j phase (Stop i) = phase
phase_with j phase (End i) = phase
phase_with j phase (Bring i) = if i == j then Done else phase

abbrev pub phase_of : ℕ → List JobLine → Phase
phase_of j lines = fold (phase_with j) Idle lines

abbrev pub must_be_idle : Phase → Result (Unit {0}) JobKind
must_be_idle Idle = Ok tt
must_be_idle Background = Err JobTwice
must_be_idle Done = Err JobTwice

abbrev pub must_be_back : Phase → Result (Unit {0}) JobKind
must_be_back Idle = Err NotInBackground
must_be_back Background = Ok tt
must_be_back Done = Err NotInBackground

abbrev pub fits : Phase → JobLine → Result (Unit {0}) JobKind
fits phase (Run j) = must_be_idle phase
fits phase (Start j) = must_be_idle phase
fits phase (Stop j) = must_be_back phase
fits phase (End j) = must_be_back phase
fits phase (Bring j) = must_be_back phase

-- how many statements of the shell a line makes
abbrev pub step_count : List Job → JobLine → ℕ
step_count jobs (Run j) = 4 * length (stages_of jobs j) + 1
step_count jobs (Start j) = 3 * length (stages_of jobs j) + 1
step_count jobs (Stop j) = 1
step_count jobs (End j) = 2
step_count jobs (Bring j) = length (stages_of jobs j) + 1

-- a line behind which so many words more stand
abbrev pub told : Draft → JobLine → ℕ → Result Item JobKind
told draft line more = fits (phase_of (job_of line) draft.lines) line >>= λ _.
    (if more == 0 then (if nat_lt MOST_STATEMENTS (draft.steps + step_count draft.jobs line) then Err TooManyStatements else Ok (item.Tells line)) else Err UnknownWord)

abbrev pub told_line : Draft → Option JobLine → ℕ → Result Item JobKind
told_line draft None more = Err UnknownWord
told_line draft (Some line) more = told draft line more

abbrev pub told_row : Draft → Word → Row → Result Item JobKind
told_row draft verb [] = Err UnknownWord
told_row draft verb (w ∷ more) = name w >>= λ _. (known (number_of draft.names w) >>= λ j. told_line draft (line_named verb j) (length more))

abbrev pub is_named : Option JobLine → Bool
is_named None = false
is_named (Some line) = true

-- ---- any line
abbrev pub words_row : Draft → Word → Row → Result Item JobKind
words_row draft first rest =
    if draft.begun
    then (if is_same first (codes "job") then job_row draft rest
    else (if is_named (line_named first 0) then told_row draft first rest else Err UnknownWord))
    else (if is_same first (codes "cluster") then cluster_row rest else Err NoClusterLine)

abbrev pub row_says : Draft → Row → Result Item JobKind
row_says draft [] = Ok item.Nothing
row_says draft (first ∷ rest) = if is_skipped (first ∷ rest) then Ok item.Nothing else words_row draft first rest

abbrev pub line_says : Draft → List ℕ → Result Item JobKind
line_says draft line = if is_utf8 line then row_says draft (words line) else Err NotUtf8

-- ---- the draft behind a line
abbrev pub with_item : Draft → Row → Item → Draft
with_item draft row item.Nothing = draft
with_item draft row (item.Nodes n) = record draft { begun = true; nodes = n }
with_item draft row (item.Job job) = record draft { names = draft.names ++ word.word_at row 1 ∷ []; jobs = draft.jobs ++ job ∷ []; stages = draft.stages + length job.stages }
with_item draft row (item.Tells line) = record draft { lines = draft.lines ++ line ∷ []; steps = draft.steps + step_count draft.jobs line }

abbrev pub first_draft : Draft
first_draft = record { begun = false; nodes = 0; names = []; jobs = []; lines = []; stages = 0; steps = 0 }

abbrev pub file_of : Draft → JobFile
file_of draft = record { nodes = draft.nodes; jobs = draft.jobs; lines = draft.lines }

-- ---- all lines
-- the lines behind one that says something, or its fault
abbrev pub read_next : ℕ → (Item → Result JobFile JobFault) → Result Item JobKind → Result JobFile JobFault
read_next number more (Ok it) = more it
read_next number more (Err kind) = Err (fault_at number kind)

abbrev pub read_from : Draft → ℕ → List (List ℕ) → Result JobFile JobFault
read_from draft number [] = Ok (file_of draft)
read_from draft number (line ∷ lines) = read_next number (λ it. read_from (with_item draft (words line) it) (number + 1) lines) (line_says draft line)

-- a line that says something
abbrev pub says_something : List ℕ → Bool
says_something line = not (is_skipped (words line))

-- what is wrong where no line says anything
abbrev pub silent_kind : List (List ℕ) → JobKind
silent_kind [] = NoClusterLine
silent_kind (line ∷ lines) = if is_utf8 line then NoClusterLine else NotUtf8

-- the jobs of a file's lines, or its least fault
abbrev pub read_lines : List (List ℕ) → Result JobFile JobFault
read_lines lines = if list_any says_something lines then read_from first_draft 1 lines else Err (fault_at 1 (silent_kind lines))
