-- The faults of a part, each by its own condition: at which line it stands, and where in the order of the faults of that line.
use Rattle.std.specs.Prelude.{◌≡◌, ◌⊎◌, ℕ, ◌+◌, ◌-◌, ◌<◌, true, false, List, [], ◌∷◌, length, take, map, fold, codes, slice_get, Option, Some, None}
use Rattle.std.specs.List.{AllZip}
use Rattle.std.specs.Str.{is_utf8}
use Rattle.byte_ends.specs.Text.{words}
use Rattle.unix_calls.specs.declared.Script.{Script}
use Rattle.unix_calls.specs.declared.Statement.{Statement}
use Rattle.unix_calls.specs.declared.Statement.TheVariants.{Fork, Exec}
use Rattle.unix_calls.specs.declared.Work.{Work}
use Rattle.unix_calls.specs.Work.{work, together, work_of, works, is_little}
use Rattle.script_words.specs.declared.Kind.{Kind}
use Rattle.script_words.specs.declared.Kind.TheVariants.{NotUtf8, NoClusterLine, UnknownWord, TooManyScripts, TooManyStatements, TooManyStarts, TooMuchWork, NoStart}
use Rattle.script_words.specs.Words.{Word, Row, word_at}
use Rattle.script_reader.specs.Files.{begins_with, words_behind, with_said}
use Rattle.fault_laws.specs.Context.{is_begun, is_open, is_statement, statement_count, script_names, start_names}
use Rattle.fault_laws.specs.Patterns.{IsWrong}
use Rattle.unix_calls.specs.declared.limits.TheConstants.{MOST_SCRIPTS, MOST_STATEMENTS, MOST_STARTS}

-- What is looked at, in this order, where several faults stand at one line.
pub data Aspect : Type 0 where
  -- whether the line is a text, how many lines of its sort there are, its words, and the work of the starts so far
  text : Aspect
  limit : Aspect
  wording : Aspect
  labour : Aspect
  -- of the whole part: whether a line says something, whether a script is left open, whether something is started
  silence : Aspect
  opening : Aspect
  idleness : Aspect

abbrev pub rank : Aspect → ℕ
rank text = 0
rank limit = 1
rank wording = 2
rank labour = 3
rank silence = 4
rank opening = 5
rank idleness = 6

-- ---- the faults of a line by itself
-- the 65th script, the 257th statement of a script, the 65th start
abbrev pub PassesLimit : List Row → Row → Kind → Type 0
PassesLimit before row kind =
    ((kind ≡ TooManyScripts) × (is_begun before ≡ true) × (begins_with (codes "script") row ≡ true) × (length (script_names before) ≡ MOST_SCRIPTS))
    ⊎ ((kind ≡ TooManyStatements) × (is_begun before ≡ true) × (is_statement row ≡ true) × (is_open before ≡ true) × (statement_count before ≡ MOST_STATEMENTS))
    ⊎ ((kind ≡ TooManyStarts) × (is_begun before ≡ true) × (begins_with (codes "start") row ≡ true) × (length (start_names before) ≡ MOST_STARTS))

-- a fault of the line that stands behind so many others
abbrev pub OwnFault : List (List ℕ) → ℕ → Aspect → Kind → Type 0
OwnFault lines k text kind = (kind ≡ NotUtf8) × (line : List ℕ) × (slice_get lines k ≡ Some line) × (is_utf8 line ≡ false)
OwnFault lines k limit kind = (row : Row) × (slice_get (map words lines) k ≡ Some row) × PassesLimit (take k (map words lines)) row kind
OwnFault lines k wording kind = (row : Row) × (slice_get (map words lines) k ≡ Some row) × IsWrong (map words lines) (take k (map words lines)) row kind
OwnFault lines k _ kind = ⊥

-- ---- work
-- the first of some names that is this word has this number
abbrev pub IsFirst : List Word → Word → ℕ → Type 0
IsFirst names word n = (slice_get names n ≡ Some word) × ((m : ℕ) → m < n → ¬ (slice_get names m ≡ Some word))

-- a statement that makes as much work as the line: a fork or an exec of the script that the line names, the first of that name, or any other
abbrev pub Weighs : List Row → Row → Statement → Type 0
Weighs rows row (Fork var script at) = (begins_with (codes "fork") row ≡ true) × IsFirst (script_names rows) (word_at row 2) script
Weighs rows row (Exec script) = (begins_with (codes "exec") row ≡ true) × IsFirst (script_names rows) (word_at row 1) script
Weighs rows row _ = (is_statement row ≡ true) × (begins_with (codes "fork") row ≡ false) × (begins_with (codes "exec") row ≡ false)

-- what a line adds to its script: a statement, where it has no fault of its own, and otherwise nothing
abbrev pub Adds : List (List ℕ) → ℕ → Row → Option Statement → Type 0
Adds lines k row None = (is_statement row ≡ false) ⊎ ((aspect : Aspect) × (kind : Kind) × OwnFault lines k aspect kind)
Adds lines k row (Some statement) = Weighs (map words lines) row statement × ((aspect : Aspect) (kind : Kind) → ¬ OwnFault lines k aspect kind)

-- the statements of lines up to the next that begins with `script`, and the scripts from that one on; the first of the lines stands behind so many others
abbrev pub Bodies : List (List ℕ) → ℕ → List Row → List Statement → List Script → Type 0
Bodies lines k [] statements scripts = (statements ≡ []) × (scripts ≡ [])
Bodies lines k (row ∷ rows) statements scripts =
    (later : List Statement) × (more : List Script) × Bodies lines (k + 1) rows later more × (
    ((begins_with (codes "script") row ≡ true) × (statements ≡ []) × (scripts ≡ record { statements = later } ∷ more))
    ⊎ ((begins_with (codes "script") row ≡ false) × (added : Option Statement) × Adds lines k row added × (statements ≡ with_said added later) × (scripts ≡ more)))

-- scripts that make as much work as those of the part
abbrev pub HaveBodies : List (List ℕ) → List Script → Type 0
HaveBodies lines scripts = (before : List Statement) × Bodies lines 0 (map words lines) before scripts

-- the work of some scripts that are started
abbrev pub started_work : List Work → List ℕ → Work
started_work works numbers = fold (λ total n. together total (work_of works n)) (work 0 0) numbers

-- the starts up to and with the line that stands behind so many others make too much work
pub record Overworks (lines : List (List ℕ)) (k : ℕ) : Type 0 where
  pub row : Row
  pub there : slice_get (map words lines) k ≡ Some row
  pub starts : begins_with (codes "start") row ≡ true
  pub scripts : List Script
  pub bodies : HaveBodies lines scripts
  pub numbers : List ℕ
  pub started : AllZip (IsFirst (script_names (map words lines))) (words_behind (codes "start") 2 (take (k + 1) (map words lines))) numbers
  pub much : is_little (started_work (works scripts) numbers) ≡ false

-- ---- the faults of a part
-- where the last line stands, or would stand
abbrev pub last_place : List (List ℕ) → ℕ
last_place lines = length lines - 1

-- a fault at the line that stands behind so many others, in this aspect and of this kind
abbrev pub HasFault : List (List ℕ) → ℕ → Aspect → Kind → Type 0
HasFault lines k labour kind = (kind ≡ TooMuchWork) × Overworks lines k
HasFault lines k silence kind = (kind ≡ NoClusterLine) × (k ≡ 0) × (is_begun (map words lines) ≡ false)
HasFault lines k opening kind = (kind ≡ UnknownWord) × (k ≡ last_place lines) × (is_open (map words lines) ≡ true)
HasFault lines k idleness kind = (kind ≡ NoStart) × (k ≡ last_place lines) × (start_names (map words lines) ≡ [])
HasFault lines k aspect kind = OwnFault lines k aspect kind
