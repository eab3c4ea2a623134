-- What the code goes through while it reads a part, line by line. No promise cites these definitions.
use Rattle.std.specs.Prelude.{◌≡◌, ◌<◌, ℕ, if◌then◌else◌, List, [], ◌∷◌, ◌++◌, Option, Some, None, Result, Ok, Err, All}
use Rattle.unix_calls.specs.declared.Script.{Script}
use Rattle.unix_calls.specs.declared.Start.{Start}
use Rattle.unix_calls.specs.declared.Work.{Work}
use Rattle.unix_calls.specs.declared.limits.TheConstants.{MOST_NODES}
use Rattle.unix_calls.specs.Work.{total_work, is_little}
use Rattle.script_words.specs.declared.faults.Fault.{Fault}
use Rattle.script_words.specs.declared.faults.Kind.{Kind}
use Rattle.script_words.specs.declared.faults.Kind.TheVariants.{TooMuchWork}
use Rattle.script_words.specs.Kinds.{fault_at}
use Rattle.script_reader.specs.declared.bodies.Bodies.{Bodies}
use Rattle.script_reader.specs.declared.lines.Item.{Item}
use Rattle.script_reader.specs.declared.lines.Item.TheVariants as item
use Rattle.script_reader.specs.declared.lines.StartLine.{StartLine}
use Rattle.script_reader.specs.declared.marks.Marks.{Marks}
use Rattle.script_reader.specs.declared.marks.NumberedStart.{NumberedStart}
use Rattle.script_reader.specs.Files.{Told, body, scripts_of, with_start, judged}

-- the scripts so far and those of further lines, the first of which may go on with the last script
unfoldable pub scripts_with : Bodies → List Told → List Script
scripts_with so_far rest =
    if so_far.begun
    then so_far.whole ++ record { statements = so_far.last ++ body rest } ∷ scripts_of rest
    else so_far.whole ++ scripts_of rest

-- the start of a line, if it is one, or the line's fault
abbrev pub started : Result Item Kind → Result (Option StartLine) Kind
started (Err kind) = Err kind
started (Ok (item.Starts s)) = Ok (Some s)
started (Ok _) = Ok None

-- a start is on one of at most 64 nodes
abbrev pub HasNode : Result Item Kind → Type 0
HasNode (Ok (item.Starts s)) = s.node < MOST_NODES
HasNode _ = Unit {0}

-- each of some starts is on one of at most 64 nodes
abbrev pub HaveNodes : List NumberedStart → Type 0
HaveNodes starts = All (λ s. s.line.node < MOST_NODES) starts

-- earlier starts, those that are marked, and those of further lines, or the first fault; number is that of the first further line
unfoldable pub judged_with : List Work → List Start → List NumberedStart → Option Fault → ℕ → List Told → Result (List Start) Fault
judged_with works earlier (s ∷ marked) fault number rest =
    if is_little (total_work works (with_start earlier s.line))
    then judged_with works (with_start earlier s.line) marked fault number rest
    else Err (fault_at s.number TooMuchWork)
judged_with works earlier [] (Some fault) number rest = Err fault
judged_with works earlier [] None number rest = judged works earlier number rest

-- what is marked is judged as the lines are, of which the first has this number; number is that of the line behind them
abbrev pub Stands : Marks → ℕ → ℕ → List Told → Type 0
Stands marks number first told = (works : List Work) → judged_with works [] marks.starts marks.fault number [] ≡ judged works [] first told
