-- What an input means to the commands that read one, and what is wrong with it.
use Rattle.std.specs.Prelude.{◌≡◌, ◌⊎◌, ℕ, ◌+◌, ◌≤◌, List, [], ◌∷◌, ◌++◌, length, codes, Option, Some, None, Result, Ok, Err}
use Rattle.byte_ends.specs.Text.{lines}
use Rattle.unix_calls.specs.declared.Turn.{Turn}
use Rattle.unix_calls.specs.declared.Turn.TheVariants.{Auto}
use Rattle.unix_calls.specs.declared.World.{World}
use Rattle.unix_calls.specs.declared.limits.TheConstants.{MOST_TURNS}
use Rattle.unix_calls.specs.Turns.{turns_total}
use Rattle.unix_calls.specs.Valid.{IsValid}
use Rattle.file_parts.specs.Parts.{Lines, world_lines, front_lines, schedule_lines, history_lines}
use Rattle.script_words.specs.declared.Fault.{Fault}
use Rattle.script_words.specs.declared.Kind.TheVariants.{UnknownWord}
use Rattle.script_words.specs.declared.faults.ReadRefusal.{ReadRefusal}
use Rattle.script_words.specs.declared.faults.ReadRefusal.TheVariants.{Bad}
use Rattle.script_words.specs.Kinds.{fault_at, fault_text}
use Rattle.script_laws.specs.Grammar.{IsFile}
use Rattle.fault_laws.specs.Told.{IsLeastFault}
use Rattle.run_text.specs.Faults as turns
use Rattle.run_text.specs.Schedule.{schedule}
use Rattle.given_files.specs.declared.input.Given.{Given}

-- ---- the world and the schedule
-- the number of the first line behind the world part and its dividing line
abbrev pub schedule_first : List ℕ → ℕ
schedule_first input = 2 + length (world_lines (lines input))

-- the number of the first line behind the line that divides off the history
abbrev pub history_first : List ℕ → ℕ
history_first input = 2 + length (front_lines (lines input))

-- the turns of a schedule part, whose first line has this number, or without one 200,000 by the rule of `auto`
abbrev pub turns_given : ℕ → ℕ → Option Lines → Result (List Turn) Fault
turns_given nodes first None = Ok (Auto MOST_TURNS ∷ [])
turns_given nodes first (Some ls) = schedule nodes first ls

-- the world that the world part spells by the grammar, and the turns of the schedule
pub record Means (input : List ℕ) (given : Given) : Type 0 where
  pub world : IsFile (world_lines (lines input)) given.world
  pub turns : turns_given given.world.nodes (schedule_first input) (schedule_lines (lines input)) ≡ Ok given.turns

-- the least fault of a schedule, where there is one
abbrev pub IsFaultOfTurns : ℕ → ℕ → Option Lines → Fault → Type 0
IsFaultOfTurns nodes first None fault = ⊥
IsFaultOfTurns nodes first (Some ls) fault = turns.IsLeastFault nodes first ls fault

-- the least fault of the schedule behind a world
pub record IsScheduleFault (input : List ℕ) (fault : Fault) : Type 0 where
  pub world : World
  pub spelled : IsFile (world_lines (lines input)) world
  pub least : IsFaultOfTurns world.nodes (schedule_first input) (schedule_lines (lines input)) fault

-- the least fault of the world part, or else that of the schedule
abbrev pub IsFault : List ℕ → Fault → Type 0
IsFault input fault = IsLeastFault 1 (world_lines (lines input)) fault ⊎ IsScheduleFault input fault

-- ---- what is run
-- an input that is run means a world and a schedule, and has no history
pub record IsRun (input : List ℕ) (given : Given) : Type 0 where
  pub means : Means input given
  pub no_history : history_lines (lines input) ≡ None

-- what can be run: a valid world, and at most 200,000 turns
pub record CanBeRun (given : Given) : Type 0 where
  pub valid : IsValid given.world
  pub few_turns : turns_total given.turns ≤ MOST_TURNS

-- the line that divides off a history is a fault behind a world and a schedule
pub record IsHistoryFault (input : List ℕ) (fault : Fault) : Type 0 where
  pub given : Given
  pub means : Means input given
  pub history : Lines
  pub there : history_lines (lines input) ≡ Some history
  pub is : fault ≡ fault_at (1 + length (front_lines (lines input))) UnknownWord

-- the least fault of an input that is to be run
abbrev pub IsFaultOfRun : List ℕ → Fault → Type 0
IsFaultOfRun input fault = IsFault input fault ⊎ IsHistoryFault input fault

-- ---- what is said of a fault
-- the fault that a reading found is such a one
abbrev pub IfBad : {A F : Type 0} → Result A (ReadRefusal F) → (F → Type 0) → Type 0
IfBad (Err (Bad fault)) P = P fault
IfBad _ P = Unit {0}

abbrev pub fault_line : Fault → List ℕ
fault_line fault = fault_text fault ++ codes "\n"

-- an input with a fault, and the text that says so
pub record Refuses (Has : List ℕ → Fault → Type 0) (input output : List ℕ) : Type 0 where
  pub fault : Fault
  pub refused : Has input fault
  pub writes : output ≡ fault_line fault
