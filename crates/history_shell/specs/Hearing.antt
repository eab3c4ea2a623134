-- What is heard of an input's history.
use Rattle.std.specs.Prelude.{◌≡◌, ◌≢◌, ◌⊎◌, ℕ, List, [], ◌++◌, codes, Option, Some, None}
use Rattle.byte_ends.specs.Text.{lines}
use Rattle.unix_calls.specs.declared.Entry.{Entry}
use Rattle.unix_calls.specs.declared.World.{World}
use Rattle.audit_core.specs.declared.judge.Judged.{Judged}
use Rattle.audit_core.specs.declared.judge.Judged.TheVariants.{Legal}
use Rattle.audit_core.specs.declared.stamps.JudgedTwo.{JudgedTwo}
use Rattle.audit_core.specs.declared.stamps.JudgedTwo.TheVariants as two
use Rattle.audit_core.specs.Told.{judged_text, judged_two_text}
use Rattle.audit_core.specs.Judge.{IsJudged}
use Rattle.audit_core.specs.Stamped.{entries_of, IsJudgedTwo}
use Rattle.file_parts.specs.Parts.{Lines, history_lines}
use Rattle.histories.specs.declared.Stamped.{Stamped}
use Rattle.histories.specs.Told.{bad_line_text}
use Rattle.histories.specs.Reading.{IsHistory, IsFirstBad}
use Rattle.histories.specs.Stamped.{HasFormatTwo, IsHistoryTwo, IsFirstBadTwo}
use Rattle.command_ends.specs.declared.status.Status.TheVariants.{Done, BadFile, Illegal}
use Rattle.given_files.specs.declared.input.Given.{Given}
use Rattle.command_ends.specs.Ends.{Texts}
use Rattle.given_files.specs.Input.{Means, IsFault, Refuses, history_first}

-- ---- the history part
-- a history as it stands in a file: its entries alone, or stamped ones
pub data History : Type 0 where
  plain : List Entry → History
  stamped : List Stamped → History

-- the entries of a history, without their stamps
abbrev pub entries_in : History → List Entry
entries_in (plain entries) = entries
entries_in (stamped entries) = entries_of entries

-- the history of a history part, which is of format 2 exactly where its first line says so; without a part there are no entries
abbrev pub HasHistory : Option Lines → History → Type 0
HasHistory None history = history ≡ plain []
HasHistory (Some ls) (plain entries) = (¬ HasFormatTwo ls) × IsHistory ls entries
HasHistory (Some ls) (stamped entries) = IsHistoryTwo ls entries

-- the first bad line of a history part, whose first line has this number
abbrev pub HasBadLine : Option Lines → ℕ → ℕ → Type 0
HasBadLine None number line = ⊥
HasBadLine (Some ls) number line = ((¬ HasFormatTwo ls) × IsFirstBad ls number line) ⊎ IsFirstBadTwo ls number line

-- ---- verdicts
-- a history is legal for the one kernel and in its scripts' order; where it is stamped its places rise, and its users are those of its processes
abbrev pub IsGood : World → History → Type 0
IsGood world (plain entries) = IsJudged world entries Legal
IsGood world (stamped entries) = IsJudgedTwo world entries two.Legal

-- what is said of another history: its first entry that breaks a rule, with the first rule that it breaks
abbrev pub IsBad : World → History → List ℕ → Type 0
IsBad world (plain entries) output = (judged : Judged) × (judged ≢ Legal) × IsJudged world entries judged × (output ≡ judged_text judged ++ codes "\n")
IsBad world (stamped entries) output = (judged : JudgedTwo) × (judged ≢ two.Legal) × IsJudgedTwo world entries judged × (output ≡ judged_two_text judged ++ codes "\n")

-- ---- what is heard of an input
-- an input with a legal history of these entries
pub record HasLegal (input : List ℕ) (given : Given) (entries : List Entry) : Type 0 where
  pub history : History
  pub reads : Means input given
  pub has : HasHistory (history_lines (lines input)) history
  pub good : IsGood given.world history
  pub are : entries ≡ entries_in history

-- an input with a history that is not legal
pub record HasIllegal (input output : List ℕ) : Type 0 where
  pub given : Given
  pub history : History
  pub reads : Means input given
  pub has : HasHistory (history_lines (lines input)) history
  pub bad : IsBad given.world history output

-- a history part with a bad line, which is told before any entry is judged
pub record FindsBadLine (input output : List ℕ) : Type 0 where
  pub given : Given
  pub line : ℕ
  pub reads : Means input given
  pub bad : HasBadLine (history_lines (lines input)) (history_first input) line
  pub writes : output ≡ bad_line_text line ++ codes "\n"

-- an input without a legal history, and the text that says why
abbrev pub IsRefusal : Texts
IsRefusal Illegal input output = HasIllegal input output ⊎ FindsBadLine input output
IsRefusal BadFile input output = Refuses IsFault input output
IsRefusal _ input output = ⊥

-- an input with a legal history, and what is said of it
pub record Tells (said : World → List Entry → List ℕ) (input output : List ℕ) : Type 0 where
  pub given : Given
  pub entries : List Entry
  pub legal : HasLegal input given entries
  pub writes : output ≡ said given.world entries

-- a command that hears a history: what it says of a legal one, and why there is none
abbrev pub Hears : (World → List Entry → List ℕ) → Texts
Hears said Done input output = Tells said input output
Hears said Illegal input output = IsRefusal Illegal input output
Hears said BadFile input output = IsRefusal BadFile input output
Hears said _ input output = ⊥
