-- method: what a reading of an input answers, and what the parts of an input are
use Rattle.std.specs.Prelude.{◌≡◌, ℕ, List, Result, Ok, Err}
use Rattle.byte_ends.specs.Text.{lines}
use Rattle.file_parts.specs.declared.parts.Parts.{Parts}
use Rattle.file_parts.specs.Parts.{IsPart, IsPartOf, world_lines, schedule_lines, history_lines}
use Rattle.given_files.specs.Input.{schedule_first, history_first}
use Rattle.script_words.specs.declared.faults.Fault.{Fault}
use Rattle.script_words.specs.declared.faults.ReadRefusal.{ReadRefusal}
use Rattle.script_words.specs.declared.faults.ReadRefusal.TheVariants.{Bad, NoMemory}

-- a reading answers what is meant, or the fault, or that there is no memory
abbrev pub IsReading : {A : Type 0} → Result A (ReadRefusal Fault) → Result A Fault → Type 0
IsReading (Ok value) found = found ≡ Ok value
IsReading (Err (Bad fault)) found = found ≡ Err fault
IsReading (Err NoMemory) found = Unit {0}

-- the parts of an input
pub record AreParts (input : List ℕ) (parts : Parts) : Type 0 where
  pub world : IsPart input (world_lines (lines input)) 1 parts.world
  pub schedule : IsPartOf input (schedule_lines (lines input)) (schedule_first input) parts.schedule
  pub history : IsPartOf input (history_lines (lines input)) (history_first input) parts.history
