-- tables that can come about stay such
use Rattle.std.specs.Prelude.{◌≡◌, List, ◌++◌}
use Rattle.unix_calls.specs.declared.Entry.{Entry}
use Rattle.unix_calls.specs.declared.World.{World}
use Rattle.unix_calls.specs.Valid.{IsValid}
use Rattle.process_table.specs.declared.Row.{Row}
use Rattle.kernel_model.specs.declared.verdict.Verdict.TheVariants.{Legal}
use Rattle.kernel_model.specs.Step.{verdict, after}
use Rattle.kernel_model.specs.Legal.{boot, after_all, IsLegal}
use Rattle.kernel_model.specs.Sound.{IsSound}

-- an entry that is legal in a sound table leaves a sound table
abbrev pub StepKeepsSound : Type 0
StepKeepsSound = (rows : List Row) (entry : Entry) → IsSound rows → verdict rows entry ≡ Legal → IsSound (after rows entry)

-- the first table of a valid world is sound
abbrev pub BootIsSound : Type 0
BootIsSound = (world : World) → IsValid world → IsSound (boot world)

-- each table on the way of a legal history of a valid world is sound
abbrev pub LegalTablesAreSound : Type 0
LegalTablesAreSound = (world : World) (before later : List Entry) → IsValid world → IsLegal world (before ++ later) → IsSound (after_all world before)
