-- What `table` and `why` write.
use Rattle.std.specs.Prelude.{ℕ, zero, suc, ◌-◌, nat_le, if◌then◌else◌, List, ◌++◌, take, length, codes, slice_get, Option, Some, None}
use Rattle.std.specs.Fmt.{decimal}
use Rattle.unix_calls.specs.declared.Entry.{Entry}
use Rattle.unix_calls.specs.declared.World.{World}
use Rattle.kernel_model.specs.Legal.{after_all}
use Rattle.table_view.specs.Grounds.{ground}
use Rattle.table_view.specs.Rows.{table_text}
use Rattle.table_view.specs.Told.{ground_text}
use Rattle.command_ends.specs.Ends.{Texts}
use Rattle.history_shell.specs.Hearing.{Hears}

-- a history has too few entries for this number
abbrev pub no_entry : ℕ → List ℕ
no_entry at = codes "no entry " ++ decimal at ++ codes "\n"

-- the kernel's table after the first entries, so many as at says
abbrev pub table_said : ℕ → World → List Entry → List ℕ
table_said at world entries = if nat_le at (length entries) then table_text (after_all world (take at entries)) else no_entry at

-- the entry of this number, counted from 1
abbrev pub entry_at : ℕ → List Entry → Option Entry
entry_at zero entries = None
entry_at (suc before) entries = slice_get entries before

-- the ground of an entry that stands behind these
abbrev pub ground_behind : ℕ → World → List Entry → Option Entry → List ℕ
ground_behind at world before None = no_entry at
ground_behind at world before (Some entry) = ground_text (ground (after_all world before) entry) ++ codes "\n"

-- the ground of the entry of this number, where the kernel's table is the one after the entries before it
abbrev pub ground_said : ℕ → World → List Entry → List ℕ
ground_said at world entries = ground_behind at world (take (at - 1) entries) (entry_at at entries)

-- the table of a legal history after so many entries; of others what `audit` says
abbrev pub TellsTable : ℕ → Texts
TellsTable at = Hears (table_said at)

-- the ground of the entry of this number of a legal history; of others what `audit` says
abbrev pub TellsGround : ℕ → Texts
TellsGround at = Hears (ground_said at)
