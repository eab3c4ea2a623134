-- method: what is said of a legal history, by what is asked
use Rattle.std.specs.Prelude.{ℕ, List, codes}
use Rattle.unix_calls.specs.declared.Entry.{Entry}
use Rattle.unix_calls.specs.declared.World.{World}
use Rattle.history_shell.specs.declared.top.Asked.{Asked}
use Rattle.history_shell.specs.declared.top.Asked.TheVariants.{Verdict, Table, Ground}
use Rattle.history_shell.specs.Tables.{table_said, ground_said}

abbrev pub said : Asked → World → List Entry → List ℕ
said Verdict world entries = codes "legal\n"
said (Table at) world entries = table_said at world entries
said (Ground at) world entries = ground_said at world entries
