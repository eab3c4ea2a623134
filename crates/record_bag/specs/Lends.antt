-- what a table of records ends as, where a record of it is lent
use Rattle.std.specs.Prelude.{List, Option, Some}
use Rattle.std.specs.Borrow.{LendsIf, Fml, RattleType, MutBor}
use Rattle.std.specs.contracts.option.Option.{the_row as option_row}
use Rattle.unix_names.specs.declared.Pid.{Pid}
use Rattle.ordered_table.specs.declared.Entry.{Entry}
use Rattle.ordered_table.specs.Entries.{with_value}
use Rattle.ordered_table.specs.contracts.Table.{the_row as table_row}

-- once the loan r ends, the id has the last record that was written through it; without a loan the table stays as it is
abbrev pub lends_record : (T : RattleType) → MutBor (List (Entry (Option T.Denot))) → Pid → Option (MutBor T.Denot) → Fml
lends_record T table p r = LendsIf (table_row (option_row T)) T table r (λ w. with_value table.now p (Some w)) table.now
