-- what a table ends as, where a value of it is lent
use Rattle.std.specs.Prelude.{List, Option}
use Rattle.std.specs.Borrow.{Lends, LendsIf, Fml, RattleType, MutBor}
use Rattle.unix_names.specs.declared.Pid.{Pid}
use Rattle.ordered_table.specs.declared.entries.Entry.{Entry}
use Rattle.ordered_table.specs.Entries.{with_value}
use Rattle.ordered_table.specs.contracts.table.Table.{the_row}

module _ (T : RattleType) (table : MutBor (List (Entry T.Denot))) (p : Pid) where
  -- once the loan r ends, the id has the last value that was written through it
  abbrev pub lends_found : MutBor T.Denot → Fml
  lends_found r = Lends (the_row T) T table r (with_value table.now p)

  -- the same where there is a loan; else the table stays as it is
  abbrev pub lends_value : Option (MutBor T.Denot) → Fml
  lends_value r = LendsIf (the_row T) T table r (with_value table.now p) table.now
