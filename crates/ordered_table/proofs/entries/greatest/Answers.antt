use Rattle.std.proofs.Common.{None, arith, sym}
use Rattle.ordered_table.proofs.PlaceLaws.{last-pid, AllUpTo-last}
use Rattle.ordered_table.proofs.entries.greatest.Goals as goal

pub returns-clause-last : goal.returns-clause-last
returns-clause-last g c = sym (last-pid c.args.entries.now _ _ None (omega arith))

pub returns-clause-greatest : goal.returns-clause-greatest
returns-clause-greatest g c = AllUpTo-last c.args.entries.now _ _ (omega arith) c.requires
