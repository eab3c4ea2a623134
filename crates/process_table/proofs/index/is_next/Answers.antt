use Rattle.std.proofs.Common.{sym, refl}
use Rattle.process_table.proofs.RisingLaws.{is_next-last}
use Rattle.process_table.proofs.index.is_next.Goals as goal

pub returns-in-Some : goal.returns-in-Some
returns-in-Some c = is_next-last c.args.rows.now c.args.pid _ c.in-Some.last.now refl (sym c.in-Some.ensures.value)
