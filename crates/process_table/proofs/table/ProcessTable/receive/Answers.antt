use Rattle.std.proofs.Common.{arith, ap}
use Rattle.std.specs.Prelude.{length}
use Rattle.process_table.proofs.StayLaws.{knows-received_at}
use Rattle.process_table.proofs.table.ProcessTable.receive.Goals as goal

pub invariant_of-self : goal.invariant_of-self
invariant_of-self c =
    knows-received_at c.self.inside.index c.args.signals.now c.self.inside.rows.items c.receive_at.new.rows.items c.args.at c.receive_at.ensures (omega (arith, ap length c.self.view_is)) c.self.invariant
