use Rattle.std.proofs.Common.{sym}
use Rattle.record_table.proofs.SlotLaws.{stands-take, others-put}
use Rattle.record_table.proofs.slots.Slots.take.Goals as goal

pub returns-clause-stands : goal.returns-clause-stands
returns-clause-stands g c = stands-take c.args.self.now _ c.args.name c.in_ok-held.held (sym c.in_ok-held.ensures.before) c.in_ok-held.ensures.ok

pub returns-clause-others : goal.returns-clause-others
returns-clause-others g c = others-put c.args.self.now _ c.args.name _ c.in_ok-held.ensures.ok
