use Rattle.record_table.proofs.SlotLaws.{stands-nudge, others-nudge}
use Rattle.record_table.proofs.slots.Slots.nudge.Goals as goal

pub returns-then-is_out-clause-stands : goal.returns-then-is_out-clause-stands
returns-then-is_out-clause-stands g c = stands-nudge c.args.self.now c.mark.new.self c.args.pid c.mark.ensures

pub returns-then-is_out-clause-others : goal.returns-then-is_out-clause-others
returns-then-is_out-clause-others g c = others-nudge c.args.self.now c.mark.new.self c.args.pid c.mark.ensures
