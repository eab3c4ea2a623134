use Rattle.process_table.proofs.StayLaws.{knows-given_up}
use Rattle.process_table.proofs.table.ProcessTable.give_up_children.Goals as goal

pub invariant_of-self : goal.invariant_of-self
invariant_of-self c = knows-given_up c.self.inside.index c.forget.new.self c.args.pid c.self.inside.rows.items c.give_up_every.new.rows.items c.forget.ensures c.give_up_every.ensures c.self.invariant
