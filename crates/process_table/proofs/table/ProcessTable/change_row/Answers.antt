use Rattle.process_table.proofs.StayLaws.{knows-changed, knows-changed_place}
use Rattle.process_table.proofs.table.ProcessTable.change_row.Goals as goal

pub invariant_of-self-then-not-change_found : goal.invariant_of-self-then-not-change_found
invariant_of-self-then-not-change_found c =
    knows-changed_place c.self.inside.index c.forget.new.self c.args.pid c.args.change.now c.self.inside.rows.items c.change_found.new.rows.items c.forget.ensures c.change_found.ensures.rows c.self.invariant

pub invariant_of-self-else-not-change_found : goal.invariant_of-self-else-not-change_found
invariant_of-self-else-not-change_found c =
    knows-changed c.self.inside.index c.args.pid c.args.change.now c.self.inside.rows.items c.change_found.new.rows.items c.change_found.ensures.rows (c.change_found.ensures.stays c.if-not-change_found.false) c.self.invariant
