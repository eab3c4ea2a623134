use Rattle.std.proofs.Common.{sym, arith}
use Rattle.list_laws.proofs.Filters.{or_false}
use Rattle.process_table.specs.Rows.{is_among}
use Rattle.kernel_rules.proofs.NearLaws.{risk_more}
use Rattle.kernel_rules.proofs.orphans.groups_at_risk.Goals.{then-is_near_link+in_ok-add_stopped, else-is_near_link}
use Rattle.kernel_rules.proofs.orphans.groups_at_risk.Goals as goal

pub loop-row-preserved : goal.loop-row-preserved
loop-row-preserved c = λ g.
    risk_more c.args.rows.now c.args.pid g c.loop-row.row-index c.row-item.result c.is_near_link.result (is_among c.loop-row.groups.items g) (is_among c.if-is_near_link.groups.items g) (omega arith) c.row-item.is
    c.is_near_link.ensures (c.loop-row.invariant g) (elim c.if-is_near_link.branch [
      | then-is_near_link+in_ok-add_stopped w ↦ rw (w.groups-is, w.if-is_near_link.true) (w.in_ok-add_stopped.ensures g)
      | else-is_near_link w ↦ rw (w.groups-is, w.if-is_near_link.false) (sym (or_false _))
    ])
