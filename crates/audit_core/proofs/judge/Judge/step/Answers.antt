use Rattle.std.proofs.Common.{sym, ◌∙◌, ap, subst}
use Rattle.audit_core.specs.Judge.{IsVerdictAt, with_order}
use Rattle.audit_core.specs.Table.{running_of}
use Rattle.audit_core.proofs.Verdicts.{verdict_with_order}
use Rattle.audit_core.proofs.judge.Judge.step.Goals as goal

pub returns-else-is_none-clause-verdict : goal.returns-else-is_none-clause-verdict
returns-else-is_none-clause-verdict c =
    let said = c.with_order-breach.ensures ∙ ap (with_order c.is_in_order-in_order.result) c.in_ok-told.ensures.verdict in
    subst (IsVerdictAt c.args.world.now c.args.self.now.kernel (running_of c.args.self.now.images) c.args.entry.now) (sym said)
    (verdict_with_order c.args.world.now c.args.self.now.kernel (running_of c.args.self.now.images) c.args.entry.now c.is_in_order-in_order.result c.is_in_order-in_order.ensures)
