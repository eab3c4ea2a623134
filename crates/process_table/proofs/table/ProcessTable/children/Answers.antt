use Rattle.std.proofs.Common.{◌∙◌, [], ap, sym, subst}
use Rattle.std.specs.Prelude.{unwrap_or}
use Rattle.process_table.specs.Rows.{AreChildren}
use Rattle.process_table.proofs.ChildLaws.{children-known}
use Rattle.process_table.proofs.table.ProcessTable.children.Goals as goal

pub returns-in-Some : goal.returns-in-Some
returns-in-Some c = subst (λ rows. AreChildren rows c.args.pid c.as_slice.result.now) c.self.view_is
    (children-known c.self.inside.index c.self.inside.rows.items c.args.pid c.as_slice.result.now c.self.invariant c.if-not-self.false (sym c.if-eq.ensures)
    (ap (λ o. unwrap_or o []) (sym c.in-Some.ensures) ∙ sym c.as_slice.ensures))

pub returns-in-None : goal.returns-in-None
returns-in-None c = subst (λ rows. AreChildren rows c.args.pid []) c.self.view_is
    (children-known c.self.inside.index c.self.inside.rows.items c.args.pid [] c.self.invariant c.if-not-self.false (sym c.if-eq.ensures) (ap (λ o. unwrap_or o []) (sym c.in-None.ensures)))
