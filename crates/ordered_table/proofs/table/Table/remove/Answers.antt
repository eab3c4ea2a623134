use Rattle.std.proofs.Common.{sym, ap, ◌∙◌, subst}
use Rattle.ordered_table.specs.Entries.{IsRising, value_at}
use Rattle.ordered_table.proofs.MapLaws.{IsRising-without, without-same, without-other}
use Rattle.ordered_table.proofs.table.Table.remove.Goals as goal

pub invariant_of-self : goal.invariant_of-self
invariant_of-self g c = subst IsRising (sym c.remove.ensures.rest) (IsRising-without _ c.args.pid c.self.invariant)

pub returns-clause-gone : goal.returns-clause-gone
returns-clause-gone g c = ap (λ es. value_at es c.args.pid) c.remove.ensures.rest ∙ without-same _ c.args.pid c.self.invariant

pub returns-clause-others : goal.returns-clause-others
returns-clause-others g c = λ q ne. ap (λ es. value_at es q) c.remove.ensures.rest ∙ (without-other _ c.args.pid q c.self.invariant ne ∙ ap (λ es. value_at es q) c.self.view_is)
