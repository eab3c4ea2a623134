use Rattle.std.proofs.Common.{sym, ap, ◌∙◌, subst}
use Rattle.cluster_core.specs.MethodArrivals.{first_heard, AllSilent}
use Rattle.cluster_core.proofs.Hearing.{silent_none, none_silent, not_some}
use Rattle.cluster_core.proofs.arrivals.Arrivals.first.Goals as goal

pub returns-then-not-self-clause-first : goal.returns-then-not-self-clause-first
returns-then-not-self-clause-first c = sym (silent_none 0 c.args.self.now (subst AllSilent c.self.view_is (c.self.invariant c.if-not-self.true)))

pub invariant_of-self : goal.invariant_of-self
invariant_of-self c e =
    none_silent 0 c.self.inside.wires.items
    (ap (first_heard 0) (sym c.deref.ensures.value) ∙ sym c.first_with-found.ensures ∙ not_some c.first_with-found.result (sym c.is_some-self-inside.ensures ∙ e))
