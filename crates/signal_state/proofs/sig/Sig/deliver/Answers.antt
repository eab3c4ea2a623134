use Rattle.signal_state.proofs.Kept.{kept_delivered}
use Rattle.signal_state.specs.contracts.sig.Sig.{the_view}
use Rattle.signal_state.proofs.sig.Sig.deliver.Goals as goal

pub invariant_of-self : goal.invariant_of-self
invariant_of-self c = kept_delivered (the_view c.self.inside) c.args.s _ c.self.invariant c.without-self-inside.ensures
