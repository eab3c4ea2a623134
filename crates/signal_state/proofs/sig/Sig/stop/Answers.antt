use Rattle.signal_state.proofs.Kept.{kept_stopped}
use Rattle.signal_state.specs.contracts.sig.Sig.{the_view}
use Rattle.signal_state.proofs.sig.Sig.stop.Goals as goal

pub invariant_of-self : goal.invariant_of-self
invariant_of-self c = kept_stopped (the_view c.self.inside) c.args.s _ c.self.invariant c.without.ensures
