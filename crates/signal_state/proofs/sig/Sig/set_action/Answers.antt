use Rattle.std.proofs.Common.{rules}
use Rattle.signal_state.proofs.Kept.{kept_action, not_fixed}
use Rattle.signal_state.specs.contracts.sig.Sig.{the_view}
use Rattle.signal_state.proofs.sig.Sig.set_action.Goals as goal

pub invariant_of-self : goal.invariant_of-self
invariant_of-self c = kept_action (the_view c.self.inside) c.args.s c.args.act _ _ _ c.self.invariant (not_fixed _ (search rules) (search rules)) (search rules) (search rules) (search rules)
