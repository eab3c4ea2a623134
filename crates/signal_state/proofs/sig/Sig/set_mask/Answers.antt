use Rattle.std.proofs.Common.{rules}
use Rattle.signal_state.proofs.Kept.{kept_mask}
use Rattle.signal_state.specs.contracts.sig.Sig.{the_view}
use Rattle.signal_state.proofs.sig.Sig.set_mask.Goals as goal

pub invariant_of-self : goal.invariant_of-self
invariant_of-self c = kept_mask (the_view c.self.inside) c.args.mask _ c.self.invariant (search rules)
