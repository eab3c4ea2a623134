use Rattle.std.proofs.Common.{rules}
use Rattle.signal_state.specs.Sig.{generated}
use Rattle.signal_state.proofs.Kept.{kept_as}
use Rattle.signal_state.specs.contracts.sig.Sig.{the_view}
use Rattle.signal_state.proofs.sig.Sig.generate.Goals as goal

pub invariant_of-self : goal.invariant_of-self
unfolding generated
invariant_of-self c = kept_as (the_view c.self.inside) c.args.s _ _ c.self.invariant (search rules) (search rules)
