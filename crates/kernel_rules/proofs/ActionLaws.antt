-- a signal whose action may be set is none of the two whose action is fixed
use Rattle.std.proofs.Common.{◌≡◌, ◌⊎◌, inl, inr, None, Some, subst}
use Rattle.unix_names.specs.declared.Errno.TheVariants.{EINVAL}
use Rattle.unix_names.specs.declared.Signal.{Signal}
use Rattle.signal_state.specs.Sig.{IsFixed}
use Rattle.kernel_rules.specs.Action.{action_refusal}

pub not_fixed : (s : Signal) → action_refusal (Some s) ≡ None → ¬ IsFixed s
not_fixed s free (inl kill) = let refused : Some EINVAL ≡ None = subst (λ t. action_refusal (Some t) ≡ None) kill free in cc
not_fixed s free (inr stop) = let refused : Some EINVAL ≡ None = subst (λ t. action_refusal (Some t) ≡ None) stop free in cc
