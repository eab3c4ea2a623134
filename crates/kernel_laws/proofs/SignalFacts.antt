-- what each change of a signal state keeps
use Rattle.std.proofs.Common.{◌≡◌, ℕ, Bool, true, false, cond, refl}
use Rattle.unix_names.specs.declared.Signal.{Signal}
use Rattle.unix_names.specs.declared.Signal.TheVariants.{Kill, Stop}
use Rattle.unix_names.specs.declared.Act.{Act}
use Rattle.unix_names.specs.Sets.{has}
use Rattle.signal_state.specs.Signals.{Signals, IsKept}
use Rattle.signal_state.specs.Sig.{child, after_exec, with_action, with_mask, delivered, stopped_by, resumed}
use Rattle.signal_state.proofs.Kept.{kept_mask, kept_delivered, kept_stopped, kept-with_action, not_fixed}

pub kept_choice : (b : Bool) (x y : Signals) → IsKept x → IsKept y → IsKept (cond b x y)
kept_choice true x y kx ky = kx
kept_choice false x y kx ky = ky

-- no signal is in the empty set
pub none_in_empty : (s : Signal) → has 0 s ≡ false
none_in_empty Kill = refl
none_in_empty _ = refl

pub kept-child : (x : Signals) → IsKept x → IsKept (child x)
kept-child x k = record {
  not_ignored = λ s h. cc (none_in_empty s);
  one_action = k.one_action;
  mask_allowed = k.mask_allowed;
  ignored_allowed = k.ignored_allowed;
  caught_allowed = k.caught_allowed;
  due_stopped = λ e. cc;
}

pub kept-after_exec : (x : Signals) → IsKept x → IsKept (after_exec x)
kept-after_exec x k = record {
  not_ignored = k.not_ignored;
  one_action = λ s h. none_in_empty s;
  mask_allowed = k.mask_allowed;
  ignored_allowed = k.ignored_allowed;
  caught_allowed = (refl, refl);
  due_stopped = k.due_stopped;
}

pub kept-with_mask : (x : Signals) (m : ℕ) → IsKept x → IsKept (with_mask x m)
kept-with_mask x m k = kept_mask x m _ k refl

pub kept-delivered : (x : Signals) (s : Signal) → IsKept x → IsKept (delivered x s)
kept-delivered x s k = kept_delivered x s _ k refl

pub kept-stopped_by : (x : Signals) (s : Signal) → IsKept x → IsKept (stopped_by x s)
kept-stopped_by x s k = kept_stopped x s _ k refl

pub kept-resumed : (x : Signals) → IsKept x → IsKept (resumed x)
kept-resumed x k = record {
  not_ignored = k.not_ignored;
  one_action = k.one_action;
  mask_allowed = k.mask_allowed;
  ignored_allowed = k.ignored_allowed;
  caught_allowed = k.caught_allowed;
  due_stopped = λ e. cc;
}

pub kept-action : (x : Signals) (s : Signal) (act : Act) → (s ≡ Kill → ⊥) → (s ≡ Stop → ⊥) → IsKept x → IsKept (with_action x s act)
kept-action x s act nk ns k = let n = not_fixed s nk ns in kept-with_action x s act n.0 n.1 k
