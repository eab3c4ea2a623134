-- each call of this part is answered as the law has it
use Rattle.unix_calls.specs.declared.Call.{Call}
use Rattle.unix_calls.specs.declared.Call.TheVariants.{Kill, Action, Mask, Pending}
use Rattle.decide_law.specs.Parts.{IsCallStep, IsCallAnswered}
use Rattle.decide_law.proofs.PartRight.{call_answered}
use Rattle.ops_signal.specs.Decide.{IsSignalCall, effect_of, SignalCallsAnswered}
use Rattle.ops_signal.proofs.Whole.{kill_is_step}
use Rattle.ops_signal.proofs.Actions.{action_is_step, mask_is_step, pending_is_step}

pub signal_steps : (call : Call) → IsSignalCall call → IsCallStep call (effect_of call)
signal_steps (Kill target s) own = kill_is_step target s
signal_steps (Action s act) own = action_is_step s act
signal_steps (Mask set) own = mask_is_step set
signal_steps Pending own = pending_is_step
signal_steps _ own = absurd own

pub signal_calls_answered : SignalCallsAnswered
signal_calls_answered call own = call_answered call (effect_of call) (signal_steps call own)
