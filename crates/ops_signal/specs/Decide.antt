-- the calls of this part, and what each does
use Rattle.std.specs.Prelude.{None}
use Rattle.unix_calls.specs.declared.Call.{Call}
use Rattle.unix_calls.specs.declared.Call.TheVariants.{Kill, Action, Mask, Pending}
use Rattle.unix_calls.specs.declared.Phase.TheVariants as phase
use Rattle.decide_law.specs.Effects.{quiet}
use Rattle.decide_law.specs.Parts.{CallEffect, IsCallAnswered}
use Rattle.ops_signal.specs.Kill.{kill_effect}
use Rattle.ops_signal.specs.Actions.{action_effect, mask_effect, pending_effect}

-- the calls of this part
abbrev pub IsSignalCall : Call → Type 0
IsSignalCall (Kill target s) = Unit {0}
IsSignalCall (Action s act) = Unit {0}
IsSignalCall (Mask set) = Unit {0}
IsSignalCall Pending = Unit {0}
IsSignalCall _ = ⊥

-- what a call does; one of another part does nothing here
abbrev pub effect_of : Call → CallEffect
effect_of (Kill target s) bag sig p v = kill_effect bag sig p v target s
effect_of (Action s act) bag sig p v = action_effect sig p s act
effect_of (Mask set) bag sig p v = mask_effect sig p set
effect_of Pending bag sig p v = pending_effect sig p
effect_of _ bag sig p v = quiet None sig phase.Ready

-- each call of this part is answered by a step of the one kernel, or by asking for what lacks
abbrev pub SignalCallsAnswered : Type 0
SignalCallsAnswered = (call : Call) → IsSignalCall call → IsCallAnswered call (effect_of call)
