-- the calls of this part, and what each does
use Rattle.std.specs.Prelude.{None}
use Rattle.unix_calls.specs.declared.Call.{Call}
use Rattle.unix_calls.specs.declared.Call.TheVariants.{Exec, Exit, Waitpid}
use Rattle.unix_calls.specs.declared.Phase.TheVariants as phase
use Rattle.decide_law.specs.Effects.{quiet}
use Rattle.decide_law.specs.Parts.{CallEffect, IsCallAnswered}
use Rattle.ops_ending.specs.Ending.{exit_effect}
use Rattle.ops_exit_wait.specs.Exec.{exec_effect}
use Rattle.ops_exit_wait.specs.Waitpid.{wait_effect}

-- the calls of this part
abbrev pub IsExitWaitCall : Call → Type 0
IsExitWaitCall Exec = Unit {0}
IsExitWaitCall (Exit n) = Unit {0}
IsExitWaitCall (Waitpid sel stopped continued) = Unit {0}
IsExitWaitCall _ = ⊥

-- what a call does; one of another part does nothing here
abbrev pub effect_of : Call → CallEffect
effect_of Exec bag sig p v = exec_effect sig p
effect_of (Exit n) bag sig p v = exit_effect bag sig p v n
effect_of (Waitpid sel stopped continued) bag sig p v = wait_effect bag sig p v sel stopped continued
effect_of _ bag sig p v = quiet None sig phase.Ready

-- each call of this part is answered by a step of the one kernel, or by asking for what lacks
abbrev pub ExitWaitCallsAnswered : Type 0
ExitWaitCallsAnswered = (call : Call) → IsExitWaitCall call → IsCallAnswered call (effect_of call)
