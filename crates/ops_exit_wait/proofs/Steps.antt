-- each call of this part is answered as the law has it
use Rattle.unix_calls.specs.declared.Call.{Call}
use Rattle.unix_calls.specs.declared.Call.TheVariants.{Exec, Exit, Waitpid}
use Rattle.decide_law.specs.Parts.{IsCallStep}
use Rattle.decide_law.proofs.PartRight.{call_answered}
use Rattle.ops_exit_wait.specs.Decide.{IsExitWaitCall, effect_of, ExitWaitCallsAnswered}
use Rattle.ops_ending.proofs.Steps.{exit_is_step}
use Rattle.ops_exit_wait.proofs.Exec.{exec_is_step}
use Rattle.ops_exit_wait.proofs.Whole.{wait_is_step}

pub exit_wait_steps : (call : Call) → IsExitWaitCall call → IsCallStep call (effect_of call)
exit_wait_steps Exec own = exec_is_step
exit_wait_steps (Exit n) own = exit_is_step n
exit_wait_steps (Waitpid sel stopped continued) own = wait_is_step sel stopped continued
exit_wait_steps _ own = absurd own

pub exit_wait_calls_answered : ExitWaitCallsAnswered
exit_wait_calls_answered call own = call_answered call (effect_of call) (exit_wait_steps call own)
