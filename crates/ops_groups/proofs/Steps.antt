-- each call of this part is answered as the law has it
use Rattle.unix_calls.specs.declared.Call.{Call}
use Rattle.unix_calls.specs.declared.Call.TheVariants.{Getpid, Getppid, Getpgid, Getsid, Setpgid, Setsid}
use Rattle.decide_law.specs.Parts.{IsCallStep}
use Rattle.decide_law.proofs.PartRight.{call_answered}
use Rattle.ops_groups.specs.Decide.{IsGroupsCall, effect_of, GroupsCallsAnswered}
use Rattle.ops_groups.proofs.LookSteps.{getpid_is_step, getppid_is_step, getpgid_is_step, getsid_is_step}
use Rattle.ops_groups.proofs.Whole.{setpgid_is_step}
use Rattle.ops_groups.proofs.Setsid.{setsid_is_step}

pub groups_steps : (call : Call) → IsGroupsCall call → IsCallStep call (effect_of call)
groups_steps Getpid own = getpid_is_step
groups_steps Getppid own = getppid_is_step
groups_steps (Getpgid t) own = getpgid_is_step t
groups_steps (Getsid t) own = getsid_is_step t
groups_steps (Setpgid t q) own = setpgid_is_step t q
groups_steps Setsid own = setsid_is_step
groups_steps _ own = absurd own

pub groups_calls_answered : GroupsCallsAnswered
groups_calls_answered call own = call_answered call (effect_of call) (groups_steps call own)
