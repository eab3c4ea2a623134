-- actions, masks and pending signals, decided on records (POSIX.1-2017, XSH sigaction, sigprocmask and sigpending)
use Rattle.std.specs.Prelude.{ℕ, Option, None, Some}
use Rattle.unix_names.specs.declared.Pid.{Pid}
use Rattle.unix_names.specs.declared.Act.{Act}
use Rattle.unix_names.specs.declared.Signal.{Signal}
use Rattle.unix_names.specs.declared.Signal.TheVariants.{Chld}
use Rattle.unix_names.specs.Sets.{has}
use Rattle.unix_names.specs.Signals.{signal_of}
use Rattle.unix_calls.specs.declared.Call.TheVariants.{Action, Mask, Pending}
use Rattle.unix_calls.specs.declared.Reply.TheVariants.{Fine, Set}
use Rattle.unix_calls.specs.declared.Entry.TheVariants.{Called}
use Rattle.unix_calls.specs.declared.Phase.TheVariants as phase
use Rattle.signal_state.specs.Signals.{Signals}
use Rattle.signal_state.specs.Sig.{with_action, with_mask}
use Rattle.vproc_record.specs.declared.Vproc.{Vproc}
use Rattle.kernel_rules.specs.Action.{action_refusal}
use Rattle.decide_law.specs.Effects.{Effect, quiet, plain, replied, unless_refused}

-- the record of a process of these signals, which tells whether its children's ends are ignored
abbrev pub ignoring : Signals → Vproc → Vproc
ignoring x v = record v { ignchld = has x.ignored Chld }

-- the action of a signal is set
abbrev pub set_action : Signals → Pid → ℕ → Act → Option Signal → Effect
set_action sig p s act None = replied p (Action s act) Fine sig
set_action sig p s act (Some signal) = plain (Some (Called p (Action s act) Fine)) (with_action sig signal act) phase.Ready p (ignoring (with_action sig signal act))

-- what action does, for a caller of these signals
abbrev pub action_effect : Signals → Pid → ℕ → Act → Effect
action_effect sig p s act = unless_refused (action_refusal (signal_of s)) p (Action s act) sig (set_action sig p s act (signal_of s))

-- mask answers the mask before
abbrev pub mask_effect : Signals → Pid → ℕ → Effect
mask_effect sig p set = quiet (Some (Called p (Mask set) (Set sig.mask))) (with_mask sig set) phase.Ready

abbrev pub pending_effect : Signals → Pid → Effect
pending_effect sig p = replied p Pending (Set sig.pending) sig
