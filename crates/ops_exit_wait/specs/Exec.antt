-- exec, decided on records (POSIX.1-2017, XSH exec)
use Rattle.std.specs.Prelude.{true, Some}
use Rattle.unix_names.specs.declared.Pid.{Pid}
use Rattle.unix_calls.specs.declared.Call.TheVariants.{Exec}
use Rattle.unix_calls.specs.declared.Reply.TheVariants.{Fine}
use Rattle.unix_calls.specs.declared.Entry.TheVariants.{Called}
use Rattle.unix_calls.specs.declared.Phase.TheVariants as phase
use Rattle.signal_state.specs.Signals.{Signals}
use Rattle.signal_state.specs.Sig.{after_exec}
use Rattle.vproc_record.specs.declared.Vproc.{Vproc}
use Rattle.decide_law.specs.Effects.{Effect, plain}

-- the process has done exec
abbrev pub execed_record : Vproc → Vproc
execed_record v = record v { execed = true }

-- the record tells so, and the caught signals have the default action
abbrev pub exec_effect : Signals → Pid → Effect
exec_effect sig p = plain (Some (Called p Exec Fine)) (after_exec sig) phase.Ready p execed_record
