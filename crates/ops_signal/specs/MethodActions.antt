-- method: how the code sets an action
use Rattle.std.specs.Prelude.{ℕ, Bool, Option, None, Some}
use Rattle.unix_names.specs.declared.Act.{Act}
use Rattle.unix_names.specs.declared.Signal.{Signal}
use Rattle.unix_names.specs.Signals.{signal_of}
use Rattle.signal_state.specs.declared.Own.{Own}
use Rattle.signal_state.specs.Sig.{with_action}
use Rattle.vproc_record.specs.declared.Vproc.{Vproc}

-- the record tells this of the ends of its process's children
abbrev pub telling : Bool → Vproc → Vproc
telling ignores v = record v { ignchld = ignores }

-- what the process carries once the action of this signal is set
abbrev pub acted_on : Option Signal → Act → Own → Own
acted_on None act own = own
acted_on (Some signal) act own = record own { sig = with_action own.sig signal act }

abbrev pub acted : ℕ → Act → Own → Own
acted s act own = acted_on (signal_of s) act own
