-- a signal that is caught, or discarded, decided on records (POSIX.1-2017, XSH 2.4.1 and 2.4.3)
use Rattle.std.specs.Prelude.{Some}
use Rattle.unix_names.specs.declared.Signal.{Signal}
use Rattle.unix_calls.specs.declared.Event.{Event}
use Rattle.unix_calls.specs.declared.Entry.TheVariants.{Happened}
use Rattle.unix_calls.specs.declared.Phase.TheVariants as phase
use Rattle.signal_state.specs.Sig.{delivered}
use Rattle.decide_law.specs.Effects.{quiet}
use Rattle.ops_deliver.specs.Events.{EventEffect}

-- the event takes the signal out of what is pending, and does no more
abbrev pub take_effect : Event → Signal → EventEffect
take_effect event s bag sig p v = quiet (Some (Happened p event)) (delivered sig s) phase.Ready
