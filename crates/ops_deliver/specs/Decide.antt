-- the events of this part: each with its effect, and what is owed for them
use Rattle.std.specs.Prelude.{None}
use Rattle.unix_calls.specs.declared.Event.{Event}
use Rattle.unix_calls.specs.declared.Event.TheVariants.{Caught, Discarded, StoppedBy, Continued}
use Rattle.unix_calls.specs.declared.Phase.TheVariants as phase
use Rattle.decide_law.specs.Effects.{quiet}
use Rattle.ops_deliver.specs.Events.{EventEffect, IsEventAnswered}
use Rattle.ops_deliver.specs.Taken.{take_effect}
use Rattle.ops_deliver.specs.Turn.{stop_effect, continue_effect}

-- a signal is caught or discarded, or stops the process, or the process continues
abbrev pub IsDelivered : Event → Type 0
IsDelivered (Caught s) = Unit {0}
IsDelivered (Discarded s) = Unit {0}
IsDelivered (StoppedBy s) = Unit {0}
IsDelivered Continued = Unit {0}
IsDelivered _ = ⊥

-- what an event does; one of another part does nothing here
abbrev pub effect_of : Event → EventEffect
effect_of (Caught s) = take_effect (Caught s) s
effect_of (Discarded s) = take_effect (Discarded s) s
effect_of (StoppedBy s) = stop_effect s
effect_of Continued = continue_effect
effect_of event = λ bag sig p v. quiet None sig phase.Ready

-- each of these events is answered as the law has it
abbrev pub EventsAnswered : Type 0
EventsAnswered = (event : Event) → IsDelivered event → IsEventAnswered event (effect_of event)
