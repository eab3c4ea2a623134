-- each event of this part is answered as the law has it
use Rattle.unix_calls.specs.declared.Event.{Event}
use Rattle.unix_calls.specs.declared.Event.TheVariants.{Caught, Discarded, StoppedBy, Continued}
use Rattle.ops_deliver.specs.Events.{IsEventStep}
use Rattle.ops_deliver.specs.Decide.{IsDelivered, effect_of, EventsAnswered}
use Rattle.ops_deliver.proofs.Answered.{event_answered}
use Rattle.ops_deliver.proofs.Taken.{caught_is_step, discarded_is_step}
use Rattle.ops_deliver.proofs.Stops.{stop_is_step, continue_is_step}

event_steps : (event : Event) → IsDelivered event → IsEventStep event (effect_of event)
event_steps (Caught s) own = caught_is_step s
event_steps (Discarded s) own = discarded_is_step s
event_steps (StoppedBy s) own = stop_is_step s
event_steps Continued own = continue_is_step
event_steps _ own = absurd own

pub events_answered : EventsAnswered
events_answered event own = event_answered event (effect_of event) (event_steps event own)
