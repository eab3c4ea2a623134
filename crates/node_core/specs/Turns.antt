-- the turns of a node
use Rattle.std.specs.Prelude.{ℕ, Option, None, Some, List, [], ◌∷◌, option_and_then}
use Rattle.std.specs.Option.{option_map}
use Rattle.unix_names.specs.declared.NodeId.{NodeId}
use Rattle.unix_calls.specs.declared.Job.{Job}
use Rattle.unix_calls.specs.declared.Job.TheVariants as job
use Rattle.unix_calls.specs.declared.World.{World}
use Rattle.proc_image.specs.declared.Image.{Image}
use Rattle.proc_image.specs.Images.{next_job}
use Rattle.courier_core.specs.declared.Courier.{Courier}
use Rattle.courier_core.specs.declared.Message.{Message}
use Rattle.courier_core.specs.declared.Message.TheVariants as message
use Rattle.node_state.specs.declared.Waiting.{Waiting}
use Rattle.node_state.specs.declared.Waiting.TheVariants as waiting
use Rattle.node_state.specs.declared.State.{State}
use Rattle.node_state.specs.Ready.{first_movable, without_movable}
use Rattle.node_state.specs.Places.{placed, poked}
use Rattle.node_state.specs.Returns.{laid, nudged_here}
use Rattle.node_core.specs.Advance.{Ask, Advanced, is_advanced, advanced, empty_bag}

-- a courier that sets out, and the node without it
pub record Departure : Type 0 where
  pub state : State
  pub courier : Courier

abbrev pub courier_with : Image → Job → Courier
courier_with image job = record { image = image; job = job; wants = []; bag = empty_bag }

-- a courier is made of an image with its next job
abbrev pub courier_of : World → Waiting → Courier
courier_of world (waiting.Image image) = courier_with image (next_job world image)
courier_of world (waiting.Courier c) = c

abbrev pub first_of : World → State → List Waiting → Option Departure
first_of world s [] = None
first_of world s (w ∷ ws) = Some (record { state = record s { ready = ws }; courier = courier_of world w })

-- the first of the ready queue sets out
abbrev pub going : World → State → Option Departure
going world s = first_of world s s.ready

abbrev pub moved_with : State → NodeId → Image → Departure
moved_with s to image = record { state = record s { ready = without_movable s.ready }; courier = courier_with image (job.Push to) }

-- the first image of the queue that is not stopped sets out to be moved to a node
abbrev pub pushed : State → NodeId → Option Departure
pushed s to = option_map (moved_with s to) (first_movable s.ready)

-- where who sets out comes by so many questions
abbrev pub led : World → Ask → ℕ → Option Departure → Option Advanced
led world ask n departure = option_and_then (λ d. advanced world ask n d.state d.courier) departure

-- the courier of a message, if one rides
abbrev pub arriving : State → Message → Option Departure
arriving s (message.Ride c) = Some (record { state = s; courier = c })
arriving s _ = None

-- what a message does
abbrev pub came : World → Ask → ℕ → State → Message → Option Advanced
came world ask n s (message.Ride c) = advanced world ask n s c
came world ask n s (message.Put m h) = Some (is_advanced (laid s m h) None)
came world ask n s (message.Back image) = Some (is_advanced (placed s image) None)
came world ask n s (message.Nudge p) = Some (is_advanced (nudged_here s p) None)
came world ask n s (message.Poke p) = Some (is_advanced (poked s p) None)
