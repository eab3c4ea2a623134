-- what couriers keep, wherever they are
use Rattle.std.specs.Prelude.{◌≡◌, false, All, List, [], ◌∷◌}
use Rattle.unix_names.specs.declared.Name.{Name}
use Rattle.record_bag.specs.declared.Held.{Held}
use Rattle.record_bag.specs.Bags.{with_held}
use Rattle.record_table.specs.declared.Slots.{Slots}
use Rattle.record_table.specs.Places.{line_of}
use Rattle.record_table.specs.Slots.{slot_at}
use Rattle.courier_core.specs.declared.Courier.{Courier}
use Rattle.courier_core.specs.declared.Message.{Message}
use Rattle.courier_core.specs.declared.Message.TheVariants as message
use Rattle.courier_core.specs.Wants.{lists}
use Rattle.courier_core.specs.Couriers.{HoldsWhatIsBelow}
use Rattle.node_state.specs.declared.Waiting.{Waiting}
use Rattle.node_state.specs.declared.Waiting.TheVariants as waiting
use Rattle.node_state.specs.declared.Sent.{Sent}
use Rattle.node_state.specs.declared.State.{State}

-- no name stands twice in the list
abbrev pub AreOnce : List Name → Type 0
AreOnce [] = Unit {0}
AreOnce (n ∷ ns) = (lists ns n ≡ false) × AreOnce ns

-- each wanted name that is below a held one is held, and no name is wanted twice
pub record IsSound (c : Courier) : Type 0 where
  pub below : HoldsWhatIsBelow c
  pub once : AreOnce c.wants

-- the courier with one record more
abbrev pub given : Courier → Name → Held → Courier
given c n h = record c { bag = with_held c.bag n h }

-- who stands in line for a name is sound, and stays so once it has the record
pub record WaitsFor (n : Name) (c : Courier) : Type 0 where
  pub sound : IsSound c
  pub served : (h : Held) → IsSound (given c n h)

-- who stands in the ready queue: a courier is sound
abbrev pub IsSoundThere : Waiting → Type 0
IsSoundThere (waiting.Image image) = Unit {0}
IsSoundThere (waiting.Courier c) = IsSound c

-- what travels: a courier that rides is sound
abbrev pub CarriesSound : Message → Type 0
CarriesSound (message.Ride c) = IsSound c
CarriesSound _ = Unit {0}

abbrev pub SendsSound : Sent → Type 0
SendsSound sent = CarriesSound sent.message

-- the couriers of a ready queue, of the lines of slots and of what is sent are sound
pub record AreSound (queue : List Waiting) (slots : Slots Courier) (sends : List Sent) : Type 0 where
  pub ready : All IsSoundThere queue
  pub lines : (n : Name) → All (WaitsFor n) (line_of (slot_at slots n)).waiters
  pub out : All SendsSound sends

-- each courier of a node is sound
abbrev pub KeepsCouriers : State → Type 0
KeepsCouriers s = AreSound s.ready s.slots s.out
