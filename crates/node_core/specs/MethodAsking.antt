-- what is left to do for a courier that keeps its place while it asks
use Rattle.std.specs.Prelude.{◌≡◌, true, None}
use Rattle.unix_names.specs.declared.Name.{Name}
use Rattle.record_table.specs.declared.Slot.TheVariants.{Out}
use Rattle.record_table.specs.Places.{joined, line_of}
use Rattle.record_table.specs.Slots.{slot_at, with_slot, is_out}
use Rattle.courier_core.specs.declared.Courier.{Courier}
use Rattle.courier_core.specs.declared.Message.TheVariants as message
use Rattle.node_state.specs.declared.State.{State}
use Rattle.node_state.specs.Wires.{posted}
use Rattle.node_core.specs.declared.step.Step.TheVariants.{Again, Over}
use Rattle.node_core.specs.declared.step.Next.{Next}
use Rattle.node_core.specs.declared.step.Next.TheVariants as next
use Rattle.node_core.specs.Advance.{Stepped, is_stepped}

-- the courier stands last in the line for a record
abbrev pub waiting_for : State → Courier → Name → State
waiting_for s c x = record s { slots = with_slot s.slots x (Out (joined (line_of (slot_at s.slots x)) c)) }

-- the step that is left to do
abbrev pub left_to_do : State → Courier → Next → Stepped
left_to_do s c next.Again = is_stepped s (Again c)
left_to_do s c (next.Ride k) = is_stepped (posted s k (message.Ride c)) (Over None)
left_to_do s c (next.Wait x) = is_stepped (waiting_for s c x) (Over None)
left_to_do s c next.Over = is_stepped s (Over None)

-- who is to wait finds the record out
abbrev pub CanWaitNext : State → Next → Type 0
CanWaitNext s (next.Wait x) = is_out s.slots x ≡ true
CanWaitNext s _ = Unit {0}
