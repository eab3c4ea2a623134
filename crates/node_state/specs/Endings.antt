-- what a decision leaves at the node where it was made
use Rattle.std.specs.Prelude.{ℕ, ◌+◌, ◌==◌, Option, None, Some, if◌then◌else◌}
use Rattle.std.specs.Option.{option_map}
use Rattle.unix_names.specs.declared.Pid.{Pid}
use Rattle.unix_names.specs.declared.NodeId.{NodeId}
use Rattle.unix_names.specs.declared.Name.TheVariants as name
use Rattle.unix_calls.specs.declared.Phase.{Phase}
use Rattle.unix_calls.specs.declared.Phase.TheVariants as phases
use Rattle.unix_calls.specs.declared.World.{World}
use Rattle.vproc_record.specs.declared.Vproc.{Vproc}
use Rattle.proc_image.specs.declared.Image.{Image}
use Rattle.record_bag.specs.declared.Held.TheVariants as held
use Rattle.record_bag.specs.declared.Bag.{Bag}
use Rattle.record_bag.specs.declared.Decided.{Decided}
use Rattle.record_bag.specs.Bags.{vproc_in, all_held}
use Rattle.record_table.specs.declared.Slot.TheVariants.{Home}
use Rattle.record_table.specs.Slots.{with_slot}
use Rattle.courier_core.specs.declared.Message.TheVariants as message
use Rattle.node_state.specs.declared.state.State.{State}
use Rattle.node_state.specs.Wires.{posted}
use Rattle.node_state.specs.Places.{placed}
use Rattle.node_state.specs.Returns.{all_given_back, all_nudged}
use Rattle.node_state.specs.Phases.{image_after, child_of}

-- a fork's serial is used, and the child's record comes to its home
abbrev pub with_born : State → Option Vproc → State
with_born s None = s
with_born s (Some v) = record s { slots = with_slot s.slots (name.V v.pid) (Home (held.V (Some v))); serial = s.serial + 1 }

-- the place of a process, if its record is held
abbrev pub place_in : Bag → Pid → Option NodeId
place_in bag p = option_map (λ v. v.loc) (vproc_in bag p)

abbrev pub settled_at : State → ℕ → Image → State
settled_at s k image = if k == s.id then placed s image else posted s k (message.Back image)

abbrev pub settled_in : State → Option NodeId → Image → Phase → State
settled_in s place image phases.Gone = s
settled_in s None image _ = s
settled_in s (Some k) image _ = settled_at s k.0 image

-- the image goes to the place that its record names; that of a process that has ended is dropped
abbrev pub settled : State → Option NodeId → Image → State
settled s place image = settled_in s place image image.phase

abbrev pub child_placed : State → Option Image → State
child_placed s None = s
child_placed s (Some image) = placed s image

-- the child is born, the records are returned in order of name, the caller's image goes to its place, the child's is placed here, and the news goes out in order
abbrev pub finished : World → State → Image → Bag → Decided → State
finished world s image bag done =
    all_nudged
    (child_placed
    (settled (all_given_back (with_born s done.born) (all_held bag)) (place_in bag image.pid) (image_after world image done.own done.phase done.entry))
    (child_of world image done.born))
    done.nudges
