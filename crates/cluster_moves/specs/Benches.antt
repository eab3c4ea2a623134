-- the containers and slots of a cluster, one of whose nodes has its turn
use Rattle.std.specs.Prelude.{ℕ, ◌==◌, List, [], ◌∷◌, ◌++◌, map, if◌then◌else◌}
use Rattle.unix_names.specs.declared.Name.{Name}
use Rattle.unix_names.specs.Names.{home}
use Rattle.ordered_table.specs.declared.Entry.{Entry}
use Rattle.proc_image.specs.declared.image.Image.{Image}
use Rattle.record_bag.specs.declared.Held.{Held}
use Rattle.record_table.specs.declared.slot.Slot.{Slot}
use Rattle.record_table.specs.declared.slot.Line.{Line}
use Rattle.record_table.specs.Places.{line_of}
use Rattle.record_table.specs.Slots.{slot_at}
use Rattle.courier_core.specs.declared.courier.Courier.{Courier}
use Rattle.courier_core.specs.declared.courier.Message.{Message}
use Rattle.courier_core.specs.declared.courier.Message.TheVariants as message
use Rattle.node_state.specs.declared.State.{State}
use Rattle.node_state.specs.declared.Sent.{Sent}
use Rattle.node_state.specs.declared.Waiting.{Waiting}
use Rattle.node_state.specs.declared.Waiting.TheVariants as waiting
use Rattle.cluster_state.specs.Cluster.{Cluster}
use Rattle.cluster_contents.specs.Placement.{Where, Ready, Parked, InLine, Wire, Item, CourierItem, ImageItem, ParkedItem, RecordItem}

abbrev pub of_waiting : Waiting → Item
of_waiting (waiting.Image i) = ImageItem i
of_waiting (waiting.Courier c) = CourierItem c

abbrev pub of_parked : Entry Image → Item
of_parked e = ParkedItem e.pid e.value

-- the message in front of what stands there, if it carries something
abbrev pub with_message : Message → List Item → List Item
with_message (message.Ride c) items = CourierItem c ∷ items
with_message (message.Put n h) items = RecordItem n h ∷ items
with_message (message.Back image) items = ImageItem image ∷ items
with_message (message.Nudge p) items = items
with_message (message.Poke p) items = items

abbrev pub on_wire : List Sent → List Item
on_wire [] = []
on_wire (m ∷ ms) = with_message m.message (on_wire ms)

-- what of the outbox goes to node l
abbrev pub out_to : ℕ → List Sent → List Item
out_to l [] = []
out_to l (m ∷ ms) = if m.to == l then with_message m.message (out_to l ms) else out_to l ms

-- what stands in a node's containers
abbrev pub stored : State → Where → List Item
stored s (Ready j) = map of_waiting s.ready
stored s (Parked j) = map of_parked s.parked
stored s (InLine n) = map CourierItem (line_of (slot_at s.slots n)).waiters
stored s (Wire j l) = out_to l s.out

-- the node that keeps a container
abbrev pub owner : ℕ → Where → ℕ
owner nodes (Ready j) = j
owner nodes (Parked j) = j
owner nodes (InLine n) = home n nodes
owner nodes (Wire j l) = j

abbrev pub flying : (ℕ → ℕ → List Sent) → Where → List Item
flying wires (Wire j l) = on_wire (wires j l)
flying wires _ = []

-- the containers of the cluster while node k has this state
abbrev pub items_at : ℕ → Cluster → ℕ → State → Where → List Item
items_at nodes C k s X = flying C.wires X ++ stored (if owner nodes X == k then s else C.nodes (owner nodes X)) X

abbrev pub slots_at : ℕ → Cluster → ℕ → State → Name → Slot Held (Line Courier)
slots_at nodes C k s n = slot_at (if home n nodes == k then s else C.nodes (home n nodes)).slots n

-- ---- between two turns
abbrev pub items : ℕ → Cluster → Where → List Item
items nodes C X = flying C.wires X ++ stored (C.nodes (owner nodes X)) X

abbrev pub slots : ℕ → Cluster → Name → Slot Held (Line Courier)
slots nodes C n = slot_at (C.nodes (home n nodes)).slots n
