-- a node before the first turn
use Rattle.std.proofs.Common.{◌==◌, ℕ, Bool, true, false, List, [], ◌∷◌, map, Some, if◌then◌else◌}
use Rattle.std.specs.Prelude.{All, filter, drop}
use Rattle.std.proofs.lemmas.List.Elements.{All-nil, All-cons}
use Rattle.unix_names.specs.declared.Name.TheVariants as name
use Rattle.unix_calls.specs.declared.Start.{Start}
use Rattle.unix_calls.specs.declared.World.{World}
use Rattle.proc_image.specs.Images.{start_image}
use Rattle.record_bag.specs.declared.Held.TheVariants as held
use Rattle.record_table.specs.declared.Slot.TheVariants.{Home}
use Rattle.record_table.specs.declared.Slots.{Slots}
use Rattle.record_table.specs.Slots.{with_slot}
use Rattle.courier_core.specs.declared.Courier.{Courier}
use Rattle.node_state.specs.declared.Waiting.TheVariants as waiting
use Rattle.node_core.specs.declared.led.Led.{Led}
use Rattle.node_core.specs.First.{led_starts, first_vproc, first_group, with_first_group, with_first, first_slots, is_at}
use Rattle.node_laws.specs.Couriers.{WaitsFor, IsSoundThere, SendsSound}
use Rattle.node_laws.specs.Laws.{NodesBeginSound}
use Rattle.node_laws.proofs.Moves.{KeepsLines, lines-home}

no-lines : KeepsLines (record { vprocs = []; groups = [] })
no-lines (name.V p) = All-nil (WaitsFor (name.V p))
no-lines (name.G g) = All-nil (WaitsFor (name.G g))

either-lines : (b : Bool) (x y : Slots Courier) → KeepsLines x → KeepsLines y → KeepsLines (if b then x else y)
either-lines true x y f g = f
either-lines false x y f g = g

group-lines : (all : List Led) (led : Led) (slots : Slots Courier) → KeepsLines slots → KeepsLines (with_first_group all led slots)
group-lines all led slots kept =
    let group = held.G (Some (first_group all led.leader)) in
    either-lines (led.leader.0 == led.start.pid.0) (with_slot slots (name.G led.leader) (Home group)) slots (lines-home slots (name.G led.leader) group kept) kept

first-lines : (k : ℕ) (all : List Led) (slots : Slots Courier) (led : Led) → KeepsLines slots → KeepsLines (with_first k all slots led)
first-lines k all slots led kept =
    let own = held.V (Some (first_vproc led)) in
    let next = with_slot slots (name.V led.start.pid) (Home own) in
    either-lines (is_at k led.start) (with_first_group all led next) slots (group-lines all led next (lines-home slots (name.V led.start.pid) own kept)) kept

all-lines : (k : ℕ) (all : List Led) (slots : Slots Courier) (leds : List Led) → KeepsLines slots → KeepsLines (first_slots k all slots leds)
all-lines k all slots [] kept = kept
all-lines k all slots (led ∷ leds) kept = all-lines k all (with_first k all slots led) leds (first-lines k all slots led kept)

images-sound : (world : World) (starts : List Start) → All IsSoundThere (map (λ start. waiting.Image (start_image world start)) starts)
images-sound world [] = All-nil IsSoundThere
images-sound world (start ∷ starts) = All-cons IsSoundThere (waiting.Image (start_image world start)) (map (λ s. waiting.Image (start_image world s)) starts) tt (images-sound world starts)

pub nodes_begin_sound : NodesBeginSound
nodes_begin_sound world k = record {
  ready = images-sound world (filter (is_at k) (drop 0 world.starts));
  lines = all-lines k (led_starts world) (record { vprocs = []; groups = [] }) (led_starts world) no-lines;
  out = All-nil SendsSound;
}
