-- the turns of a node
use Rattle.std.proofs.Common.{◌≡◌, ℕ, Bool, true, false, List, [], ◌∷◌, Option, None, Some, if◌then◌else◌, sym, subst}
use Rattle.std.specs.Prelude.{All}
use Rattle.std.specs.Option.{option_map}
use Rattle.std.proofs.lemmas.List.Elements.{All-nil, All-cons, All-head, All-tail}
use Rattle.unix_names.specs.declared.NodeId.{NodeId}
use Rattle.unix_calls.specs.declared.Entry.{Entry}
use Rattle.unix_calls.specs.declared.Job.TheVariants as job
use Rattle.unix_calls.specs.declared.World.{World}
use Rattle.proc_image.specs.declared.Image.{Image}
use Rattle.proc_image.specs.Images.{next_job}
use Rattle.courier_core.specs.declared.Message.{Message}
use Rattle.courier_core.specs.declared.Message.TheVariants as message
use Rattle.node_state.specs.declared.Sent.{Sent}
use Rattle.node_state.specs.declared.State.{State}
use Rattle.node_state.specs.declared.Waiting.{Waiting}
use Rattle.node_state.specs.declared.Waiting.TheVariants as waiting
use Rattle.node_state.specs.Ready.{is_stopped_phase, first_movable, without_movable}
use Rattle.node_state.specs.Wires.{one_taken}
use Rattle.node_state.specs.Places.{placed, poked}
use Rattle.node_state.specs.Returns.{laid, nudged_here}
use Rattle.node_core.specs.Advance.{Ask, Advanced, is_advanced}
use Rattle.node_core.specs.Turns.{Departure, courier_of, first_of, moved_with, led, arriving, came}
use Rattle.node_laws.specs.Couriers.{IsSound, IsSoundThere, CarriesSound, SendsSound, KeepsCouriers}
use Rattle.node_laws.specs.Laws.{AnswersLawfully, SetsOutSound, LeavesSound, GoersAreSound, MoversAreSound, ArrivalsAreSound, TurnsKeep, MessagesKeep}
use Rattle.node_laws.proofs.Sound.{fresh-sound}
use Rattle.node_laws.proofs.Moves.{laid-keeps, placed-keeps, poked-keeps, nudged_here-keeps}
use Rattle.node_laws.proofs.Advances.{advanced-keeps}

-- ---- who sets out
courier-sound : (world : World) (w : Waiting) → IsSoundThere w → IsSound (courier_of world w)
courier-sound world (waiting.Image image) sound = fresh-sound image (next_job world image)
courier-sound world (waiting.Courier c) sound = sound

first-sound : (world : World) (s : State) (ws : List Waiting) → All IsSoundThere ws → KeepsCouriers s → SetsOutSound (first_of world s ws)
first-sound world s [] all k = tt
first-sound world s (w ∷ ws) all k = (
  record { ready = All-tail IsSoundThere w ws all; lines = k.lines; out = k.out },
  courier-sound world w (All-head IsSoundThere w ws all),
)

pub goers_are_sound : GoersAreSound
goers_are_sound world s k = first-sound world s s.ready k.ready k

without-sound : (ws : List Waiting) → All IsSoundThere ws → All IsSoundThere (without_movable ws)
without-sound [] all = all
without-sound (waiting.Courier c ∷ ws) all = All-cons IsSoundThere (waiting.Courier c) (without_movable ws) (All-head IsSoundThere (waiting.Courier c) ws all) (without-sound ws (All-tail IsSoundThere (waiting.Courier c) ws all))
without-sound (waiting.Image image ∷ ws) all = go (is_stopped_phase image.phase) (without-sound ws (All-tail IsSoundThere (waiting.Image image) ws all))
  where
    go : (b : Bool) → All IsSoundThere (without_movable ws) → All IsSoundThere (if b then waiting.Image image ∷ without_movable ws else ws)
    go true rest = All-cons IsSoundThere (waiting.Image image) (without_movable ws) tt rest
    go false rest = All-tail IsSoundThere (waiting.Image image) ws all

mover-sound : (s : State) (to : NodeId) (o : Option Image) → KeepsCouriers s → SetsOutSound (option_map (moved_with s to) o)
mover-sound s to None k = tt
mover-sound s to (Some image) k = (
  record { ready = without-sound s.ready k.ready; lines = k.lines; out = k.out },
  fresh-sound image (job.Push to),
)

pub movers_are_sound : MoversAreSound
movers_are_sound s to k = mover-sound s to (first_movable s.ready) k

pub arrivals_are_sound : ArrivalsAreSound
arrivals_are_sound s from (message.Ride c) sound k = (k, sound)
arrivals_are_sound s from (message.Put n h) sound k = tt
arrivals_are_sound s from (message.Back image) sound k = tt
arrivals_are_sound s from (message.Nudge p) sound k = tt
arrivals_are_sound s from (message.Poke p) sound k = tt

-- ---- what a turn leaves
led-keeps : (world : World) (ask : Ask) (n : ℕ) (o : Option Departure) (r : Advanced) → AnswersLawfully world ask n o → SetsOutSound o → led world ask n o ≡ Some r → KeepsCouriers r.state
led-keeps world ask n None r laws sound e = absurd (cc e)
led-keeps world ask n (Some d) r laws sound e = advanced-keeps world ask n r d.state d.courier laws sound.0 sound.1 e

leaves : (new : State) (sends : List Sent) → new.out ≡ [] → KeepsCouriers (record new { out = sends }) → LeavesSound new sends
leaves new sends none k = (record { ready = k.ready; lines = k.lines; out = subst (λ out. All SendsSound out) (sym none) (All-nil SendsSound) }, k.out)

pub turns_keep : TurnsKeep
turns_keep world ask n o new entry sends laws sound turned = leaves new sends turned.1 (led-keeps world ask n o (is_advanced (record new { out = sends }) entry) laws sound turned.0)

over-keeps : (s : State) (e : Option Entry) (r : Advanced) → KeepsCouriers s → Some (is_advanced s e) ≡ Some r → KeepsCouriers r.state
over-keeps s e r k is = let same : s ≡ r.state = cc in subst KeepsCouriers same k

came-keeps : (world : World) (ask : Ask) (n : ℕ) (s : State) (m : Message) (r : Advanced) → AnswersLawfully world ask n (arriving s m) → CarriesSound m → KeepsCouriers s → came world ask n s m ≡ Some r → KeepsCouriers r.state
came-keeps world ask n s (message.Ride c) r laws sound k e = advanced-keeps world ask n r s c laws k sound e
came-keeps world ask n s (message.Put m h) r laws sound k e = over-keeps (laid s m h) None r (laid-keeps s m h k) e
came-keeps world ask n s (message.Back image) r laws sound k e = over-keeps (placed s image) None r (placed-keeps s image k) e
came-keeps world ask n s (message.Nudge p) r laws sound k e = over-keeps (nudged_here s p) None r (nudged_here-keeps s p k) e
came-keeps world ask n s (message.Poke p) r laws sound k e = over-keeps (poked s p) None r (poked-keeps s p k) e

pub messages_keep : MessagesKeep
messages_keep world ask n from s new m entry sends laws sound k turned =
    leaves new sends turned.1 (came-keeps world ask n (one_taken s from) m (is_advanced (record new { out = sends }) entry) laws sound k turned.0)
