-- what a node does to its couriers, but for their questions
use Rattle.std.proofs.Common.{◌≡◌, ◌≢◌, ◌⊎◌, inl, inr, ◌∙◌, ◌==◌, ℕ, Bool, true, false, List, [], ◌∷◌, Option, None, Some, if◌then◌else◌, refl, sym, ap, subst}
use Rattle.std.specs.Prelude.{All}
use Rattle.std.proofs.lemmas.List.Elements.{All-nil, All-cons, All-head, All-tail, All-append}
use Rattle.unix_names.specs.declared.Pid.{Pid}
use Rattle.unix_names.specs.declared.NodeId.{NodeId}
use Rattle.unix_names.specs.declared.Name.{Name}
use Rattle.unix_names.specs.declared.Name.TheVariants as name
use Rattle.unix_names.specs.Names.{home}
use Rattle.unix_calls.specs.declared.Phase.{Phase}
use Rattle.unix_calls.specs.declared.Phase.TheVariants as phases
use Rattle.unix_calls.specs.declared.World.{World}
use Rattle.ordered_table.specs.Entries.{value_at, with_value, without, has_value}
use Rattle.vproc_record.specs.declared.Vproc.{Vproc}
use Rattle.proc_image.specs.declared.Image.{Image}
use Rattle.record_bag.specs.declared.Held.{Held}
use Rattle.record_bag.specs.declared.Held.TheVariants as held
use Rattle.record_bag.specs.declared.Bag.{Bag}
use Rattle.record_bag.specs.declared.Decided.{Decided}
use Rattle.record_bag.specs.Bags.{all_held}
use Rattle.record_table.specs.declared.Slot.{Slot}
use Rattle.record_table.specs.declared.Slot.TheVariants.{Home, Out}
use Rattle.record_table.specs.declared.Slots.{Slots}
use Rattle.record_table.specs.declared.Line.{Line}
use Rattle.record_table.specs.declared.Nudged.{Nudged}
use Rattle.record_table.specs.declared.Nudged.TheVariants.{Marked, At, Nobody}
use Rattle.record_table.specs.Places.{line_of, poked_at, marked}
use Rattle.record_table.specs.Slots.{slot_at, with_slot}
use Rattle.record_table.proofs.SlotLaws.{seen, slot_at-put, slot_at-put_other}
use Rattle.courier_core.specs.declared.Courier.{Courier}
use Rattle.courier_core.specs.declared.Message.{Message}
use Rattle.courier_core.specs.declared.Message.TheVariants as message
use Rattle.courier_core.proofs.Keeping.{name_cases}
use Rattle.node_state.specs.declared.Waiting.{Waiting}
use Rattle.node_state.specs.declared.Waiting.TheVariants as waiting
use Rattle.node_state.specs.declared.State.{State}
use Rattle.node_state.specs.Ready.{has_image}
use Rattle.node_state.specs.Phases.{woken, image_after, child_of}
use Rattle.node_state.specs.Wires.{posted}
use Rattle.node_state.specs.Places.{queued, poked_by, poked, rested, placed_by, placed}
use Rattle.node_state.specs.Returns.{pid_named, called, told_if, laid_by, laid, given_back, all_given_back, nudged_by, nudged_here, nudged, all_nudged}
use Rattle.node_state.specs.Endings.{with_born, place_in, settled_at, settled_in, settled, child_placed, finished}
use Rattle.node_laws.specs.Couriers.{WaitsFor, IsSoundThere, CarriesSound, SendsSound, KeepsCouriers}

-- ---- lines
abbrev pub KeepsLines : Slots Courier → Type 0
KeepsLines slots = (n : Name) → All (WaitsFor n) (line_of (slot_at slots n)).waiters

seen-waiters : (n : Name) (a : Slot Held (Line Courier)) → (line_of (seen n a)).waiters ≡ (line_of a).waiters
seen-waiters (name.V p) (Home h) = refl
seen-waiters (name.V p) (Out line) = refl
seen-waiters (name.G g) (Home h) = refl
seen-waiters (name.G g) (Out line) = refl

-- a new slot, where the line of its name is kept
pub lines-put : (slots : Slots Courier) (n : Name) (a : Slot Held (Line Courier)) → KeepsLines slots → All (WaitsFor n) (line_of a).waiters → KeepsLines (with_slot slots n a)
lines-put slots n a kept new m = go (name_cases m n)
  where
    go : (m ≡ n) ⊎ (m ≢ n) → All (WaitsFor m) (line_of (slot_at (with_slot slots n a) m)).waiters
    go (inl e) = subst (λ k. All (WaitsFor k) (line_of (slot_at (with_slot slots n a) k)).waiters) (sym e)
        (subst (λ ws. All (WaitsFor n) ws) (sym (ap (λ z. (line_of z).waiters) (slot_at-put slots n a) ∙ seen-waiters n a)) new)
    go (inr ne) = subst (λ z. All (WaitsFor m) (line_of z).waiters) (sym (slot_at-put_other slots n m a ne)) (kept m)

pub lines-home : (slots : Slots Courier) (n : Name) (h : Held) → KeepsLines slots → KeepsLines (with_slot slots n (Home h))
lines-home slots n h kept = lines-put slots n (Home h) kept (All-nil (WaitsFor n))

-- ---- the queue and the wires
pub either-keeps : (b : Bool) (x y : State) → KeepsCouriers x → KeepsCouriers y → KeepsCouriers (if b then x else y)
either-keeps true x y a b = a
either-keeps false x y a b = b

pub posted-keeps : (s : State) (to : ℕ) (m : Message) → CarriesSound m → KeepsCouriers s → KeepsCouriers (posted s to m)
posted-keeps s to m sound k = record {
  ready = k.ready;
  lines = k.lines;
  out = All-append SendsSound s.out _ k.out (All-cons SendsSound _ [] sound (All-nil SendsSound));
}

pub queued-keeps : (s : State) (w : Waiting) → IsSoundThere w → KeepsCouriers s → KeepsCouriers (queued s w)
queued-keeps s w sound k = record {
  ready = All-append IsSoundThere s.ready (w ∷ []) k.ready (All-cons IsSoundThere w [] sound (All-nil IsSoundThere));
  lines = k.lines;
  out = k.out;
}

slots-keep : (s : State) (slots : Slots Courier) → KeepsLines slots → KeepsCouriers s → KeepsCouriers (record s { slots = slots })
slots-keep s slots lines k = record { ready = k.ready; lines = lines; out = k.out }

-- ---- places
poked_by-keeps : (s : State) (p : Pid) (o : Option Image) → KeepsCouriers s → KeepsCouriers (poked_by s p o)
poked_by-keeps s p (Some image) k = queued-keeps (record s { parked = without s.parked p }) (waiting.Image (woken image)) tt k
poked_by-keeps s p None k = either-keeps (has_image p s.ready) s (record s { marks = with_value s.marks p true }) k k

pub poked-keeps : (s : State) (p : Pid) → KeepsCouriers s → KeepsCouriers (poked s p)
poked-keeps s p k = poked_by-keeps s p (value_at s.parked p) k

rested-keeps : (s : State) (image : Image) (phase : Phase) → KeepsCouriers s → KeepsCouriers (rested s image phase)
rested-keeps s image phases.Ready k = queued-keeps s (waiting.Image image) tt k
rested-keeps s image phases.Asleep k = k
rested-keeps s image phases.Stopped k = k
rested-keeps s image phases.Gone k = k

placed_by-keeps : (s : State) (image : Image) (b : Bool) → KeepsCouriers s → KeepsCouriers (placed_by s image b)
placed_by-keeps s image true k = queued-keeps (record s { marks = without s.marks image.pid }) (waiting.Image (woken image)) tt k
placed_by-keeps s image false k = rested-keeps s image image.phase k

pub placed-keeps : (s : State) (image : Image) → KeepsCouriers s → KeepsCouriers (placed s image)
placed-keeps s image k = placed_by-keeps s image (has_value s.marks image.pid) k

-- ---- records that come back
called-keeps : (s : State) (p : Pid) (n : Nudged) → KeepsCouriers s → KeepsCouriers (called s p n)
called-keeps s p Marked k = k
called-keeps s p Nobody k = k
called-keeps s p (At place) k = either-keeps (place.0 == s.id) (poked s p) (posted s place.0 (message.Poke p)) (poked-keeps s p k) (posted-keeps s place.0 (message.Poke p) tt k)

told_if-keeps : (b : Bool) (s : State) (p : Pid) (n : Nudged) → KeepsCouriers s → KeepsCouriers (told_if b s p n)
told_if-keeps true s p n k = called-keeps s p n k
told_if-keeps false s p n k = k

laid_by-keeps : (s : State) (n : Name) (h : Held) (mark : Bool) (waiters : List Courier) → All (WaitsFor n) waiters → KeepsCouriers s → KeepsCouriers (laid_by s n h mark waiters)
laid_by-keeps s n h mark [] line k = told_if-keeps mark (record s { slots = with_slot s.slots n (Home h) }) (pid_named n) (poked_at h) (slots-keep s (with_slot s.slots n (Home h)) (lines-home s.slots n h k.lines) k)
laid_by-keeps s n h mark (c ∷ cs) line k =
    let rest = with_slot s.slots n (Out (record { is_marked = mark; waiters = cs })) in
    let first = All-head (WaitsFor n) c cs line in
    queued-keeps (record s { slots = rest }) _ (first.served h) (slots-keep s rest (lines-put s.slots n (Out (record { is_marked = mark; waiters = cs })) k.lines (All-tail (WaitsFor n) c cs line)) k)

pub laid-keeps : (s : State) (n : Name) (h : Held) → KeepsCouriers s → KeepsCouriers (laid s n h)
laid-keeps s n h k = laid_by-keeps s n h (line_of (slot_at s.slots n)).is_marked (line_of (slot_at s.slots n)).waiters (k.lines n) k

given_back-keeps : (s : State) (n : Name) (h : Held) → KeepsCouriers s → KeepsCouriers (given_back s n h)
given_back-keeps s n h k = either-keeps (home n s.nodes == s.id) (laid s n h) (posted s (home n s.nodes) (message.Put n h)) (laid-keeps s n h k) (posted-keeps s (home n s.nodes) (message.Put n h) tt k)

pub all_given_back-keeps : (s : State) (es : List (Name × Held)) → KeepsCouriers s → KeepsCouriers (all_given_back s es)
all_given_back-keeps s [] k = k
all_given_back-keeps s (e ∷ es) k = all_given_back-keeps (given_back s e.0 e.1) es (given_back-keeps s e.0 e.1 k)

-- ---- news
nudged_by-keeps : (s : State) (p : Pid) (a : Slot Held (Line Courier)) → All (WaitsFor (name.V p)) (line_of a).waiters → KeepsCouriers s → KeepsCouriers (nudged_by s p a)
nudged_by-keeps s p (Home h) line k = called-keeps s p (poked_at h) k
nudged_by-keeps s p (Out l) line k = slots-keep s (with_slot s.slots (name.V p) (marked (Out l))) (lines-put s.slots (name.V p) (marked (Out l)) k.lines line) k

pub nudged_here-keeps : (s : State) (p : Pid) → KeepsCouriers s → KeepsCouriers (nudged_here s p)
nudged_here-keeps s p k = nudged_by-keeps s p (slot_at s.slots (name.V p)) (k.lines (name.V p)) k

nudged-keeps : (s : State) (p : Pid) → KeepsCouriers s → KeepsCouriers (nudged s p)
nudged-keeps s p k = either-keeps (home (name.V p) s.nodes == s.id) (nudged_here s p) (posted s (home (name.V p) s.nodes) (message.Nudge p)) (nudged_here-keeps s p k) (posted-keeps s (home (name.V p) s.nodes) (message.Nudge p) tt k)

all_nudged-keeps : (s : State) (ps : List Pid) → KeepsCouriers s → KeepsCouriers (all_nudged s ps)
all_nudged-keeps s [] k = k
all_nudged-keeps s (p ∷ ps) k = all_nudged-keeps (nudged s p) ps (nudged-keeps s p k)

-- ---- the end
with_born-keeps : (s : State) (o : Option Vproc) → KeepsCouriers s → KeepsCouriers (with_born s o)
with_born-keeps s None k = k
with_born-keeps s (Some v) k = record { ready = k.ready; lines = lines-home s.slots (name.V v.pid) (held.V (Some v)) k.lines; out = k.out }

settled_at-keeps : (s : State) (to : ℕ) (image : Image) → KeepsCouriers s → KeepsCouriers (settled_at s to image)
settled_at-keeps s to image k = either-keeps (to == s.id) (placed s image) (posted s to (message.Back image)) (placed-keeps s image k) (posted-keeps s to (message.Back image) tt k)

settled_in-keeps : (s : State) (place : Option NodeId) (image : Image) (phase : Phase) → KeepsCouriers s → KeepsCouriers (settled_in s place image phase)
settled_in-keeps s None image phases.Gone k = k
settled_in-keeps s (Some to) image phases.Gone k = k
settled_in-keeps s None image phases.Ready k = k
settled_in-keeps s None image phases.Asleep k = k
settled_in-keeps s None image phases.Stopped k = k
settled_in-keeps s (Some to) image phases.Ready k = settled_at-keeps s to.0 image k
settled_in-keeps s (Some to) image phases.Asleep k = settled_at-keeps s to.0 image k
settled_in-keeps s (Some to) image phases.Stopped k = settled_at-keeps s to.0 image k

settled-keeps : (s : State) (place : Option NodeId) (image : Image) → KeepsCouriers s → KeepsCouriers (settled s place image)
settled-keeps s place image k = settled_in-keeps s place image image.phase k

child_placed-keeps : (s : State) (o : Option Image) → KeepsCouriers s → KeepsCouriers (child_placed s o)
child_placed-keeps s None k = k
child_placed-keeps s (Some image) k = placed-keeps s image k

pub finished-keeps : (world : World) (s : State) (image : Image) (bag : Bag) (done : Decided) → KeepsCouriers s → KeepsCouriers (finished world s image bag done)
finished-keeps world s image bag done k =
    let back = all_given_back (with_born s done.born) (all_held bag) in
    let after = settled back (place_in bag image.pid) (image_after world image done.own done.phase done.entry) in
    all_nudged-keeps (child_placed after (child_of world image done.born)) done.nudges
    (child_placed-keeps after (child_of world image done.born)
    (settled-keeps back (place_in bag image.pid) (image_after world image done.own done.phase done.entry)
    (all_given_back-keeps (with_born s done.born) (all_held bag) (with_born-keeps s done.born k))))
