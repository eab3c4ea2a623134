-- each part of a turn gives new messages the next numbers
use Rattle.std.proofs.Common.{◌≡◌, ◌+◌, ◌<◌, ◌==◌, ℕ, zero, suc, Bool, true, false, cond, slice_index, slice_set, List, [], ◌∷◌, ◌++◌, length, refl, sym, ap, ◌∙◌, subst, arith, Option, None, Some, append_assoc, append-nil}
use Rattle.std.specs.Option.{option_map}
use Rattle.unix_names.specs.declared.NodeId.{NodeId}
use Rattle.std.proofs.lemmas.List.{length-append, length-set, get_or-set_same, get_or-set_other}
use Rattle.std.proofs.lemmas.Bool.{eqb-true, eqb-false}
use Rattle.list_laws.proofs.Filters.{some_same}
use Rattle.unix_names.specs.declared.Pid.{Pid}
use Rattle.unix_names.specs.declared.Name.{Name}
use Rattle.unix_names.specs.declared.Name.TheVariants as name
use Rattle.unix_names.specs.Names.{home}
use Rattle.unix_calls.specs.declared.Phase.{Phase}
use Rattle.unix_calls.specs.declared.Phase.TheVariants as phases
use Rattle.unix_calls.specs.declared.World.{World}
use Rattle.ordered_table.specs.Entries.{value_at, has_value}
use Rattle.vproc_record.specs.declared.Vproc.{Vproc}
use Rattle.proc_image.specs.declared.image.Image.{Image}
use Rattle.record_bag.specs.declared.Held.{Held}
use Rattle.record_bag.specs.declared.Bag.{Bag}
use Rattle.record_bag.specs.declared.vector.Decided.{Decided}
use Rattle.record_bag.specs.declared.vector.Outcome.{Outcome}
use Rattle.record_bag.specs.declared.vector.Outcome.TheVariants.{Done, Need, Away}
use Rattle.record_bag.specs.Bags.{all_held}
use Rattle.record_table.specs.declared.slot.Slot.{Slot}
use Rattle.record_table.specs.declared.slot.Slot.TheVariants.{Home, Out}
use Rattle.record_table.specs.declared.slot.Line.{Line}
use Rattle.record_table.specs.declared.slots.Nudged.{Nudged}
use Rattle.record_table.specs.declared.slots.Nudged.TheVariants.{Marked, At, Nobody}
use Rattle.record_table.specs.Places.{line_of, poked_at}
use Rattle.record_table.specs.Slots.{slot_at}
use Rattle.courier_core.specs.declared.courier.Courier.{Courier}
use Rattle.courier_core.specs.declared.courier.Message.{Message}
use Rattle.courier_core.specs.declared.courier.Message.TheVariants as message
use Rattle.courier_core.specs.Couriers.{next_want, must_restart}
use Rattle.node_state.specs.declared.State.{State}
use Rattle.node_state.specs.declared.Sent.{Sent}
use Rattle.node_state.specs.declared.Waiting.{Waiting}
use Rattle.node_state.specs.declared.Waiting.TheVariants as waiting
use Rattle.node_state.specs.Wires.{posted}
use Rattle.node_state.specs.Places.{queued, poked_by, poked, rested, placed_by, placed}
use Rattle.node_state.specs.Ready.{has_image, first_movable, without_movable}
use Rattle.node_state.specs.Returns.{called, told_if, laid_by, laid, given_back, all_given_back, nudged_by, nudged_here, nudged, all_nudged}
use Rattle.node_state.specs.Endings.{place_in, with_born, settled_at, settled_in, settled, child_placed, finished}
use Rattle.node_state.specs.Phases.{child_of, image_after}
use Rattle.node_core.specs.Advance.{Ask, Stepped, Advanced, asked, wanted_at, wanted, needed_least, stepped_by, stepped, goes_on, advanced}
use Rattle.node_core.specs.declared.step.Step.{Step}
use Rattle.node_core.specs.declared.step.Step.TheVariants.{Again, Over}
use Rattle.node_core.specs.Turns.{Departure, courier_of, first_of, moved_with, going, pushed, led, came}
use Rattle.cluster_state.specs.Cluster.{sends_to}
use Rattle.turn_laws.specs.Numbers.{AreNumbered}
use Rattle.turn_laws.specs.MethodNumbers.{Posts}

pub sends_append : (k : ℕ) (xs ys : List Sent) → sends_to k (xs ++ ys) ≡ sends_to k xs ++ sends_to k ys
sends_append k [] ys = refl
sends_append k (x ∷ xs) ys = go (sends_append k xs ys) (x.to == k)
  where
    go : sends_to k (xs ++ ys) ≡ sends_to k xs ++ sends_to k ys → (b : Bool) → cond b (x ∷ sends_to k (xs ++ ys)) (sends_to k (xs ++ ys)) ≡ cond b (x ∷ sends_to k xs) (sends_to k xs) ++ sends_to k ys
    go rest true = ap (λ (l : List Sent). x ∷ l) rest
    go rest false = rest

pub numbered_append : (n : ℕ) (xs ys : List Sent) → AreNumbered n xs → AreNumbered (n + length xs) ys → AreNumbered n (xs ++ ys)
numbered_append n [] ys a b = let z : n + 0 ≡ n = omega arith in subst (λ (k : ℕ). AreNumbered k ys) z b
numbered_append n (x ∷ xs) ys a b = let z : n + suc (length xs) ≡ suc n + length xs = omega arith in (a.0, numbered_append (suc n) xs ys a.1 (subst (λ (k : ℕ). AreNumbered k ys) z b))

-- ---- nothing is posted; one after the other
pub still : (s t : State) → t.taken ≡ s.taken → t.sent ≡ s.sent → t.out ≡ s.out → Posts s t
still s t taken sent out = record {
  taken = taken;
  room = ap (λ (l : List ℕ). length l) sent;
  news = λ k lt. ([], ap (λ (l : List Sent). sends_to k l) out ∙ sym (append-nil (sends_to k s.out)), tt, (let e = ap (λ (l : List ℕ). slice_index l k) sent in omega arith));
}

pub then_posts : (s t u : State) → Posts s t → Posts t u → Posts s u
then_posts s t u p q = record {
  taken = q.taken ∙ p.taken;
  room = q.room ∙ p.room;
  news = λ k lt. go k (p.news k lt) (q.news k (let e = p.room in omega arith));
}
  where
    go : (k : ℕ) → ((xs : List Sent) × (sends_to k t.out ≡ sends_to k s.out ++ xs) × AreNumbered (slice_index s.sent k) xs × (slice_index t.sent k ≡ slice_index s.sent k + length xs)) →
        ((xs : List Sent) × (sends_to k u.out ≡ sends_to k t.out ++ xs) × AreNumbered (slice_index t.sent k) xs × (slice_index u.sent k ≡ slice_index t.sent k + length xs)) →
        (xs : List Sent) × (sends_to k u.out ≡ sends_to k s.out ++ xs) × AreNumbered (slice_index s.sent k) xs × (slice_index u.sent k ≡ slice_index s.sent k + length xs)
    go k a b = (a.0 ++ b.0, b.1 ∙ (ap (λ (l : List Sent). l ++ b.0) a.1 ∙ append_assoc (sends_to k s.out) a.0 b.0), numbered_append (slice_index s.sent k) a.0 b.0 a.2 (subst (λ (n : ℕ). AreNumbered n b.0) a.3 b.2), (let x = a.3 in let y = b.3 in let z = length-append a.0 b.0 in omega arith))

pub posted_posts : (s : State) (to : ℕ) (m : Message) → Posts s (posted s to m)
posted_posts s to m = record { taken = refl; room = length-set s.sent to (slice_index s.sent to + 1); news = λ k lt. go k lt (to == k) refl }
  where
    new : Sent
    new = record { to = to; number = slice_index s.sent to; message = m }

    go : (k : ℕ) → k < length s.sent → (b : Bool) → (to == k) ≡ b → (xs : List Sent) × (sends_to k (s.out ++ (record { to = to; number = slice_index s.sent to; message = m }) ∷ []) ≡ sends_to k s.out ++ xs) × AreNumbered (slice_index s.sent k) xs × (slice_index (slice_set s.sent to (slice_index s.sent to + 1)) k ≡ slice_index s.sent k + length xs)
    go k lt true e =
        let same = eqb-true to k e in (
          (record { to = to; number = slice_index s.sent to; message = m }) ∷ [],
          sends_append k s.out ((record { to = to; number = slice_index s.sent to; message = m }) ∷ []) ∙ ap (λ (b : Bool). sends_to k s.out ++ cond b ((record { to = to; number = slice_index s.sent to; message = m }) ∷ []) []) e,
          (ap (λ (n : ℕ). slice_index s.sent n) same, tt),
          subst (λ (n : ℕ). slice_index (slice_set s.sent n (slice_index s.sent n + 1)) k ≡ slice_index s.sent k + 1) (sym same) (get_or-set_same s.sent k (slice_index s.sent k + 1) 0 lt),
        )
    go k lt false e = (
      [],
      sends_append k s.out ((record { to = to; number = slice_index s.sent to; message = m }) ∷ []) ∙ ap (λ (b : Bool). sends_to k s.out ++ cond b ((record { to = to; number = slice_index s.sent to; message = m }) ∷ []) []) e,
      tt,
      (let h = get_or-set_other s.sent to k (slice_index s.sent to + 1) 0 (λ same. eqb-false to k e (sym same)) in omega arith),
    )

pub by_cond : (s t u : State) (b : Bool) → Posts s t → Posts s u → Posts s (cond b t u)
by_cond s t u true p q = p
by_cond s t u false p q = q

pub same : (s : State) → Posts s s
same s = still s s refl refl refl

-- ---- the parts of a turn
queued_posts : (s : State) (w : Waiting) → Posts s (queued s w)
queued_posts s w = still s (queued s w) refl refl refl

poked_by_posts : (s : State) (p : Pid) (o : Option Image) → Posts s (poked_by s p o)
poked_by_posts s p (Some image) = still s (poked_by s p (Some image)) refl refl refl
poked_by_posts s p None = by_cond s _ _ (has_image p s.ready) (same s) (still s _ refl refl refl)

pub poked_posts : (s : State) (p : Pid) → Posts s (poked s p)
poked_posts s p = poked_by_posts s p (value_at s.parked p)

rested_posts : (s : State) (image : Image) (phase : Phase) → Posts s (rested s image phase)
rested_posts s image phases.Ready = queued_posts s (waiting.Image image)
rested_posts s image phases.Asleep = still s (rested s image phases.Asleep) refl refl refl
rested_posts s image phases.Stopped = still s (rested s image phases.Stopped) refl refl refl
rested_posts s image phases.Gone = still s (rested s image phases.Gone) refl refl refl

placed_by_posts : (s : State) (image : Image) (b : Bool) → Posts s (placed_by s image b)
placed_by_posts s image true = still s (placed_by s image true) refl refl refl
placed_by_posts s image false = rested_posts s image image.phase

pub placed_posts : (s : State) (image : Image) → Posts s (placed s image)
placed_posts s image = placed_by_posts s image (has_value s.marks image.pid)

called_posts : (s : State) (p : Pid) (n : Nudged) → Posts s (called s p n)
called_posts s p Marked = same s
called_posts s p Nobody = same s
called_posts s p (At place) = by_cond s _ _ (place.0 == s.id) (poked_posts s p) (posted_posts s place.0 (message.Poke p))

told_posts : (b : Bool) (s : State) (p : Pid) (n : Nudged) → Posts s (told_if b s p n)
told_posts true s p n = called_posts s p n
told_posts false s p n = same s

laid_by_posts : (s : State) (n : Name) (h : Held) (b : Bool) (cs : List Courier) → Posts s (laid_by s n h b cs)
laid_by_posts s n h b [] = then_posts s _ _ (still s _ refl refl refl) (told_posts b _ _ (poked_at h))
laid_by_posts s n h b (c ∷ cs) = still s (laid_by s n h b (c ∷ cs)) refl refl refl

pub laid_posts : (s : State) (n : Name) (h : Held) → Posts s (laid s n h)
laid_posts s n h = laid_by_posts s n h (line_of (slot_at s.slots n)).is_marked (line_of (slot_at s.slots n)).waiters

given_posts : (s : State) (n : Name) (h : Held) → Posts s (given_back s n h)
given_posts s n h = by_cond s _ _ (home n s.nodes == s.id) (laid_posts s n h) (posted_posts s (home n s.nodes) (message.Put n h))

all_given_posts : (s : State) (es : List (Name × Held)) → Posts s (all_given_back s es)
all_given_posts s [] = same s
all_given_posts s (e ∷ es) = then_posts s _ _ (given_posts s e.0 e.1) (all_given_posts (given_back s e.0 e.1) es)

nudged_by_posts : (s : State) (p : Pid) (slot : Slot Held (Line Courier)) → Posts s (nudged_by s p slot)
nudged_by_posts s p (Home h) = called_posts s p (poked_at h)
nudged_by_posts s p (Out line) = still s (nudged_by s p (Out line)) refl refl refl

pub nudged_here_posts : (s : State) (p : Pid) → Posts s (nudged_here s p)
nudged_here_posts s p = nudged_by_posts s p (slot_at s.slots (name.V p))

nudged_posts : (s : State) (p : Pid) → Posts s (nudged s p)
nudged_posts s p = by_cond s _ _ (home (name.V p) s.nodes == s.id) (nudged_here_posts s p) (posted_posts s (home (name.V p) s.nodes) (message.Nudge p))

all_nudged_posts : (s : State) (ps : List Pid) → Posts s (all_nudged s ps)
all_nudged_posts s [] = same s
all_nudged_posts s (p ∷ ps) = then_posts s _ _ (nudged_posts s p) (all_nudged_posts (nudged s p) ps)

born_posts : (s : State) (v : Option Vproc) → Posts s (with_born s v)
born_posts s None = same s
born_posts s (Some v) = still s (with_born s (Some v)) refl refl refl

settled_at_posts : (s : State) (k : ℕ) (image : Image) → Posts s (settled_at s k image)
settled_at_posts s k image = by_cond s _ _ (k == s.id) (placed_posts s image) (posted_posts s k (message.Back image))

settled_in_posts : (s : State) (v : Option NodeId) (image : Image) (phase : Phase) → Posts s (settled_in s v image phase)
settled_in_posts s v image phases.Gone = same s
settled_in_posts s None image phases.Ready = same s
settled_in_posts s None image phases.Asleep = same s
settled_in_posts s None image phases.Stopped = same s
settled_in_posts s (Some v) image phases.Ready = settled_at_posts s v.0 image
settled_in_posts s (Some v) image phases.Asleep = settled_at_posts s v.0 image
settled_in_posts s (Some v) image phases.Stopped = settled_at_posts s v.0 image

child_posts : (s : State) (o : Option Image) → Posts s (child_placed s o)
child_posts s None = same s
child_posts s (Some image) = placed_posts s image

finished_posts : (world : World) (s : State) (image : Image) (bag : Bag) (done : Decided) → Posts s (finished world s image bag done)
finished_posts world s image bag done =
    then_posts s (with_born s done.born) _ (born_posts s done.born)
    (then_posts _ (all_given_back (with_born s done.born) (all_held bag)) _ (all_given_posts (with_born s done.born) (all_held bag))
    (then_posts _ (settled (all_given_back (with_born s done.born) (all_held bag)) (place_in bag image.pid) (image_after world image done.own done.phase done.entry)) _ (settled_in_posts _ (place_in bag image.pid) _ _)
    (then_posts _ _ _ (child_posts _ (child_of world image done.born)) (all_nudged_posts _ done.nudges))))

-- ---- questions
wanted_at_posts : (s : State) (c : Courier) (x : Name) (slot : Slot Held (Line Courier)) → Posts s (wanted_at s c x slot).state
wanted_at_posts s c x (Home h) = still s _ refl refl refl
wanted_at_posts s c x (Out line) = still s _ refl refl refl

of_cond : (s : State) (b : Bool) (t u : Stepped) → Posts s t.state → Posts s u.state → Posts s (cond b t u).state
of_cond s true t u p q = p
of_cond s false t u p q = q

wanted_posts : (s : State) (c : Courier) (x : Name) → Posts s (wanted s c x).state
wanted_posts s c x = of_cond s (home x s.nodes == s.id) _ _ (wanted_at_posts s c x (slot_at s.slots x)) (posted_posts s (home x s.nodes) (message.Ride c))

needed_posts : (s : State) (c : Courier) (names : List Name) (o : Option Name) → Posts s (needed_least s c names o).state
needed_posts s c names None = same s
needed_posts s c names (Some x) = of_cond s (must_restart c x) _ _ (all_given_posts s (all_held c.bag)) (wanted_posts s c x)

stepped_by_posts : (world : World) (s : State) (c : Courier) (o : Outcome) (bag : Bag) → Posts s (stepped_by world s c o bag).state
stepped_by_posts world s c (Done done) bag = finished_posts world s c.image bag done
stepped_by_posts world s c (Away k) bag = posted_posts s k.0 (message.Ride (record c { bag = bag }))
stepped_by_posts world s c (Need names) bag = needed_posts s (record c { bag = bag }) names (next_want (record c { bag = bag }) names)

module _ (world : World) (ask : Ask) where
  pub advanced_posts : (n : ℕ) (s : State) (c : Courier) (a : Advanced) → advanced world ask n s c ≡ Some a → Posts s a.state
  advanced_posts zero s c a e = cc
  advanced_posts (suc n) s c a e = go (stepped world ask s c).state (stepped world ask s c).step (stepped_by_posts world s c (asked ask s c).outcome (asked ask s c).bag) (advanced_posts n) e
    where
      go : (t : State) (step : Step) → Posts s t → ((s : State) (c : Courier) (a : Advanced) → advanced world ask n s c ≡ Some a → Posts s a.state) → goes_on (advanced world ask n) t step ≡ Some a → Posts s a.state
      go t (Again c') p rest e = then_posts s t a.state p (rest t c' a e)
      go t (Over entry) p rest e = subst (λ (b : Advanced). Posts s b.state) (some_same (record { state = t; entry = entry }) a e) p

  led_posts : (n : ℕ) (s : State) (o : Option Departure) (a : Advanced) → ((d : Departure) → o ≡ Some d → Posts s d.state) → led world ask n o ≡ Some a → Posts s a.state
  led_posts n s None a departs e = cc
  led_posts n s (Some d) a departs e = then_posts s d.state a.state (departs d refl) (advanced_posts n d.state d.courier a e)

  first_posts : (s : State) (ws : List Waiting) (d : Departure) → first_of world s ws ≡ Some d → Posts s d.state
  first_posts s [] d e = cc
  first_posts s (w ∷ ws) d e = subst (λ (x : Departure). Posts s x.state) (some_same (record { state = record s { ready = ws }; courier = courier_of world w }) d e) (still s (record s { ready = ws }) refl refl refl)

  moved_posts : (s : State) (to : NodeId) (o : Option Image) (d : Departure) → option_map (moved_with s to) o ≡ Some d → Posts s d.state
  moved_posts s to None d e = cc
  moved_posts s to (Some image) d e = subst (λ (x : Departure). Posts s x.state) (some_same (moved_with s to image) d e) (still s (record s { ready = without_movable s.ready }) refl refl refl)

  pub going_posts : (n : ℕ) (s : State) (a : Advanced) → led world ask n (going world s) ≡ Some a → Posts s a.state
  going_posts n s a e = led_posts n s (going world s) a (first_posts s s.ready) e

  pub pushed_posts : (n : ℕ) (s : State) (to : NodeId) (a : Advanced) → led world ask n (pushed s to) ≡ Some a → Posts s a.state
  pushed_posts n s to a e = led_posts n s (pushed s to) a (moved_posts s to (first_movable s.ready)) e

  pub came_posts : (n : ℕ) (s : State) (x : Message) (a : Advanced) → came world ask n s x ≡ Some a → Posts s a.state
  came_posts n s (message.Ride c) a e = advanced_posts n s c a e
  came_posts n s (message.Put k h) a e = subst (λ (b : Advanced). Posts s b.state) (some_same _ a e) (laid_posts s k h)
  came_posts n s (message.Back image) a e = subst (λ (b : Advanced). Posts s b.state) (some_same _ a e) (placed_posts s image)
  came_posts n s (message.Nudge p) a e = subst (λ (b : Advanced). Posts s b.state) (some_same _ a e) (nudged_here_posts s p)
  came_posts n s (message.Poke p) a e = subst (λ (b : Advanced). Posts s b.state) (some_same _ a e) (poked_posts s p)
