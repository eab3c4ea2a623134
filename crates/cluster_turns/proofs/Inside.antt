-- each part of a turn sends to nodes alone
use Rattle.std.proofs.Common.{◌≡◌, ◌≢◌, ◌⊎◌, inl, inr, ◌<◌, ◌≤◌, ◌==◌, ◌/◌, nat_lt, ℕ, Bool, true, false, cond, List, [], ◌∷◌, refl, sym, ap, ◌∙◌, subst, slice_index, Option, None, Some}
use Rattle.std.proofs.lemmas.Bool.{ltb-true}
use Rattle.std.proofs.lemmas.List.Elements.{All-nil, All-cons, All-append}
use Rattle.unix_names.specs.declared.Pid.{Pid}
use Rattle.unix_names.specs.declared.NodeId.{NodeId}
use Rattle.unix_names.specs.declared.Name.{Name}
use Rattle.unix_names.specs.declared.Name.TheVariants as name
use Rattle.unix_names.specs.Names.{home, pid_of}
use Rattle.unix_names.specs.States.{is_living}
use Rattle.unix_calls.specs.declared.Phase.{Phase}
use Rattle.unix_calls.specs.declared.Phase.TheVariants as phases
use Rattle.ordered_table.specs.Entries.{value_at, with_value, has_value}
use Rattle.vproc_record.specs.declared.Vproc.{Vproc}
use Rattle.proc_image.specs.declared.Image.{Image}
use Rattle.record_bag.specs.declared.Held.{Held}
use Rattle.record_bag.specs.declared.Held.TheVariants as held
use Rattle.record_bag.specs.Kinds.{of_kind}
use Rattle.record_table.specs.declared.Slot.{Slot}
use Rattle.record_table.specs.declared.Slot.TheVariants.{Home, Out}
use Rattle.record_table.specs.declared.Line.{Line}
use Rattle.record_table.specs.declared.Nudged.TheVariants.{At, Nobody}
use Rattle.record_table.specs.Places.{line_of, poked_at, marked}
use Rattle.record_table.specs.Slots.{slot_at, with_slot}
use Rattle.record_table.proofs.SlotLaws.{seen, slot_at-put, slot_at-put_other}
use Rattle.courier_core.specs.declared.Courier.{Courier}
use Rattle.courier_core.specs.declared.Message.{Message}
use Rattle.courier_core.specs.declared.Message.TheVariants as message
use Rattle.courier_core.specs.Wants.{is_name}
use Rattle.courier_core.proofs.Order.{is_name-true, is_name-same}
use Rattle.node_state.specs.declared.State.{State}
use Rattle.node_state.specs.Ready.{has_image}
use Rattle.node_state.specs.Wires.{posted}
use Rattle.node_state.specs.Places.{poked_by, poked, rested, placed_by, placed}
use Rattle.node_state.specs.Returns.{pid_named, called, told_if, laid_by, laid, given_back, all_given_back, nudged_by, nudged_here, nudged, all_nudged}
use Rattle.node_state.specs.Endings.{with_born, settled_at, settled_in, child_placed}
use Rattle.courier_core.proofs.Keeping.{name_cases}
use Rattle.cluster_moves.proofs.Returns.{listed, Once}
use Rattle.cluster_turns.specs.Inside.{HeldInside, GoesInside, IsInside}

abbrev at_home : Held → Slot Held (Line Courier)
at_home h = Home h

home_home : (h k : Held) → at_home h ≡ at_home k → h ≡ k
home_home h k e = cc

module _ (nodes : ℕ) (some : 1 ≤ nodes) where
  home_inside : (n : Name) → home n nodes < nodes
  home_inside n = go (nat_lt (pid_of n / 1000000) nodes) refl
    where
      go : (b : Bool) → nat_lt (pid_of n / 1000000) nodes ≡ b → cond b (pid_of n / 1000000) 0 < nodes
      go true e = ltb-true (pid_of n / 1000000) nodes e
      go false e = some

  either : (b : Bool) (s t : State) → IsInside nodes s → IsInside nodes t → IsInside nodes (cond b s t)
  either true s t i j = i
  either false s t i j = j

  pub posted_inside : (s : State) (to : ℕ) (m : Message) → to < nodes → IsInside nodes s → IsInside nodes (posted s to m)
  posted_inside s to m lt i =
      record {
        count = i.count;
        out = All-append (GoesInside nodes) s.out ((record { to = to; number = slice_index s.sent to; message = m }) ∷ []) i.out (All-cons (GoesInside nodes) (record { to = to; number = slice_index s.sent to; message = m }) [] lt (All-nil (GoesInside nodes)));
        homes = i.homes;
      }

  pub to_home : (s : State) (n : Name) → IsInside nodes s → home n s.nodes < nodes
  to_home s n i = subst (λ k. home n k < nodes) (sym i.count) (home_inside n)

  -- a record that is written is of its kind
  kind_inside : (n : Name) (h : Held) → HeldInside nodes h → HeldInside nodes (of_kind n h)
  kind_inside (name.V q) (held.V v) inside w e = inside w e
  kind_inside (name.V q) (held.G g) inside w e = cc
  kind_inside (name.G q) (held.V v) inside w e = cc
  kind_inside (name.G q) (held.G g) inside w e = cc

  seen_home : (n : Name) (h k : Held) → HeldInside nodes h → seen n (at_home h) ≡ at_home k → HeldInside nodes k
  seen_home (name.V q) (held.V v) k inside e = subst (HeldInside nodes) (home_home (held.V v) k e) inside
  seen_home (name.V q) (held.G g) k inside e = λ w f. let same : held.V None ≡ k = home_home (held.V None) k e in cc
  seen_home (name.G q) (held.V v) k inside e = λ w f. let same : held.G None ≡ k = home_home (held.G None) k e in cc
  seen_home (name.G q) (held.G g) k inside e = λ w f. let same : held.G g ≡ k = home_home (held.G g) k e in cc

  pub seen_out : (n : Name) (line : Line Courier) (k : Held) → seen n (Out line) ≡ at_home k → HeldInside nodes k
  seen_out (name.V q) line k e = cc
  seen_out (name.G q) line k e = cc

  pub written_inside : (s : State) (n : Name) (a : Slot Held (Line Courier)) → ((k : Held) → seen n a ≡ at_home k → HeldInside nodes k) → IsInside nodes s → IsInside nodes (record s { slots = with_slot s.slots n a })
  written_inside s n a ok i = record { count = i.count; out = i.out; homes = λ m h e. go m h e (name_cases m n) }
    where
      go : (m : Name) (h : Held) → slot_at (with_slot s.slots n a) m ≡ Home h → (m ≡ n) ⊎ (m ≢ n) → HeldInside nodes h
      go m h e (inl same) = ok h (sym (slot_at-put s.slots n a) ∙ (ap (slot_at (with_slot s.slots n a)) (sym same) ∙ e))
      go m h e (inr ne) = i.homes m h (sym (slot_at-put_other s.slots n m a ne) ∙ e)

  -- ---- images
  poked_by_inside : (s : State) (p : Pid) (o : Option Image) → IsInside nodes s → IsInside nodes (poked_by s p o)
  poked_by_inside s p (Some image) i = record { count = i.count; out = i.out; homes = i.homes }
  poked_by_inside s p None i = either (has_image p s.ready) s (record s { marks = with_value s.marks p true }) i (record { count = i.count; out = i.out; homes = i.homes })

  pub poked_inside : (s : State) (p : Pid) → IsInside nodes s → IsInside nodes (poked s p)
  poked_inside s p i = poked_by_inside s p (value_at s.parked p) i

  rested_inside : (s : State) (image : Image) (phase : Phase) → IsInside nodes s → IsInside nodes (rested s image phase)
  rested_inside s image phases.Ready i = record { count = i.count; out = i.out; homes = i.homes }
  rested_inside s image phases.Asleep i = record { count = i.count; out = i.out; homes = i.homes }
  rested_inside s image phases.Stopped i = record { count = i.count; out = i.out; homes = i.homes }
  rested_inside s image phases.Gone i = record { count = i.count; out = i.out; homes = i.homes }

  placed_by_inside : (s : State) (image : Image) (b : Bool) → IsInside nodes s → IsInside nodes (placed_by s image b)
  placed_by_inside s image true i = record { count = i.count; out = i.out; homes = i.homes }
  placed_by_inside s image false i = rested_inside s image image.phase i

  pub placed_inside : (s : State) (image : Image) → IsInside nodes s → IsInside nodes (placed s image)
  placed_inside s image i = placed_by_inside s image (has_value s.marks image.pid) i

  -- ---- news
  called_at : (s : State) (p : Pid) (place : NodeId) → place.0 < nodes → IsInside nodes s → IsInside nodes (called s p (At place))
  called_at s p place lt i = either (place.0 == s.id) (poked s p) (posted s place.0 (message.Poke p)) (poked_inside s p i) (posted_inside s place.0 (message.Poke p) lt i)

  called_inside : (s : State) (p : Pid) (h : Held) → HeldInside nodes h → IsInside nodes s → IsInside nodes (called s p (poked_at h))
  called_inside s p (held.V None) inside i = i
  called_inside s p (held.V (Some v)) inside i = go (is_living v.life)
    where
      go : (b : Bool) → IsInside nodes (called s p (cond b (At v.loc) Nobody))
      go true = called_at s p v.loc (inside v refl) i
      go false = i
  called_inside s p (held.G g) inside i = i

  told_inside : (b : Bool) (s : State) (p : Pid) (h : Held) → HeldInside nodes h → IsInside nodes s → IsInside nodes (told_if b s p (poked_at h))
  told_inside true s p h inside i = called_inside s p h inside i
  told_inside false s p h inside i = i

  -- ---- records
  laid_by_inside : (s : State) (n : Name) (h : Held) (b : Bool) (cs : List Courier) → HeldInside nodes h → IsInside nodes s → IsInside nodes (laid_by s n h b cs)
  laid_by_inside s n h b [] inside i = told_inside b (record s { slots = with_slot s.slots n (Home h) }) (pid_named n) h inside (written_inside s n (Home h) (λ k e. seen_home n h k inside e) i)
  laid_by_inside s n h b (c ∷ cs) inside i =
      let w = written_inside s n (Out (record { is_marked = b; waiters = cs })) (λ k e. seen_out n (record { is_marked = b; waiters = cs }) k e) i in
      record { count = w.count; out = w.out; homes = w.homes }

  pub laid_inside : (s : State) (n : Name) (h : Held) → HeldInside nodes h → IsInside nodes s → IsInside nodes (laid s n h)
  laid_inside s n h inside i = laid_by_inside s n h (line_of (slot_at s.slots n)).is_marked (line_of (slot_at s.slots n)).waiters inside i

  given_inside : (s : State) (n : Name) (h : Held) → HeldInside nodes h → IsInside nodes s → IsInside nodes (given_back s n h)
  given_inside s n h inside i = either (home n s.nodes == s.id) (laid s n h) (posted s (home n s.nodes) (message.Put n h)) (laid_inside s n h inside i) (posted_inside s (home n s.nodes) (message.Put n h) (to_home s n i) i)

  pub all_given_inside : (s : State) (es : List (Name × Held)) → Once es → ((n : Name) (h : Held) → listed es n ≡ Some h → HeldInside nodes h) → IsInside nodes s → IsInside nodes (all_given_back s es)
  all_given_inside s [] once inside i = i
  all_given_inside s (e ∷ es) once inside i =
      all_given_inside (given_back s e.0 e.1) es once.1 (λ n h f. later n h f (is_name e.0 n) refl)
      (given_inside s e.0 e.1 (inside e.0 e.1 (ap (λ b. cond b (Some e.1) (listed es e.0)) (is_name-same e.0))) i)
    where
      later : (n : Name) (h : Held) → listed es n ≡ Some h → (b : Bool) → is_name e.0 n ≡ b → HeldInside nodes h
      later n h f true same = let none : None ≡ Some h = sym once.0 ∙ (ap (listed es) (is_name-true e.0 n same) ∙ f) in cc
      later n h f false other = inside n h (ap (λ b. cond b (Some e.1) (listed es n)) other ∙ f)

  nudged_by_inside : (s : State) (p : Pid) (a : Slot Held (Line Courier)) → slot_at s.slots (name.V p) ≡ a → IsInside nodes s → IsInside nodes (nudged_by s p a)
  nudged_by_inside s p (Home h) e i = called_inside s p h (i.homes (name.V p) h e) i
  nudged_by_inside s p (Out line) e i = written_inside s (name.V p) (marked (Out line)) (λ k e. cc) i

  pub nudged_here_inside : (s : State) (p : Pid) → IsInside nodes s → IsInside nodes (nudged_here s p)
  nudged_here_inside s p i = nudged_by_inside s p (slot_at s.slots (name.V p)) refl i

  nudged_inside : (s : State) (p : Pid) → IsInside nodes s → IsInside nodes (nudged s p)
  nudged_inside s p i = either (home (name.V p) s.nodes == s.id) (nudged_here s p) (posted s (home (name.V p) s.nodes) (message.Nudge p)) (nudged_here_inside s p i) (posted_inside s (home (name.V p) s.nodes) (message.Nudge p) (to_home s (name.V p) i) i)

  pub all_nudged_inside : (s : State) (ps : List Pid) → IsInside nodes s → IsInside nodes (all_nudged s ps)
  all_nudged_inside s [] i = i
  all_nudged_inside s (p ∷ ps) i = all_nudged_inside (nudged s p) ps (nudged_inside s p i)

  -- ---- the end of a decision
  pub born_inside : (s : State) (o : Option Vproc) → ((v : Vproc) → o ≡ Some v → v.loc.0 < nodes) → IsInside nodes s → IsInside nodes (with_born s o)
  born_inside s None inside i = i
  born_inside s (Some v) inside i =
      let w = written_inside s (name.V v.pid) (Home (held.V (Some v))) (λ k e. seen_home (name.V v.pid) (held.V (Some v)) k (λ u f. let same : v ≡ u = cc in inside u (ap Some same)) e) i in
      record { count = w.count; out = w.out; homes = w.homes }

  settled_at_inside : (s : State) (k : ℕ) (image : Image) → k < nodes → IsInside nodes s → IsInside nodes (settled_at s k image)
  settled_at_inside s k image lt i = either (k == s.id) (placed s image) (posted s k (message.Back image)) (placed_inside s image i) (posted_inside s k (message.Back image) lt i)

  pub settled_inside : (s : State) (o : Option NodeId) (image : Image) (phase : Phase) → ((k : NodeId) → o ≡ Some k → k.0 < nodes) → IsInside nodes s → IsInside nodes (settled_in s o image phase)
  settled_inside s None image phases.Gone inside i = i
  settled_inside s (Some k) image phases.Gone inside i = i
  settled_inside s None image phases.Ready inside i = i
  settled_inside s None image phases.Asleep inside i = i
  settled_inside s None image phases.Stopped inside i = i
  settled_inside s (Some k) image phases.Ready inside i = settled_at_inside s k.0 image (inside k refl) i
  settled_inside s (Some k) image phases.Asleep inside i = settled_at_inside s k.0 image (inside k refl) i
  settled_inside s (Some k) image phases.Stopped inside i = settled_at_inside s k.0 image (inside k refl) i

  pub child_inside : (s : State) (o : Option Image) → IsInside nodes s → IsInside nodes (child_placed s o)
  child_inside s None i = i
  child_inside s (Some image) i = placed_inside s image i
