-- what the parts of a turn do to the containers and slots
use Rattle.std.proofs.Common.{◌≡◌, ◌≢◌, ◌⊎◌, inl, inr, ◌==◌, ℕ, Bool, true, false, cond, List, [], ◌∷◌, ◌++◌, map, refl, sym, ap, ◌∙◌, None, Some, append_assoc, append-nil}
use Rattle.std.proofs.lemmas.Bool.{eqb-true, eqb-false, eq-eqb}
use Rattle.std.specs.Prelude.{nat_lt}
use Rattle.unix_names.specs.declared.Pid.{Pid}
use Rattle.unix_names.specs.declared.Name.{Name}
use Rattle.unix_names.specs.Names.{home}
use Rattle.unix_calls.specs.declared.World.{World}
use Rattle.ordered_table.specs.declared.Entry.{Entry}
use Rattle.ordered_table.specs.Entries.{value_at, with_value, without}
use Rattle.proc_image.specs.declared.image.Image.{Image}
use Rattle.record_bag.specs.declared.Held.{Held}
use Rattle.record_table.specs.declared.slot.Slot.{Slot}
use Rattle.record_table.specs.declared.slot.Line.{Line}
use Rattle.record_table.specs.Places.{line_of}
use Rattle.record_table.specs.Slots.{slot_at, with_slot}
use Rattle.record_table.proofs.SlotLaws.{slot_at-put_other}
use Rattle.courier_core.proofs.Keeping.{name_cases}
use Rattle.courier_core.specs.declared.courier.Courier.{Courier}
use Rattle.courier_core.specs.declared.courier.Message.{Message}
use Rattle.courier_core.specs.declared.courier.Message.TheVariants as message
use Rattle.node_state.specs.declared.State.{State}
use Rattle.node_state.specs.declared.Sent.{Sent}
use Rattle.node_state.specs.declared.Waiting.{Waiting}
use Rattle.node_state.specs.Places.{queued}
use Rattle.node_state.specs.Wires.{posted}
use Rattle.cluster_state.specs.Cluster.{Cluster}
use Rattle.cluster_contents.specs.Placement.{Where, Ready, Parked, InLine, Wire, Item, CourierItem, ParkedItem}
use Rattle.cluster_moves.specs.Benches.{of_waiting, of_parked, with_message, out_to, stored, owner, flying, items_at, slots_at}
use Rattle.cluster_moves.proofs.Things.{AddsAt, Adds}

map-append : {X Y : Type 0} (f : X → Y) (xs ys : List X) → map f (xs ++ ys) ≡ map f xs ++ map f ys
map-append f [] ys = refl
map-append f (x ∷ xs) ys = ap (λ l. f x ∷ l) (map-append f xs ys)

message-append : (m : Message) (xs ys : List Item) → with_message m (xs ++ ys) ≡ with_message m xs ++ ys
message-append (message.Ride c) xs ys = refl
message-append (message.Put n h) xs ys = refl
message-append (message.Back image) xs ys = refl
message-append (message.Nudge p) xs ys = refl
message-append (message.Poke p) xs ys = refl

out-append : (l : ℕ) (xs ys : List Sent) → out_to l (xs ++ ys) ≡ out_to l xs ++ out_to l ys
out-append l [] ys = refl
out-append l (m ∷ ms) ys = go (m.to == l) (out-append l ms ys)
  where
    go : (b : Bool) → out_to l (ms ++ ys) ≡ out_to l ms ++ out_to l ys → cond b (with_message m.message (out_to l (ms ++ ys))) (out_to l (ms ++ ys)) ≡ cond b (with_message m.message (out_to l ms)) (out_to l ms) ++ out_to l ys
    go true rest = ap (with_message m.message) rest ∙ message-append m.message (out_to l ms) (out_to l ys)
    go false rest = rest

module _ (world : World) (C : Cluster) (k : ℕ) where
  abbrev pub at_node : State → ℕ → State
  at_node s j = cond (j == k) s (C.nodes j)

  here : (s : State) (j : ℕ) → j ≡ k → at_node s j ≡ s
  here s j e = ap (λ b. cond b s (C.nodes j)) (eq-eqb j k e)

  -- a container that this node keeps changes
  pub lifted : (s s' : State) (X : Where) (x : Item) → owner world.nodes X ≡ k → ((Y : Where) → owner world.nodes Y ≡ k → AddsAt world (stored s) (stored s') X x Y) → Adds world (items_at world.nodes C k s) (items_at world.nodes C k s') X x
  lifted s s' X x own local Y = go (owner world.nodes Y == k) refl
    where
      found : (owner world.nodes Y ≡ k) → AddsAt world (stored s) (stored s') X x Y → AddsAt world (items_at world.nodes C k s) (items_at world.nodes C k s') X x Y
      found mine (inl (bs, cs, e, before, now)) = inl (
        flying C.wires Y ++ bs,
        cs,
        e,
        ap (λ t. flying C.wires Y ++ stored t Y) (here s (owner world.nodes Y) mine) ∙ ap (λ l. flying C.wires Y ++ l) before ∙ sym (append_assoc (flying C.wires Y) bs cs),
        ap (λ t. flying C.wires Y ++ stored t Y) (here s' (owner world.nodes Y) mine) ∙ ap (λ l. flying C.wires Y ++ l) now ∙ sym (append_assoc (flying C.wires Y) bs (x ∷ cs)),
      )
      found mine (inr other) = inr (
        other.0,
        ap (λ t. flying C.wires Y ++ stored t Y) (here s' (owner world.nodes Y) mine) ∙ ap (λ l. flying C.wires Y ++ l) other.1 ∙ sym (ap (λ t. flying C.wires Y ++ stored t Y) (here s (owner world.nodes Y) mine)),
      )

      go : (b : Bool) → (owner world.nodes Y == k) ≡ b → AddsAt world (items_at world.nodes C k s) (items_at world.nodes C k s') X x Y
      go true e = let mine = eqb-true _ _ e in found mine (local Y mine)
      go false e = inr (
        (λ same. eqb-false _ _ e (ap (owner world.nodes) same ∙ own)),
        ap (λ b. flying C.wires Y ++ stored (cond b s' (C.nodes (owner world.nodes Y))) Y) e ∙ sym (ap (λ b. flying C.wires Y ++ stored (cond b s (C.nodes (owner world.nodes Y))) Y) e),
      )

  -- no container changes
  pub unchanged : (s s' : State) → ((Y : Where) → stored s' Y ≡ stored s Y) → (Y : Where) → items_at world.nodes C k s' Y ≡ items_at world.nodes C k s Y
  unchanged s s' local Y = go (owner world.nodes Y == k)
    where
      go : (b : Bool) → flying C.wires Y ++ stored (cond b s' (C.nodes (owner world.nodes Y))) Y ≡ flying C.wires Y ++ stored (cond b s (C.nodes (owner world.nodes Y))) Y
      go true = ap (λ l. flying C.wires Y ++ l) (local Y)
      go false = refl

  -- no slot changes
  pub slots_same : (s s' : State) → s'.slots ≡ s.slots → (n : Name) → slots_at world.nodes C k s' n ≡ slots_at world.nodes C k s n
  slots_same s s' e n = go (home n world.nodes == k)
    where
      go : (b : Bool) → slot_at (cond b s' (C.nodes (home n world.nodes))).slots n ≡ slot_at (cond b s (C.nodes (home n world.nodes))).slots n
      go true = ap (λ t. slot_at t n) e
      go false = refl

  -- ---- the ready queue
  pub ready_adds : (s : State) (w : Waiting) → Adds world (items_at world.nodes C k s) (items_at world.nodes C k (queued s w)) (Ready k) (of_waiting w)
  ready_adds s w = lifted s (queued s w) (Ready k) (of_waiting w) refl local
    where
      local : (Y : Where) → owner world.nodes Y ≡ k → AddsAt world (stored s) (stored (queued s w)) (Ready k) (of_waiting w) Y
      local (Ready j) e = inl (map of_waiting s.ready, [], ap Ready e, sym (append-nil (map of_waiting s.ready)), map-append of_waiting s.ready (w ∷ []))
      local (Parked j) e = inr ((λ h. cc), refl)
      local (InLine n) e = inr ((λ h. cc), refl)
      local (Wire i l) e = inr ((λ h. cc), refl)

  pub ready_takes : (s : State) (bs : List Waiting) (w : Waiting) (cs : List Waiting) → s.ready ≡ bs ++ w ∷ cs → Adds world (items_at world.nodes C k (record s { ready = bs ++ cs })) (items_at world.nodes C k s) (Ready k) (of_waiting w)
  ready_takes s bs w cs is = lifted (record s { ready = bs ++ cs }) s (Ready k) (of_waiting w) refl local
    where
      local : (Y : Where) → owner world.nodes Y ≡ k → AddsAt world (stored (record s { ready = bs ++ cs })) (stored s) (Ready k) (of_waiting w) Y
      local (Ready j) e = inl (map of_waiting bs, map of_waiting cs, ap Ready e, map-append of_waiting bs cs, ap (map of_waiting) is ∙ map-append of_waiting bs (w ∷ cs))
      local (Parked j) e = inr ((λ h. cc), refl)
      local (InLine n) e = inr ((λ h. cc), refl)
      local (Wire i l) e = inr ((λ h. cc), refl)

  -- ---- the outbox
  pub post_adds : (s : State) (to : ℕ) (m : Message) (x : Item) → with_message m [] ≡ x ∷ [] → Adds world (items_at world.nodes C k s) (items_at world.nodes C k (posted s to m)) (Wire k to) x
  post_adds s to m x carries = lifted s (posted s to m) (Wire k to) x refl local
    where
      at_wire : (i l : ℕ) → i ≡ k → (b : Bool) → (to == l) ≡ b → AddsAt world (stored s) (stored (posted s to m)) (Wire k to) x (Wire i l)
      at_wire i l e true t = inl (
        out_to l s.out,
        [],
        ap (λ j. Wire j l) e ∙ ap (λ j. Wire k j) (sym (eqb-true _ _ t)),
        sym (append-nil (out_to l s.out)),
        out-append l s.out _ ∙ ap (λ b. out_to l s.out ++ cond b (with_message m []) []) t ∙ ap (λ xs. out_to l s.out ++ xs) carries,
      )
      at_wire i l e false t = inr (
        (λ h. let same : l ≡ to = cc in eqb-false _ _ t (sym same)),
        out-append l s.out _ ∙ ap (λ b. out_to l s.out ++ cond b (with_message m []) []) t ∙ append-nil (out_to l s.out),
      )

      local : (Y : Where) → owner world.nodes Y ≡ k → AddsAt world (stored s) (stored (posted s to m)) (Wire k to) x Y
      local (Ready j) e = inr ((λ h. cc), refl)
      local (Parked j) e = inr ((λ h. cc), refl)
      local (InLine n) e = inr ((λ h. cc), refl)
      local (Wire i l) e = at_wire i l e (to == l) refl

  pub post_news : (s : State) (to : ℕ) (m : Message) → with_message m [] ≡ [] → (Y : Where) → items_at world.nodes C k (posted s to m) Y ≡ items_at world.nodes C k s Y
  post_news s to m carries = unchanged s (posted s to m) local
    where
      none : (b : Bool) → cond b (with_message m []) [] ≡ []
      none true = carries
      none false = refl

      local : (Y : Where) → stored (posted s to m) Y ≡ stored s Y
      local (Ready j) = refl
      local (Parked j) = refl
      local (InLine n) = refl
      local (Wire i l) = out-append l s.out _ ∙ ap (λ xs. out_to l s.out ++ xs) (none (to == l)) ∙ append-nil (out_to l s.out)

  -- ---- slots
  abbrev pub written : State → Name → Slot Held (Line Courier) → State
  written s n a = record s { slots = with_slot s.slots n a }

  pub slot_here : (s : State) (n : Name) → home n world.nodes ≡ k → slots_at world.nodes C k s n ≡ slot_at s.slots n
  slot_here s n e = ap (λ t. slot_at t.slots n) (here s (home n world.nodes) e)

  pub slot_others : (s : State) (n : Name) (a : Slot Held (Line Courier)) (m : Name) → m ≢ n → slots_at world.nodes C k (written s n a) m ≡ slots_at world.nodes C k s m
  slot_others s n a m ne = go (home m world.nodes == k)
    where
      go : (b : Bool) → slot_at (cond b (written s n a) (C.nodes (home m world.nodes))).slots m ≡ slot_at (cond b s (C.nodes (home m world.nodes))).slots m
      go true = slot_at-put_other s.slots n m a ne
      go false = refl

  -- a slot changes, and those who wait there stay
  pub write_same : (s : State) (n : Name) (a : Slot Held (Line Courier)) → (line_of (slot_at (with_slot s.slots n a) n)).waiters ≡ (line_of (slot_at s.slots n)).waiters →
      (Y : Where) → items_at world.nodes C k (written s n a) Y ≡ items_at world.nodes C k s Y
  write_same s n a same = unchanged s (written s n a) local
    where
      by_name : (m : Name) → (m ≡ n) ⊎ (m ≢ n) → map CourierItem (line_of (slot_at (with_slot s.slots n a) m)).waiters ≡ map CourierItem (line_of (slot_at s.slots m)).waiters
      by_name m (inl e) = ap (λ q. map CourierItem (line_of (slot_at (with_slot s.slots n a) q)).waiters) e ∙ ap (map CourierItem) same ∙ ap (λ q. map CourierItem (line_of (slot_at s.slots q)).waiters) (sym e)
      by_name m (inr ne) = ap (λ t. map CourierItem (line_of t).waiters) (slot_at-put_other s.slots n m a ne)

      local : (Y : Where) → stored (written s n a) Y ≡ stored s Y
      local (Ready j) = refl
      local (Parked j) = refl
      local (InLine m) = by_name m (name_cases m n)
      local (Wire i l) = refl

  -- a slot changes, and one more stands in its line, or one less where the two states are swapped
  pub line_changes : (s s' : State) (n : Name) (bs : List Courier) (c : Courier) (cs : List Courier) → home n world.nodes ≡ k →
      (line_of (slot_at s.slots n)).waiters ≡ bs ++ cs → (line_of (slot_at s'.slots n)).waiters ≡ bs ++ c ∷ cs → ((m : Name) → m ≢ n → slot_at s'.slots m ≡ slot_at s.slots m) →
      s'.ready ≡ s.ready → s'.parked ≡ s.parked → s'.out ≡ s.out → Adds world (items_at world.nodes C k s) (items_at world.nodes C k s') (InLine n) (CourierItem c)
  line_changes s s' n bs c cs at before now others ready parked out = lifted s s' (InLine n) (CourierItem c) at local
    where
      by_name : (m : Name) → (m ≡ n) ⊎ (m ≢ n) → AddsAt world (stored s) (stored s') (InLine n) (CourierItem c) (InLine m)
      by_name m (inl e) = inl (
        map CourierItem bs,
        map CourierItem cs,
        ap InLine e,
        ap (λ q. map CourierItem (line_of (slot_at s.slots q)).waiters) e ∙ ap (map CourierItem) before ∙ map-append CourierItem bs cs,
        ap (λ q. map CourierItem (line_of (slot_at s'.slots q)).waiters) e ∙ ap (map CourierItem) now ∙ map-append CourierItem bs (c ∷ cs),
      )
      by_name m (inr ne) = inr ((λ h. let same : m ≡ n = cc in ne same), ap (λ t. map CourierItem (line_of t).waiters) (others m ne))

      local : (Y : Where) → owner world.nodes Y ≡ k → AddsAt world (stored s) (stored s') (InLine n) (CourierItem c) Y
      local (Ready j) e = inr ((λ h. cc), ap (map of_waiting) ready)
      local (Parked j) e = inr ((λ h. cc), ap (map of_parked) parked)
      local (InLine m) e = by_name m (name_cases m n)
      local (Wire i l) e = inr ((λ h. cc), ap (out_to l) out)

  -- ---- parked images
  pub parked_adds : (s s' : State) (bs : List (Entry Image)) (e : Entry Image) (cs : List (Entry Image)) → s.parked ≡ bs ++ cs → s'.parked ≡ bs ++ e ∷ cs → s'.ready ≡ s.ready → s'.slots ≡ s.slots → s'.out ≡ s.out →
      Adds world (items_at world.nodes C k s) (items_at world.nodes C k s') (Parked k) (ParkedItem e.pid e.value)
  parked_adds s s' bs entry cs before now ready slots out = lifted s s' (Parked k) (ParkedItem entry.pid entry.value) refl local
    where
      local : (Y : Where) → owner world.nodes Y ≡ k → AddsAt world (stored s) (stored s') (Parked k) (ParkedItem entry.pid entry.value) Y
      local (Parked j) e = inl (map of_parked bs, map of_parked cs, ap Parked e, ap (map of_parked) before ∙ map-append of_parked bs cs, ap (map of_parked) now ∙ map-append of_parked bs (entry ∷ cs))
      local (Ready j) e = inr ((λ h. cc), ap (map of_waiting) ready)
      local (InLine n) e = inr ((λ h. cc), ap (λ t. map CourierItem (line_of (slot_at t n)).waiters) slots)
      local (Wire i l) e = inr ((λ h. cc), ap (out_to l) out)

-- ---- entries by pid
pub record IsBetween (es : List (Entry Image)) (p : Pid) (v : Image) : Type 0 where
  pub before : List (Entry Image)
  pub after : List (Entry Image)
  pub is : es ≡ before ++ (record { pid = p; value = v }) ∷ after
  pub less : without es p ≡ before ++ after

pub parked_there : (es : List (Entry Image)) (p : Pid) (v : Image) → value_at es p ≡ Some v → IsBetween es p v
parked_there [] p v e = cc
parked_there (x ∷ es) p v e = go (nat_lt x.pid.0 p.0) (x.pid.0 == p.0) refl refl e (parked_there es p v)
  where
    go : (b c : Bool) → nat_lt x.pid.0 p.0 ≡ b → (x.pid.0 == p.0) ≡ c → cond b (value_at es p) (cond c (Some x.value) None) ≡ Some v → (value_at es p ≡ Some v → IsBetween es p v) → IsBetween (x ∷ es) p v
    go true c less same h rest =
        let r = rest h in
        record {
          before = x ∷ r.before;
          after = r.after;
          is = ap (λ l. x ∷ l) r.is;
          less = ap (λ b. cond b (x ∷ without es p) (cond (x.pid.0 == p.0) es (x ∷ es))) less ∙ ap (λ l. x ∷ l) r.less;
        }
    go false true less same h rest =
        let val : x.value ≡ v = cc in
        let key : x.pid ≡ p = ap (λ (n : ℕ). record { 0 = n }) (eqb-true _ _ same) in
        record {
          before = [];
          after = es;
          is = ap (λ i. (record { pid = x.pid; value = i }) ∷ es) val ∙ ap (λ q. (record { pid = q; value = v }) ∷ es) key;
          less = ap (λ b. cond b (x ∷ without es p) (cond (x.pid.0 == p.0) es (x ∷ es))) less ∙ ap (λ b. cond b es (x ∷ es)) same;
        }
    go false false less same h rest = cc

pub record IsPut (es : List (Entry Image)) (p : Pid) (v : Image) : Type 0 where
  pub before : List (Entry Image)
  pub after : List (Entry Image)
  pub is : es ≡ before ++ after
  pub more : with_value es p v ≡ before ++ (record { pid = p; value = v }) ∷ after

pub parked_put : (es : List (Entry Image)) (p : Pid) (v : Image) → value_at es p ≡ None → IsPut es p v
parked_put [] p v e = record { before = []; after = []; is = refl; more = refl }
parked_put (x ∷ es) p v e = go (nat_lt x.pid.0 p.0) (x.pid.0 == p.0) refl refl e (parked_put es p v)
  where
    go : (b c : Bool) → nat_lt x.pid.0 p.0 ≡ b → (x.pid.0 == p.0) ≡ c → cond b (value_at es p) (cond c (Some x.value) None) ≡ None → (value_at es p ≡ None → IsPut es p v) → IsPut (x ∷ es) p v
    go true c less same h rest =
        let r = rest h in
        record {
          before = x ∷ r.before;
          after = r.after;
          is = ap (λ l. x ∷ l) r.is;
          more = ap (λ b. cond b (x ∷ with_value es p v) (cond (x.pid.0 == p.0) ((record { pid = p; value = v }) ∷ es) ((record { pid = p; value = v }) ∷ x ∷ es))) less ∙ ap (λ l. x ∷ l) r.more;
        }
    go false true less same h rest = cc
    go false false less same h rest = record {
      before = [];
      after = x ∷ es;
      is = refl;
      more = ap (λ b. cond b (x ∷ with_value es p v) (cond (x.pid.0 == p.0) ((record { pid = p; value = v }) ∷ es) ((record { pid = p; value = v }) ∷ x ∷ es))) less ∙ ap (λ b. cond b ((record { pid = p; value = v }) ∷ es) ((record { pid = p; value = v }) ∷ x ∷ es)) same;
    }
