-- each run of a cluster stands, is legal and follows the scripts
use Rattle.std.proofs.Common.{◌≡◌, ◌≢◌, ◌⊎◌, inl, inr, ◌<◌, ◌≤◌, arith, append_assoc, ◌==◌, ◌&&◌, ℕ, Bool, true, false, cond, List, [], ◌∷◌, ◌++◌, map, refl, sym, ap, ◌∙◌, subst, Option, None, Some, append-nil}
use Rattle.std.proofs.lemmas.Bool.{eqb-true, eqb-false}
use Rattle.unix_names.specs.declared.Pid.{Pid}
use Rattle.unix_names.specs.declared.Name.{Name}
use Rattle.unix_names.specs.Names.{home}
use Rattle.unix_calls.specs.declared.Entry.{Entry}
use Rattle.unix_calls.specs.declared.Turn.{Turn}
use Rattle.unix_calls.specs.declared.Turn.TheVariants.{Go, Push, Take, Auto}
use Rattle.unix_calls.specs.declared.World.{World}
use Rattle.unix_calls.specs.Valid.{IsValid}
use Rattle.unix_calls.specs.Calls.{IsEntry}
use Rattle.std.specs.Prelude.{All as AllOf}
use Rattle.std.proofs.lemmas.List.Elements.{All-push}
use Rattle.list_laws.proofs.Filters.{mapped_some}
use Rattle.proc_image.specs.Follows.{Running, first_running, after_entry, after_entries, Follows}
use Rattle.proc_image.proofs.FollowsLaws.{FollowsFrom-push, after_entries-push}
use Rattle.record_bag.specs.declared.Held.{Held}
use Rattle.record_table.specs.declared.slot.Slot.{Slot}
use Rattle.record_table.specs.declared.slot.Line.{Line}
use Rattle.record_table.specs.Places.{line_of}
use Rattle.record_table.specs.Slots.{slot_at}
use Rattle.courier_core.specs.declared.courier.Courier.{Courier}
use Rattle.courier_core.specs.declared.courier.Message.{Message}
use Rattle.courier_core.specs.declared.courier.Message.TheVariants as message
use Rattle.process_table.specs.declared.Row.{Row}
use Rattle.kernel_model.specs.Legal.{boot, after_all, IsLegal}
use Rattle.cluster_contents.specs.Histories.{with_entry}
use Rattle.history_laws.proofs.Histories.{table-push, legal-push}
use Rattle.node_state.specs.declared.State.{State}
use Rattle.node_state.specs.declared.Sent.{Sent}
use Rattle.node_core.specs.Advance.{Ask}
use Rattle.cluster_state.specs.Cluster.{Cluster, Turned, with_wire, sends_to, delivered, turned_at, took, turned}
use Rattle.node_core.specs.Turns.{going, pushed, led, came}
use Rattle.node_state.specs.Wires.{one_taken}
use Rattle.cluster_contents.specs.Placement.{Where, Ready, Parked, InLine, Wire, In, Hand, AtHome, Nowhere, Token, Proc, Rec, Places, moved, Contents, Item, CourierItem, ImageItem, RecordItem, token, carried_by, Occurs, Fits, ItemFits, SlotIs, Matches}
use Rattle.cluster_moves.specs.Benches.{of_waiting, of_parked, with_message, on_wire, out_to, stored, owner, flying, items_at, slots_at}
use Rattle.decide_law.specs.Vector.{IsVector}
use Rattle.decide_law.specs.Law.{next}
use Rattle.cluster_moves.specs.Benches.{items, slots}
use Rattle.cluster_stands.specs.Stands.{AreNodes, StandsBy}
use Rattle.cluster_state.specs.Possible.{IsInWorld, Does, Ran, somes}
use Rattle.cluster_moves.proofs.Things.{moved-same, moved-other, tok_cases, AddsAt, Adds, take_out, there, slots_proc, slots_away}
use Rattle.cluster_moves.proofs.Moves.{None_gone, lost_kept, Keeps, All, keeps_same, keeps_rec, keeps_inside, Bench, courier_on}
use Rattle.cluster_contents.proofs.Decided.{running_if}
use Rattle.cluster_contents.proofs.NamesKept.{NamesKept}
use Rattle.cluster_turns.proofs.Advances.{EntryIs, Outcome_is}
use Rattle.cluster_turns.proofs.Turns.{Picked, Arrived, Held_by, going_sets, pushed_sets, led_is, came_is}
use Rattle.proc_image.specs.declared.image.Image.{Image}
use Rattle.cluster_watch.specs.Watched.{WatchesAt, AreWatched, Rests, ImageWatched}
use Rattle.cluster_watch.proofs.Watching.{Fine, Marks}
use Rattle.cluster_watch.proofs.WatchMoves.{OrTold}
use Rattle.fork_laws.specs.Made.{made_by, made_if, made_from}
use Rattle.fork_laws.proofs.Made.{made-push}
use Rattle.cluster_watch.proofs.WatchWires.{watch_before, watch_after, watch_off_news, watch_off, item_off}

-- ---- wires
message-append : (m : Message) (xs ys : List Item) → with_message m (xs ++ ys) ≡ with_message m xs ++ ys
message-append (message.Ride c) xs ys = refl
message-append (message.Put n h) xs ys = refl
message-append (message.Back image) xs ys = refl
message-append (message.Nudge p) xs ys = refl
message-append (message.Poke p) xs ys = refl

wire-append : (xs ys : List Sent) → on_wire (xs ++ ys) ≡ on_wire xs ++ on_wire ys
wire-append [] ys = refl
wire-append (x ∷ xs) ys = ap (with_message x.message) (wire-append xs ys) ∙ message-append x.message (on_wire xs) (on_wire ys)

wire-sends : (l : ℕ) (xs : List Sent) → on_wire (sends_to l xs) ≡ out_to l xs
wire-sends l [] = refl
wire-sends l (x ∷ xs) = go (x.to == l) (wire-sends l xs)
  where
    go : (b : Bool) → on_wire (sends_to l xs) ≡ out_to l xs → on_wire (cond b (x ∷ sends_to l xs) (sends_to l xs)) ≡ cond b (with_message x.message (out_to l xs)) (out_to l xs)
    go true e = ap (with_message x.message) e
    go false e = e

matches_same : (world : World) (W : Contents) (L : Places) (F F' : Where → List Item) (S S' : Name → Slot Held (Line Courier)) → ((X : Where) → F' X ≡ F X) → ((n : Name) → S' n ≡ S n) → Matches world W L F S → Matches world W L F' S'
matches_same world W L F F' S S' items slots m = record {
  kinds = m.kinds;
  slots = λ n. subst (λ a. SlotIs (L (Rec n)) (W.what n) a) (sym (slots n)) (m.slots n);
  items = λ X. subst (λ l. Fits world W L X l) (sym (items X)) (m.items X);
  whole = λ t X at. subst (Occurs t) (sym (items X)) (m.whole t X at);
}

module _ (world : World) (C : Cluster) (k : ℕ) where
  self : (j : ℕ) → cond (j == k) (C.nodes k) (C.nodes j) ≡ C.nodes j
  self j = go (j == k) refl
    where
      go : (b : Bool) → (j == k) ≡ b → cond b (C.nodes k) (C.nodes j) ≡ C.nodes j
      go true e = ap C.nodes (sym (eqb-true _ _ e))
      go false e = refl

  -- a cluster between turns, with node k before its turn
  pub picked : (m : ℕ) (rows : List Row) (running : Running) (history : List Entry) (table_is : after_all world history ≡ rows) (far_is : after_entries world (first_running world) history ≡ running) (W : Contents) (L : Places) (valid : IsValid world) (ask : Ask) (vector : IsVector world.nodes ask) (names : NamesKept) (room : m < 999999) (inside : k < world.nodes) →
      StandsBy world m rows running C W L → AreWatched world C W (Rests world history) → Picked world valid ask vector names m room rows running history table_is far_is C k inside None_gone (Rests world history) W L (C.nodes k)
  picked m rows running history table_is far_is W L valid ask vector names room inside s w = record {
    bench = record {
      id = s.nodes.id k inside;
      nodes = s.nodes.nodes k inside;
      serial = s.nodes.serial k inside;
      matches = matches_same world W L (items world.nodes C) (items_at world.nodes C k (C.nodes k)) (slots world.nodes C) (slots_at world.nodes C k (C.nodes k))
          (λ X. ap (λ t. flying C.wires X ++ stored t X) (self (owner world.nodes X))) (λ n. ap (λ t. slot_at t.slots n) (self (home n world.nodes))) s.matches;
    };
    standing = s.standing;
    missing = s.missing;
    knows = s.knows;
    hands = s.idle;
    present = s.present;
    sane = s.sane;
    watch = watch_before world C k W (Rests world history) w;
  }

  -- what was sent goes to the wires
  delivered_items : (s : State) (X : Where) → items world.nodes (delivered C k s) X ≡ items_at world.nodes C k s X
  delivered_items s (Ready j) = go (j == k)
    where
      go : (b : Bool) → map of_waiting (cond b (record s { out = [] }) (C.nodes j)).ready ≡ map of_waiting (cond b s (C.nodes j)).ready
      go true = refl
      go false = refl
  delivered_items s (Parked j) = go (j == k)
    where
      go : (b : Bool) → map of_parked (cond b (record s { out = [] }) (C.nodes j)).parked ≡ map of_parked (cond b s (C.nodes j)).parked
      go true = refl
      go false = refl
  delivered_items s (InLine n) = go (home n world.nodes == k)
    where
      go : (b : Bool) → map CourierItem (line_of (slot_at (cond b (record s { out = [] }) (C.nodes (home n world.nodes))).slots n)).waiters ≡ map CourierItem (line_of (slot_at (cond b s (C.nodes (home n world.nodes))).slots n)).waiters
      go true = refl
      go false = refl
  delivered_items s (Wire i l) = go (i == k)
    where
      go : (b : Bool) → on_wire (cond b (C.wires i l ++ sends_to l s.out) (C.wires i l)) ++ out_to l (cond b (record s { out = [] }) (C.nodes i)).out ≡ on_wire (C.wires i l) ++ out_to l (cond b s (C.nodes i)).out
      go true = append-nil (on_wire (C.wires i l ++ sends_to l s.out)) ∙ wire-append (C.wires i l) (sends_to l s.out) ∙ ap (λ x. on_wire (C.wires i l) ++ x) (wire-sends l s.out)
      go false = refl

  delivered_slots : (s : State) (n : Name) → slots world.nodes (delivered C k s) n ≡ slots_at world.nodes C k s n
  delivered_slots s n = go (home n world.nodes == k)
    where
      go : (b : Bool) → slot_at (cond b (record s { out = [] }) (C.nodes (home n world.nodes))).slots n ≡ slot_at (cond b s (C.nodes (home n world.nodes))).slots n
      go true = refl
      go false = refl

  -- after the turn
  pub turned_stands : (m : ℕ) (rows : List Row) (running : Running) (history : List Entry) (W : Contents) (entry : Option Entry) (s : State) → k < world.nodes → AreNodes world W C → (o : Outcome_is world C k m rows running history W.serials entry s) →
      StandsBy world (made_if entry m) (next rows entry) (running_if world running entry) (delivered C k s) o.contents o.places
  turned_stands m rows running history W entry s inside nodes o = record {
    nodes = record {
      id = λ j lt. by_id j lt (j == k) refl;
      nodes = λ j lt. by_nodes j lt (j == k);
      serial = λ j lt. by_serial j lt (j == k) refl;
      outside = λ j le. by_outside j le (j == k) refl;
      out = λ j. by_out j (j == k);
    };
    matches = matches_same world o.contents o.places (items_at world.nodes C k s) (items world.nodes (delivered C k s)) (slots_at world.nodes C k s) (slots world.nodes (delivered C k s)) (delivered_items s) (delivered_slots s) b.matches;
    standing = (o.between).standing;
    missing = (o.between).missing;
    knows = (o.between).knows;
    idle = (o.between).idle;
    present = (o.between).present;
    sane = (o.between).sane;
  }
    where
      b : Bench world C k o.contents o.places s
      b = (o.between).bench

      by_id : (j : ℕ) → j < world.nodes → (t : Bool) → (j == k) ≡ t → (cond t (record s { out = [] }) (C.nodes j)).id ≡ j
      by_id j lt true e = (o.between).bench.id ∙ sym (eqb-true _ _ e)
      by_id j lt false e = nodes.id j lt

      by_nodes : (j : ℕ) → j < world.nodes → (t : Bool) → (cond t (record s { out = [] }) (C.nodes j)).nodes ≡ world.nodes
      by_nodes j lt true = (o.between).bench.nodes
      by_nodes j lt false = nodes.nodes j lt

      by_outside : (j : ℕ) → world.nodes ≤ j → (t : Bool) → (j == k) ≡ t → (cond t (record s { out = [] }) (C.nodes j)).ready ≡ []
      by_outside j le true e = let same = eqb-true j k e in absurd (omega (arith, le, same, inside))
      by_outside j le false e = nodes.outside j le

      by_out : (j : ℕ) (t : Bool) → (cond t (record s { out = [] }) (C.nodes j)).out ≡ []
      by_out j true = refl
      by_out j false = nodes.out j

      by_serial : (j : ℕ) → j < world.nodes → (t : Bool) → (j == k) ≡ t → (cond t (record s { out = [] }) (C.nodes j)).serial ≡ (o.contents).serials j
      by_serial j lt true e = (o.between).bench.serial ∙ ap (o.contents).serials (sym (eqb-true _ _ e))
      by_serial j lt false e = nodes.serial j lt ∙ sym (o.elsewhere j (eqb-false _ _ e))

  pub turned_watched : (m : ℕ) (rows : List Row) (running : Running) (history : List Entry) (W : Contents) (entry : Option Entry) (s : State) → (o : Outcome_is world C k m rows running history W.serials entry s) →
      AreWatched world (delivered C k s) o.contents (Rests world (with_entry history entry))
  turned_watched m rows running history W entry s o = watch_after world C k o.contents (Rests world (with_entry history entry)) s (delivered_items s) (delivered_slots s) (o.between).watch

-- ---- a message comes off its wire
module _ (world : World) (valid : IsValid world) (ask : Ask) (vector : IsVector world.nodes ask) (names : NamesKept) (m : ℕ) (room : m < 999999) (rows : List Row) (running : Running) (history : List Entry) (table_is : after_all world history ≡ rows) (far_is : after_entries world (first_running world) history ≡ running) (W : Contents) (L : Places) (C : Cluster) (k from : ℕ) (inside : k < world.nodes) (first : Sent) (rest : List Sent)
    (s : StandsBy world m rows running C W L) (watched : AreWatched world C W (Rests world history)) (is : C.wires from k ≡ first ∷ rest) where
  abbrev C0 : Cluster
  C0 = with_wire C from k rest

  abbrev s0 : State
  s0 = one_taken (C.nodes k) from

  stored_same : (Y : Where) → stored (cond (owner world.nodes Y == k) (one_taken (C.nodes k) from) (C.nodes (owner world.nodes Y))) Y ≡ stored (C.nodes (owner world.nodes Y)) Y
  stored_same Y = go (owner world.nodes Y == k) refl
    where
      local : (Y : Where) → stored (one_taken (C.nodes k) from) Y ≡ stored (C.nodes k) Y
      local (Ready j) = refl
      local (Parked j) = refl
      local (InLine n) = refl
      local (Wire i l) = refl

      go : (b : Bool) → (owner world.nodes Y == k) ≡ b → stored (cond b (one_taken (C.nodes k) from) (C.nodes (owner world.nodes Y))) Y ≡ stored (C.nodes (owner world.nodes Y)) Y
      go true e = local Y ∙ ap (λ j. stored (C.nodes j) Y) (sym (eqb-true _ _ e))
      go false e = refl

  slots_same_here : (n : Name) → slots_at world.nodes C0 k s0 n ≡ slots world.nodes C n
  slots_same_here n = go (home n world.nodes == k) refl
    where
      go : (b : Bool) → (home n world.nodes == k) ≡ b → slot_at (cond b (one_taken (C.nodes k) from) (C.nodes (home n world.nodes))).slots n ≡ slot_at (C.nodes (home n world.nodes)).slots n
      go true e = ap (λ j. slot_at (C.nodes j).slots n) (sym (eqb-true _ _ e))
      go false e = refl

  off : (x : Item) → ((xs : List Item) → with_message first.message xs ≡ x ∷ xs) → Adds world (items_at world.nodes C0 k s0) (items world.nodes C) (Wire from k) x
  off x carries (Ready j) = inr ((λ h. cc), sym (ap (λ l. [] ++ l) (stored_same (Ready j))))
  off x carries (Parked j) = inr ((λ h. cc), sym (ap (λ l. [] ++ l) (stored_same (Parked j))))
  off x carries (InLine n) = inr ((λ h. cc), sym (ap (λ l. [] ++ l) (stored_same (InLine n))))
  off x carries (Wire i l) = go (i == from) (l == k) refl refl
    where
      go : (a b : Bool) → (i == from) ≡ a → (l == k) ≡ b → AddsAt world (items_at world.nodes (with_wire C from k rest) k (one_taken (C.nodes k) from)) (items world.nodes C) (Wire from k) x (Wire i l)
      go true true e f =
          let at : Wire i l ≡ Wire from k = ap (λ j. Wire j l) (eqb-true _ _ e) ∙ ap (λ j. Wire from j) (eqb-true _ _ f) in
          inl (
            [],
            on_wire rest ++ stored (C.nodes i) (Wire i l),
            at,
            ap (λ t. on_wire (cond t rest (C.wires i l)) ++ stored (cond (i == k) (one_taken (C.nodes k) from) (C.nodes i)) (Wire i l)) (ap (λ t. t && (l == k)) e ∙ f) ∙ ap (λ x. on_wire rest ++ x) (stored_same (Wire i l)),
            ap (λ w. on_wire w ++ stored (C.nodes i) (Wire i l)) (ap (λ j. C.wires j l) (eqb-true _ _ e) ∙ ap (C.wires from) (eqb-true _ _ f) ∙ is) ∙ ap (λ xs. xs ++ stored (C.nodes i) (Wire i l)) (carries (on_wire rest)),
          )
      go true false e f = inr (
        (λ h. let same : l ≡ k = cc in eqb-false _ _ f same),
        sym (ap (λ t. on_wire (cond t rest (C.wires i l)) ++ stored (cond (i == k) (one_taken (C.nodes k) from) (C.nodes i)) (Wire i l)) (ap (λ t. t && (l == k)) e ∙ f) ∙ ap (λ x. on_wire (C.wires i l) ++ x) (stored_same (Wire i l))),
      )
      go false b e f = inr (
        (λ h. let same : i ≡ from = cc in eqb-false _ _ e same),
        sym (ap (λ t. on_wire (cond t rest (C.wires i l)) ++ stored (cond (i == k) (one_taken (C.nodes k) from) (C.nodes i)) (Wire i l)) (ap (λ t. t && (l == k)) e) ∙ ap (λ x. on_wire (C.wires i l) ++ x) (stored_same (Wire i l))),
      )

  off_nothing : ((xs : List Item) → with_message first.message xs ≡ xs) → (Y : Where) → items_at world.nodes C0 k s0 Y ≡ items world.nodes C Y
  off_nothing carries (Ready j) = ap (λ l. [] ++ l) (stored_same (Ready j))
  off_nothing carries (Parked j) = ap (λ l. [] ++ l) (stored_same (Parked j))
  off_nothing carries (InLine n) = ap (λ l. [] ++ l) (stored_same (InLine n))
  off_nothing carries (Wire i l) = go (i == from) (l == k) refl refl
    where
      go : (a b : Bool) → (i == from) ≡ a → (l == k) ≡ b → items_at world.nodes (with_wire C from k rest) k (one_taken (C.nodes k) from) (Wire i l) ≡ items world.nodes C (Wire i l)
      go true true e f =
          ap (λ t. on_wire (cond t rest (C.wires i l)) ++ stored (cond (i == k) (one_taken (C.nodes k) from) (C.nodes i)) (Wire i l)) (ap (λ t. t && (l == k)) e ∙ f) ∙ ap (λ x. on_wire rest ++ x) (stored_same (Wire i l))
          ∙ sym (ap (λ w. on_wire w ++ stored (C.nodes i) (Wire i l)) (ap (λ j. C.wires j l) (eqb-true _ _ e) ∙ ap (C.wires from) (eqb-true _ _ f) ∙ is) ∙ ap (λ xs. xs ++ stored (C.nodes i) (Wire i l)) (carries (on_wire rest)))
      go true false e f = ap (λ t. on_wire (cond t rest (C.wires i l)) ++ stored (cond (i == k) (one_taken (C.nodes k) from) (C.nodes i)) (Wire i l)) (ap (λ t. t && (l == k)) e ∙ f) ∙ ap (λ x. on_wire (C.wires i l) ++ x) (stored_same (Wire i l))
      go false b e f = ap (λ t. on_wire (cond t rest (C.wires i l)) ++ stored (cond (i == k) (one_taken (C.nodes k) from) (C.nodes i)) (Wire i l)) (ap (λ t. t && (l == k)) e) ∙ ap (λ x. on_wire (C.wires i l) ++ x) (stored_same (Wire i l))

  picked_by : (H : Token → Type 0) (P : Pid → Type 0) (M : Places) → WatchesAt world C0 k W P s0 → Matches world W M (items_at world.nodes C0 k s0) (slots_at world.nodes C0 k s0) → Keeps All L M → ((u : Token) → M u ≡ Hand → H u) → ((q : Pid) → M (Proc q) ≡ Nowhere → L (Proc q) ≡ Nowhere) → Picked world valid ask vector names m room rows running history table_is far_is C0 k inside H P W M s0
  picked_by H P M watch matches keeps hands lost = record {
    bench = record { id = s.nodes.id k inside; nodes = s.nodes.nodes k inside; serial = s.nodes.serial k inside; matches = matches };
    standing = s.standing;
    missing = λ q none. let w = s.missing q none in (keeps.nowhere q tt w.0, λ n. keeps.bags q tt (inr w.0) n (W.what n) ∙ w.1 n);
    knows = record { table = (s.knows).table; procs = (s.knows).procs; short_table = (s.knows).short_table; short_procs = (s.knows).short_procs; no_row = (s.knows).no_row; at_home = λ n u. keeps.homes n ((s.knows).at_home n u); least = (s.knows).least; few = (s.knows).few; short = (s.knows).short };
    hands = hands;
    present = λ q x is e. s.present q x is (lost q e);
    sane = keeps.sane s.sane;
    watch = watch;
  }

  one_in_hand : (t u : Token) → moved L t Hand u ≡ Hand → u ≡ t
  one_in_hand t u e = go (tok_cases t u)
    where
      go : (t ≡ u) ⊎ (t ≢ u) → u ≡ t
      go (inl same) = sym same
      go (inr ne) = absurd (s.idle u (sym (moved-other L t Hand u ne) ∙ e))

  off_proc : (x : Item) (p : Pid) (P : Pid → Type 0) → WatchesAt world C0 k W P s0 → token x ≡ Proc p → ((xs : List Item) → with_message first.message xs ≡ x ∷ xs) → (L (Proc p) ≡ In (Wire from k)) → Picked world valid ask vector names m room rows running history table_is far_is C0 k inside (λ u. u ≡ Proc p) P W (moved L (Proc p) Hand) s0
  off_proc x p P watch tok carries at =
      picked_by (λ u. u ≡ Proc p) P (moved L (Proc p) Hand) watch
      (subst (λ t. L t ≡ In (Wire from k) → Matches world W (moved L t Hand) (items_at world.nodes (with_wire C from k rest) k (one_taken (C.nodes k) from)) (slots_at world.nodes (with_wire C from k rest) k (one_taken (C.nodes k) from))) tok
      (λ at. take_out world W L (items world.nodes C) (items_at world.nodes C0 k s0) (slots world.nodes C) (slots_at world.nodes C0 k s0) (Wire from k) x Hand s.matches (λ Y e. cc) (off x carries) at
      (λ n e. let no_name : Proc p ≡ Rec n = sym tok ∙ e in cc)
      (λ n. subst (λ t. SlotIs (moved L t Hand (Rec n)) (W.what n) (slots_at world.nodes (with_wire C from k rest) k (one_taken (C.nodes k) from) n)) (sym tok) (slots_proc world W L (slots world.nodes C) (slots_at world.nodes C0 k s0) p Hand slots_same_here s.matches.slots n))) at)
      (keeps_inside L p (Wire from k) Hand tt at) (one_in_hand (Proc p)) (λ q e. (lost_kept L (Proc p) Hand (Proc q) (λ y. cc) e).0)

  found : (x : Item) → ((xs : List Item) → with_message first.message xs ≡ x ∷ xs) → ItemFits world W L (Wire from k) x
  found x carries = there world W L (items world.nodes C) (items_at world.nodes C0 k s0) (slots world.nodes C) (Wire from k) x s.matches (off x carries (Wire from k))

  abbrev Holding : Message → Token → Type 0
  Holding msg u = Held_by world valid ask vector names m room rows running history table_is far_is C0 k inside msg u

  abbrev ToldOr : Message → Pid → Type 0
  ToldOr msg = OrTold world (with_wire C from k rest) k W (Rests world history) msg

  -- the watch once the message is off its wire
  off_watch : (msg : Message) → first.message ≡ msg → (x : Item) → ((xs : List Item) → with_message first.message xs ≡ x ∷ xs) → WatchesAt world (with_wire C from k rest) k W (OrTold world (with_wire C from k rest) k W (Rests world history) msg) (one_taken (C.nodes k) from)
  off_watch msg e x carries = subst (λ t. WatchesAt world (with_wire C from k rest) k W (OrTold world (with_wire C from k rest) k W (Rests world history) t) (one_taken (C.nodes k) from)) e (watch_off world C k from first rest is W (Rests world history) x (off x carries) watched)

  off_news : (msg : Message) → first.message ≡ msg → ((xs : List Item) → with_message first.message xs ≡ xs) → WatchesAt world (with_wire C from k rest) k W (OrTold world (with_wire C from k rest) k W (Rests world history) msg) (one_taken (C.nodes k) from)
  off_news msg e carries = subst (λ t. WatchesAt world (with_wire C from k rest) k W (OrTold world (with_wire C from k rest) k W (Rests world history) t) (one_taken (C.nodes k) from)) e (watch_off_news world C k from first rest is W (Rests world history) (off_nothing carries) watched)

  off_image : (i : Image) → first.message ≡ message.Back i → ((xs : List Item) → with_message first.message xs ≡ ImageItem i ∷ xs) →
      ImageWatched W (Fine world (with_wire C from k rest) k W (OrTold world (with_wire C from k rest) k W (Rests world history) (message.Back i)) (one_taken (C.nodes k) from)) (Marks world (with_wire C from k rest) k (one_taken (C.nodes k) from)) i (Wire k k)
  off_image i e carries = subst (λ t. ImageWatched W (Fine world (with_wire C from k rest) k W (OrTold world (with_wire C from k rest) k W (Rests world history) t) (one_taken (C.nodes k) from)) (Marks world (with_wire C from k rest) k (one_taken (C.nodes k) from)) i (Wire k k)) e
      (item_off world C k from first rest is W (Rests world history) (ImageItem i) (off (ImageItem i) carries) watched)

  pub arrived : (M : Places) × Picked world valid ask vector names m room rows running history table_is far_is C0 k inside (Holding first.message) (OrTold world C0 k W (Rests world history) first.message) W M s0 × Arrived world valid ask vector names m room rows running history table_is far_is C0 k inside W M s0 first.message
  arrived = go first.message refl
    where
      go : (msg : Message) → first.message ≡ msg → (M : Places) × Picked world valid ask vector names m room rows running history table_is far_is (with_wire C from k rest) k inside (Holding msg) (OrTold world (with_wire C from k rest) k W (Rests world history) msg) W M (one_taken (C.nodes k) from) × Arrived world valid ask vector names m room rows running history table_is far_is (with_wire C from k rest) k inside W M (one_taken (C.nodes k) from) msg
      go (message.Ride c) e =
          let carries = (λ (xs : List Item). ap (λ t. with_message t xs) e) in
          let f = found (CourierItem c) carries in
          (moved L (Proc c.image.pid) Hand, off_proc (CourierItem c) c.image.pid (ToldOr (message.Ride c)) (off_watch (message.Ride c) e (CourierItem c) carries) refl carries f.0, (moved-same L (Proc c.image.pid) Hand, courier_on world C0 k W L c.image.pid Hand c f.1))
      go (message.Back i) e =
          let carries = (λ (xs : List Item). ap (λ t. with_message t xs) e) in
          let f = found (ImageItem i) carries in
          (moved L (Proc i.pid) Hand, off_proc (ImageItem i) i.pid (ToldOr (message.Back i)) (off_watch (message.Back i) e (ImageItem i) carries) refl carries f.0, (moved-same L (Proc i.pid) Hand, f.1, f.2, off_image i e carries))
      go (message.Put n h) e =
          let carries = (λ (xs : List Item). ap (λ t. with_message t xs) e) in
          let f = found (RecordItem n h) carries in
          let away : L (Rec n) ≢ AtHome = (λ a. let x : In (Wire from k) ≡ AtHome = sym f.0 ∙ a in cc) in (
            moved L (Rec n) Hand,
            picked_by (λ u. u ≡ Rec n) (ToldOr (message.Put n h)) (moved L (Rec n) Hand) (off_watch (message.Put n h) e (RecordItem n h) carries)
                (take_out world W L (items world.nodes C) (items_at world.nodes C0 k s0) (slots world.nodes C) (slots_at world.nodes C0 k s0) (Wire from k) (RecordItem n h) Hand s.matches (λ Y e. cc) (off (RecordItem n h) carries) f.0
                (λ i x p X at g. sym (ap (λ o. carried_by p o g) f.0))
                (λ i. subst (λ a. SlotIs (moved L (Rec n) Hand (Rec i)) (W.what i) a) (sym (slots_same_here i)) (slots_away world W L (slots world.nodes C) n Hand away (λ x. cc) s.matches.slots i)))
                (keeps_rec All L n Hand tt away (λ q o x g. sym (ap (λ o. carried_by q o g) f.0))) (one_in_hand (Rec n)) (λ q e. e),
            (moved-same L (Rec n) Hand, f.1, f.2),
          )
      go (message.Nudge p) e = (L, picked_by (λ u. ⊥) (ToldOr (message.Nudge p)) L (off_news (message.Nudge p) e (λ xs. ap (λ t. with_message t xs) e)) (matches_same world W L (items world.nodes C) (items_at world.nodes C0 k s0) (slots world.nodes C) (slots_at world.nodes C0 k s0) (off_nothing (λ xs. ap (λ t. with_message t xs) e)) slots_same_here s.matches) (keeps_same All L) s.idle (λ q e. e), tt)
      go (message.Poke p) e = (L, picked_by (λ u. ⊥) (ToldOr (message.Poke p)) L (off_news (message.Poke p) e (λ xs. ap (λ t. with_message t xs) e)) (matches_same world W L (items world.nodes C) (items_at world.nodes C0 k s0) (slots world.nodes C) (slots_at world.nodes C0 k s0) (off_nothing (λ xs. ap (λ t. with_message t xs) e)) slots_same_here s.matches) (keeps_same All L) s.idle (λ q e. e), tt)

-- ---- turns and runs
module _ (world : World) (valid : IsValid world) (ask : Ask) (vector : IsVector world.nodes ask) (names : NamesKept) where
  -- what a turn leaves
  pub record TurnIs (m : ℕ) (rows : List Row) (running : Running) (history : List Entry) (entry : Option Entry) (C : Cluster) : Type 0 where
    pub contents : Contents
    pub places : Places
    pub stands : StandsBy world (made_if entry m) (next rows entry) (running_if world running entry) C contents places
    pub watched : AreWatched world C contents (Rests world (with_entry history entry))
    pub entry_is : EntryIs world C 0 rows running entry

  entry_at : (C D : Cluster) (j k : ℕ) (rows : List Row) (running : Running) (o : Option Entry) → EntryIs world C j rows running o → EntryIs world D k rows running o
  entry_at C D j k rows running None e = tt
  entry_at C D j k rows running (Some x) e = e

  pub turn_is : (m : ℕ) (rows : List Row) (running : Running) (history : List Entry) (table_is : after_all world history ≡ rows) (far_is : after_entries world (first_running world) history ≡ running) (W : Contents) (L : Places) (C : Cluster) (n : ℕ) (turn : Turn) (r : Turned) → m < 999999 → StandsBy world m rows running C W L → AreWatched world C W (Rests world history) → IsInWorld world turn → turned world ask n C turn ≡ Some r → TurnIs m rows running history r.entry r.cluster
  turn_is m rows running history table_is far_is W L C n (Go k) r room s w inside e =
      let a = mapped_some (turned_at C k) (led world ask n (going world (C.nodes k))) r e in
      let o = led_is world valid ask vector names m room rows running history table_is far_is C k inside n W (going world (C.nodes k)) a.0 (going_sets world valid ask vector names m room rows running history table_is far_is C k inside W L (C.nodes k) (picked world C k m rows running history table_is far_is W L valid ask vector names room inside s w)) a.1 in
      subst (λ (x : Turned). TurnIs m rows running history x.entry x.cluster) (sym a.2)
      (record { contents = o.contents; places = o.places; stands = turned_stands world C k m rows running history W (a.0).entry (a.0).state inside s.nodes o; watched = turned_watched world C k m rows running history W (a.0).entry (a.0).state o; entry_is = entry_at C (delivered C k (a.0).state) k 0 rows running (a.0).entry o.entry_is })
  turn_is m rows running history table_is far_is W L C n (Push k to) r room s w inside e =
      let a = mapped_some (turned_at C k) (led world ask n (pushed (C.nodes k) (record { 0 = to }))) r e in
      let o = led_is world valid ask vector names m room rows running history table_is far_is C k inside.0 n W (pushed (C.nodes k) (record { 0 = to })) a.0 (pushed_sets world valid ask vector names m room rows running history table_is far_is C k inside.0 (record { 0 = to }) W L (C.nodes k) inside.1 (picked world C k m rows running history table_is far_is W L valid ask vector names room inside.0 s w)) a.1 in
      subst (λ (x : Turned). TurnIs m rows running history x.entry x.cluster) (sym a.2)
      (record { contents = o.contents; places = o.places; stands = turned_stands world C k m rows running history W (a.0).entry (a.0).state inside.0 s.nodes o; watched = turned_watched world C k m rows running history W (a.0).entry (a.0).state o; entry_is = entry_at C (delivered C k (a.0).state) k 0 rows running (a.0).entry o.entry_is })
  turn_is m rows running history table_is far_is W L C n (Take k from) r room s w inside e = go (C.wires from k) refl e
    where
      go : (wire : List Sent) → C.wires from k ≡ wire → took world ask n C k from wire ≡ Some r → TurnIs m rows running history r.entry r.cluster
      go [] is e = cc
      go (first ∷ rest) is e =
          let a = mapped_some (turned_at (with_wire C from k rest) k) (came world ask n (one_taken (C.nodes k) from) first.message) r e in
          let t = arrived world valid ask vector names m room rows running history table_is far_is W L C k from inside.0 first rest s w is in
          let o = came_is world valid ask vector names m room rows running history table_is far_is (with_wire C from k rest) k inside.0 n W t.0 (one_taken (C.nodes k) from) first.message a.0 t.1 t.2 a.1 in
          subst (λ (x : Turned). TurnIs m rows running history x.entry x.cluster) (sym a.2)
          (record {
            contents = o.contents;
            places = o.places;
            stands = turned_stands world (with_wire C from k rest) k m rows running history W (a.0).entry (a.0).state inside.0 (record { id = s.nodes.id; nodes = s.nodes.nodes; serial = s.nodes.serial; outside = s.nodes.outside; out = s.nodes.out }) o;
            watched = turned_watched world (with_wire C from k rest) k m rows running history W (a.0).entry (a.0).state o;
            entry_is = entry_at (with_wire C from k rest) (delivered (with_wire C from k rest) k (a.0).state) k 0 rows running (a.0).entry o.entry_is;
          })
  turn_is m rows running history table_is far_is W L C n (Auto count) r room s w inside e = absurd inside

  -- the cluster stands for its history, which is legal and follows the scripts
  pub record IsRight (m : ℕ) (C : Cluster) (history : List Entry) : Type 0 where
    pub contents : Contents
    pub places : Places
    pub stands : StandsBy world m (after_all world history) (after_entries world (first_running world) history) C contents places
    pub watched : AreWatched world C contents (Rests world history)
    pub legal : IsLegal world history
    pub follows : Follows world history
    pub written : AllOf IsEntry history

  right_after : (m : ℕ) (C : Cluster) (history : List Entry) (entry : Option Entry) → IsLegal world history → Follows world history → AllOf IsEntry history →
      TurnIs m (after_all world history) (after_entries world (first_running world) history) history entry C → IsRight (made_if entry m) C (with_entry history entry)
  right_after m C history None legal follows written t = record { contents = t.contents; places = t.places; stands = t.stands; watched = t.watched; legal = legal; follows = follows; written = written }
  right_after m C history (Some e) legal follows written t = record {
    contents = t.contents;
    places = t.places;
    stands = subst (λ far. StandsBy world (made_by e m) (after_all world (history ++ e ∷ [])) far C t.contents t.places) (sym (after_entries-push world (first_running world) history e))
        (subst (λ rows. StandsBy world (made_by e m) rows (after_entry world (after_entries world (first_running world) history) e) C t.contents t.places) (sym (table-push (boot world) history e)) t.stands);
    watched = t.watched;
    legal = legal-push (boot world) history e legal (t.entry_is).0;
    follows = FollowsFrom-push world (first_running world) history e follows (t.entry_is).1;
    written = All-push IsEntry history e written (t.entry_is).2;
  }

  -- one turn of a cluster that is right
  pub does_right : (little : (history : List Entry) → Follows world history → made_from 66 history < 999999) (C : Cluster) (history : List Entry) (turn : Turn) (r : Turned) → IsRight (made_from 66 history) C history → Does world ask C turn r → IsRight (made_from 66 (with_entry history r.entry)) r.cluster (with_entry history r.entry)
  does_right little C history turn r right d =
      let m = made_from 66 history in
      let t = turn_is m (after_all world history) (after_entries world (first_running world) history) history refl refl right.contents right.places C d.questions turn r (little history right.follows) right.stands right.watched d.inside d.is in
      subst (λ k. IsRight k r.cluster (with_entry history r.entry)) (sym (made_next history r.entry)) (right_after m r.cluster history r.entry right.legal right.follows right.written t)
    where
      made_next : (history : List Entry) (o : Option Entry) → made_from 66 (with_entry history o) ≡ made_if o (made_from 66 history)
      made_next history None = refl
      made_next history (Some e) = made-push 66 history e

  next_history : (history : List Entry) (o : Option Entry) (rest : List (Option Entry)) → with_entry history o ++ somes rest ≡ history ++ somes (o ∷ rest)
  next_history history None rest = refl
  next_history history (Some e) rest = append_assoc history (e ∷ []) (somes rest)

  -- each run from a cluster that is right, if no history makes too many processes
  pub runs_right : (little : (history : List Entry) → Follows world history → made_from 66 history < 999999) (C : Cluster) (history : List Entry) (turns : List Turn) (C' : Cluster) (entries : List (Option Entry)) →
      IsRight (made_from 66 history) C history → Ran world ask C turns C' entries → IsRight (made_from 66 (history ++ somes entries)) C' (history ++ somes entries)
  runs_right little C history [] C' entries right (same, empty) =
      subst (λ D. IsRight (made_from 66 (history ++ somes entries)) D (history ++ somes entries)) (sym same)
      (subst (λ h. IsRight (made_from 66 h) C h) (sym (ap (λ es. history ++ somes es) empty ∙ append-nil history)) right)
  runs_right little C history (turn ∷ turns) C' entries right (r, d, rest, is, ran) =
      subst (λ es. IsRight (made_from 66 (history ++ somes es)) C' (history ++ somes es)) (sym is)
      (subst (λ h. IsRight (made_from 66 h) C' h) (next_history history r.entry rest)
      (runs_right little r.cluster (with_entry history r.entry) turns C' rest (does_right little C history turn r right d) ran))
