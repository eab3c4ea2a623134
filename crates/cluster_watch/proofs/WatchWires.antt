-- the watch between turns and in them: what was sent goes to the wires, and a message comes off its wire
use Rattle.std.proofs.Common.{◌≡◌, ◌⊎◌, inl, inr, ◌==◌, ◌&&◌, ℕ, Bool, true, false, cond, List, [], ◌∷◌, ◌++◌, refl, sym, ap, ◌∙◌, subst}
use Rattle.std.proofs.lemmas.Bool.{eq-eqb, eqb-true}
use Rattle.unix_names.specs.declared.Pid.{Pid}
use Rattle.unix_names.specs.declared.Name.{Name}
use Rattle.unix_names.specs.declared.Name.TheVariants as name
use Rattle.unix_names.specs.Names.{home}
use Rattle.unix_calls.specs.declared.World.{World}
use Rattle.ordered_table.specs.Entries.{IsRising, has_value}
use Rattle.record_table.specs.Slots.{slot_at}
use Rattle.courier_core.specs.declared.courier.Message.{Message}
use Rattle.courier_core.specs.declared.courier.Message.TheVariants as message
use Rattle.node_state.specs.declared.State.{State}
use Rattle.node_state.specs.declared.Sent.{Sent}
use Rattle.cluster_state.specs.Cluster.{Cluster, with_wire, sends_to, delivered}
use Rattle.node_state.specs.Wires.{one_taken}
use Rattle.cluster_contents.specs.Placement.{Where, Wire, Contents, Item}
use Rattle.cluster_moves.specs.Benches.{stored, owner, flying, items_at, slots_at}
use Rattle.cluster_moves.specs.Benches.{items, slots}
use Rattle.cluster_watch.specs.Watched.{News, IsOn, GoesTo, IsFlying, From, IsComing, Flies, Leaves, state_at, slot_in, marked_in, items_in, Nudged as TellsHome, Marked as TellsSlot, Poked as TellsPlace, IsFine, ItemWatched, AllWatched, Watches, WatchesAt, AreWatched}
use Rattle.cluster_moves.proofs.Things.{Adds}
use Rattle.cluster_watch.proofs.Watching.{all_more, items_take, item_taken, told_on}
use Rattle.cluster_watch.proofs.WatchMoves.{OrTold}

on_left : (m : Message) (xs ys : List Sent) → IsOn m xs → IsOn m (xs ++ ys)
on_left m [] ys o = absurd o
on_left m (x ∷ xs) ys (inl e) = inl e
on_left m (x ∷ xs) ys (inr o) = inr (on_left m xs ys o)

on_right : (m : Message) (xs ys : List Sent) → IsOn m ys → IsOn m (xs ++ ys)
on_right m [] ys o = o
on_right m (x ∷ xs) ys o = inr (on_right m xs ys o)

-- what is to be sent to a node goes to its wire
sent_on : (l : ℕ) (m : Message) (xs : List Sent) → GoesTo l m xs → IsOn m (sends_to l xs)
sent_on l m [] g = g
sent_on l m (x ∷ xs) (inl e) = subst (λ b. IsOn m (cond b (x ∷ sends_to l xs) (sends_to l xs))) (sym (eq-eqb x.to l e.0)) (inl e.1)
sent_on l m (x ∷ xs) (inr g) = go (x.to == l) (sent_on l m xs g)
  where
    go : (b : Bool) → IsOn m (sends_to l xs) → IsOn m (cond b (x ∷ sends_to l xs) (sends_to l xs))
    go true o = inr o
    go false o = o

-- the same items, and no more to do
pub watches_across : (world : World) (W : Contents) (P P' : Pid → Type 0) (N N' : News) (wires wires' : ℕ → ℕ → List Sent) (G G' : ℕ → State) → Watches world W P N wires G → ((q : Pid) → IsFine world W P G N q → IsFine world W P' G' N' q) →
    ((j : ℕ) (q : Pid) → marked_in G j q ≡ true → marked_in G' j q ≡ true) → ((X : Where) → items_in world.nodes wires' G' X ≡ items_in world.nodes wires G X) → ((j : ℕ) → (G' j).parked ≡ (G j).parked) → ((j : ℕ) → (G' j).marks ≡ (G j).marks) → Watches world W P' N' wires' G'
watches_across world W P P' N N' wires wires' G G' w fine marks same parked marked = record {
  items = λ X. subst (AllWatched W (IsFine world W P' G' N') (marked_in G') X) (sym (same X)) (all_more W (IsFine world W P G N) (IsFine world W P' G' N') (marked_in G) (marked_in G') fine marks X (items_in world.nodes wires G X) (w.items X));
  parked_rise = λ j. subst IsRising (sym (parked j)) (w.parked_rise j);
  marks_rise = λ j. subst IsRising (sym (marked j)) (w.marks_rise j);
}

marks_as : (G G' : ℕ → State) → ((j : ℕ) → (G' j).marks ≡ (G j).marks) → (j : ℕ) (q : Pid) → marked_in G j q ≡ true → marked_in G' j q ≡ true
marks_as G G' same j q e = ap (λ l. has_value l q) (same j) ∙ e

-- who is told, where slots and news stay
fine_as : (world : World) (W : Contents) (P : Pid → Type 0) (N N' : News) (G G' : ℕ → State) → ((n : Name) → slot_in world.nodes G' n ≡ slot_in world.nodes G n) → ((l : ℕ) (m : Message) → N l m → N' l m) → (q : Pid) → IsFine world W P G N q → IsFine world W P G' N' q
fine_as world W P N N' G G' slots news q (inl a) = inl a
fine_as world W P N N' G G' slots news q (inr t) = inr (told_on world W (slot_in world.nodes G) (slot_in world.nodes G') N N' q news (λ line out is. (line, slots (name.V q) ∙ out, is)) t)

module _ (world : World) (C : Cluster) (k : ℕ) where
  -- before a turn of node k
  self : (j : ℕ) → state_at C k (C.nodes k) j ≡ C.nodes j
  self j = go (j == k) refl
    where
      go : (b : Bool) → (j == k) ≡ b → cond b (C.nodes k) (C.nodes j) ≡ C.nodes j
      go true e = ap C.nodes (sym (eqb-true _ _ e))
      go false e = refl

  comes_of : (l : ℕ) (m : Message) → IsFlying C l m → IsComing C (C.nodes k) l m
  comes_of l m (From i o) = Flies i o

  pub watch_before : (W : Contents) (P : Pid → Type 0) → AreWatched world C W P → WatchesAt world C k W P (C.nodes k)
  watch_before W P w = watches_across world W P P (IsFlying C) (IsComing C (C.nodes k)) C.wires C.wires C.nodes (state_at C k (C.nodes k)) w
      (fine_as world W P (IsFlying C) (IsComing C (C.nodes k)) C.nodes (state_at C k (C.nodes k)) (λ n. ap (λ t. slot_at t.slots n) (self (home n world.nodes))) comes_of)
      (marks_as C.nodes (state_at C k (C.nodes k)) (λ j. ap (λ (t : State). t.marks) (self j))) (λ X. ap (λ t. flying C.wires X ++ stored t X) (self (owner world.nodes X))) (λ j. ap (λ (t : State). t.parked) (self j)) (λ j. ap (λ (t : State). t.marks) (self j))

  -- after it
  flies_then : (s : State) (l : ℕ) (m : Message) → IsComing C s l m → IsFlying (delivered C k s) l m
  flies_then s l m (Flies i o) = From i (go (i == k))
    where
      go : (b : Bool) → IsOn m (cond b (C.wires i l ++ sends_to l s.out) (C.wires i l))
      go true = on_left m (C.wires i l) (sends_to l s.out) o
      go false = o
  flies_then s l m (Leaves g) = From k (subst (λ b. IsOn m (cond b (C.wires k l ++ sends_to l s.out) (C.wires k l))) (sym (eq-eqb k k refl)) (on_right m (C.wires k l) (sends_to l s.out) (sent_on l m s.out g)))

  pub watch_after : (W : Contents) (P : Pid → Type 0) (s : State) → ((X : Where) → items world.nodes (delivered C k s) X ≡ items_at world.nodes C k s X) → ((n : Name) → slots world.nodes (delivered C k s) n ≡ slots_at world.nodes C k s n) → WatchesAt world C k W P s → AreWatched world (delivered C k s) W P
  watch_after W P s same slots w = watches_across world W P P (IsComing C s) (IsFlying (delivered C k s)) C.wires (delivered C k s).wires (state_at C k s) (delivered C k s).nodes w
      (fine_as world W P (IsComing C s) (IsFlying (delivered C k s)) (state_at C k s) (delivered C k s).nodes slots (flies_then s)) (marks_as (state_at C k s) (delivered C k s).nodes (λ j. by_marks j (j == k))) same (λ j. by_parked j (j == k)) (λ j. by_marks j (j == k))
    where
      by_marks : (j : ℕ) (b : Bool) → (cond b (record s { out = [] }) (C.nodes j)).marks ≡ (cond b s (C.nodes j)).marks
      by_marks j true = refl
      by_marks j false = refl

      by_parked : (j : ℕ) (b : Bool) → (cond b (record s { out = [] }) (C.nodes j)).parked ≡ (cond b s (C.nodes j)).parked
      by_parked j true = refl
      by_parked j false = refl

  -- ---- a message comes off its wire
  module _ (from : ℕ) (first : Sent) (rest : List Sent) (is : C.wires from k ≡ first ∷ rest) where
    taken_same : (j : ℕ) → (state_at (with_wire C from k rest) k (one_taken (C.nodes k) from) j ≡ C.nodes j) ⊎ (j ≡ k)
    taken_same j = go (j == k) refl
      where
        go : (b : Bool) → (j == k) ≡ b → (cond b (one_taken (C.nodes k) from) (C.nodes j) ≡ C.nodes j) ⊎ (j ≡ k)
        go true e = inr (eqb-true _ _ e)
        go false e = inl refl

    same_parked : (j : ℕ) → (state_at (with_wire C from k rest) k (one_taken (C.nodes k) from) j).parked ≡ (C.nodes j).parked
    same_parked j = go (j == k) refl
      where
        go : (b : Bool) → (j == k) ≡ b → (cond b (one_taken (C.nodes k) from) (C.nodes j)).parked ≡ (C.nodes j).parked
        go true e = ap (λ i. (C.nodes i).parked) (sym (eqb-true _ _ e))
        go false e = refl

    same_marks : (j : ℕ) → (state_at (with_wire C from k rest) k (one_taken (C.nodes k) from) j).marks ≡ (C.nodes j).marks
    same_marks j = go (j == k) refl
      where
        go : (b : Bool) → (j == k) ≡ b → (cond b (one_taken (C.nodes k) from) (C.nodes j)).marks ≡ (C.nodes j).marks
        go true e = ap (λ i. (C.nodes i).marks) (sym (eqb-true _ _ e))
        go false e = refl

    same_slots : (n : Name) → slot_in world.nodes (state_at (with_wire C from k rest) k (one_taken (C.nodes k) from)) n ≡ slot_in world.nodes C.nodes n
    same_slots n = go (home n world.nodes == k) refl
      where
        go : (b : Bool) → (home n world.nodes == k) ≡ b → slot_at (cond b (one_taken (C.nodes k) from) (C.nodes (home n world.nodes))).slots n ≡ slot_at (C.nodes (home n world.nodes)).slots n
        go true e = ap (λ j. slot_at (C.nodes j).slots n) (sym (eqb-true _ _ e))
        go false e = refl

    -- what was on its way still is, or is this message
    still_flies : (l : ℕ) (m : Message) → IsFlying C l m → IsComing (with_wire C from k rest) (one_taken (C.nodes k) from) l m ⊎ ((l ≡ k) × (m ≡ first.message))
    still_flies l m (From i o) = go (i == from) (l == k) refl refl
      where
        go : (a b : Bool) → (i == from) ≡ a → (l == k) ≡ b → IsComing (with_wire C from k rest) (one_taken (C.nodes k) from) l m ⊎ ((l ≡ k) × (m ≡ first.message))
        go true true e f = by (subst (IsOn m) (ap (λ j. C.wires j l) (eqb-true _ _ e) ∙ ap (C.wires from) (eqb-true _ _ f) ∙ is) o)
          where
            by : IsOn m (first ∷ rest) → IsComing (with_wire C from k rest) (one_taken (C.nodes k) from) l m ⊎ ((l ≡ k) × (m ≡ first.message))
            by (inl same) = inr (eqb-true _ _ f, sym same)
            by (inr later) = inl (Flies i (subst (λ t. IsOn m (cond t rest (C.wires i l))) (sym (ap (λ t. t && (l == k)) e ∙ f)) later))
        go true false e f = inl (Flies i (subst (λ t. IsOn m (cond t rest (C.wires i l))) (sym (ap (λ t. t && (l == k)) e ∙ f)) o))
        go false b e f = inl (Flies i (subst (λ t. IsOn m (cond t rest (C.wires i l))) (sym (ap (λ t. t && (l == k)) e)) o))

    fine_off : (W : Contents) (P : Pid → Type 0) (q : Pid) → IsFine world W P C.nodes (IsFlying C) q →
        IsFine world W (OrTold world C k W P first.message) (state_at (with_wire C from k rest) k (one_taken (C.nodes k) from)) (IsComing (with_wire C from k rest) (one_taken (C.nodes k) from)) q
    fine_off W P q (inl a) = inl (inl a)
    fine_off W P q (inr (TellsSlot line out m)) = inr (TellsSlot line (same_slots (name.V q) ∙ out) m)
    fine_off W P q (inr (TellsHome m)) = elim (still_flies (home (name.V q) world.nodes) (message.Nudge q) m) [ inl n ↦ inr (TellsHome n) | inr h ↦ inl (inr (inl (h.1, h.0))) ]
    fine_off W P q (inr (TellsPlace v f m)) = elim (still_flies v.loc.0 (message.Poke q) m) [ inl n ↦ inr (TellsPlace v f n) | inr h ↦ inl (inr (inr (h.1, (v, f, h.0)))) ]

    abbrev Then : Contents → (Pid → Type 0) → Type 0
    Then W P = WatchesAt world (with_wire C from k rest) k W (OrTold world C k W P first.message) (one_taken (C.nodes k) from)

    -- news are no item
    pub watch_off_news : (W : Contents) (P : Pid → Type 0) → ((Y : Where) → items_at world.nodes (with_wire C from k rest) k (one_taken (C.nodes k) from) Y ≡ items world.nodes C Y) → AreWatched world C W P → WatchesAt world (with_wire C from k rest) k W (OrTold world C k W P first.message) (one_taken (C.nodes k) from)
    watch_off_news W P same w = watches_across world W P (OrTold world C k W P first.message) (IsFlying C) (IsComing (with_wire C from k rest) (one_taken (C.nodes k) from)) C.wires (with_wire C from k rest).wires C.nodes (state_at (with_wire C from k rest) k (one_taken (C.nodes k) from)) w
        (fine_off W P) (marks_as C.nodes (state_at (with_wire C from k rest) k (one_taken (C.nodes k) from)) same_marks) same same_parked same_marks

    abbrev pub FineOff : Contents → (Pid → Type 0) → Pid → Type 0
    FineOff W P = IsFine world W (OrTold world C k W P first.message) (state_at (with_wire C from k rest) k (one_taken (C.nodes k) from)) (IsComing (with_wire C from k rest) (one_taken (C.nodes k) from))

    all_off : (W : Contents) (P : Pid → Type 0) → AreWatched world C W P → (Y : Where) → AllWatched W (FineOff W P) (marked_in (state_at (with_wire C from k rest) k (one_taken (C.nodes k) from))) Y (items world.nodes C Y)
    all_off W P w Y = all_more W (IsFine world W P C.nodes (IsFlying C)) (FineOff W P) (marked_in C.nodes) (marked_in (state_at (with_wire C from k rest) k (one_taken (C.nodes k) from))) (fine_off W P)
        (marks_as C.nodes (state_at (with_wire C from k rest) k (one_taken (C.nodes k) from)) same_marks) Y (items world.nodes C Y) (w.items Y)

    -- the item goes with its message
    pub watch_off : (W : Contents) (P : Pid → Type 0) (x : Item) → Adds world (items_at world.nodes (with_wire C from k rest) k (one_taken (C.nodes k) from)) (items world.nodes C) (Wire from k) x → AreWatched world C W P →
        WatchesAt world (with_wire C from k rest) k W (OrTold world C k W P first.message) (one_taken (C.nodes k) from)
    watch_off W P x adds w = record {
      items = items_take world W (FineOff W P) (marked_in (state_at (with_wire C from k rest) k (one_taken (C.nodes k) from))) (items world.nodes C) (items_at world.nodes (with_wire C from k rest) k (one_taken (C.nodes k) from)) (Wire from k) x adds (all_off W P w);
      parked_rise = λ j. subst IsRising (sym (same_parked j)) (w.parked_rise j);
      marks_rise = λ j. subst IsRising (sym (same_marks j)) (w.marks_rise j);
    }

    pub item_off : (W : Contents) (P : Pid → Type 0) (x : Item) → Adds world (items_at world.nodes (with_wire C from k rest) k (one_taken (C.nodes k) from)) (items world.nodes C) (Wire from k) x → AreWatched world C W P →
        ItemWatched W (FineOff W P) (marked_in (state_at (with_wire C from k rest) k (one_taken (C.nodes k) from))) x (Wire from k)
    item_off W P x adds w = item_taken world W (FineOff W P) (marked_in (state_at (with_wire C from k rest) k (one_taken (C.nodes k) from))) (items world.nodes C) (items_at world.nodes (with_wire C from k rest) k (one_taken (C.nodes k) from)) (Wire from k) x adds (all_off W P w)
