-- images that are watched: what a change of one container, of marks and of news leaves
use Rattle.std.proofs.Common.{◌≡◌, ◌≢◌, ◌⊎◌, inl, inr, ◌==◌, ℕ, Bool, true, false, cond, List, [], ◌∷◌, ◌++◌, refl, sym, ap, ◌∙◌, subst, Some}
use Rattle.std.proofs.lemmas.Bool.{eq-eqb}
use Rattle.unix_names.specs.declared.Pid.{Pid}
use Rattle.unix_names.specs.declared.Name.{Name}
use Rattle.unix_names.specs.declared.Name.TheVariants as name
use Rattle.unix_names.specs.Names.{home}
use Rattle.unix_calls.specs.declared.Phase.{Phase}
use Rattle.unix_calls.specs.declared.Phase.TheVariants as phases
use Rattle.unix_calls.specs.declared.World.{World}
use Rattle.ordered_table.specs.Entries.{IsRising, has_value}
use Rattle.record_bag.specs.declared.Held.{Held}
use Rattle.record_table.specs.declared.slot.Slot.{Slot}
use Rattle.record_table.specs.declared.slot.Slot.TheVariants.{Out}
use Rattle.record_table.specs.declared.slot.Line.{Line}
use Rattle.record_table.specs.Slots.{slot_at, with_slot}
use Rattle.record_table.proofs.SlotLaws.{slot_at-put_other}
use Rattle.courier_core.specs.declared.courier.Courier.{Courier}
use Rattle.courier_core.specs.declared.courier.Message.{Message}
use Rattle.node_state.specs.declared.State.{State}
use Rattle.node_state.specs.declared.Sent.{Sent}
use Rattle.node_state.specs.Wires.{posted}
use Rattle.cluster_state.specs.Cluster.{Cluster}
use Rattle.cluster_contents.specs.Placement.{Where, Ready, Parked, InLine, Wire, In, Proc, Places, Contents, View, view, Item, CourierItem, ImageItem, ParkedItem, RecordItem, ItemFits, Fits}
use Rattle.cluster_moves.specs.Benches.{items_at, slots_at}
use Rattle.cluster_watch.specs.Watched.{News, GoesTo, IsComing, Flies, Leaves, state_at, slot_in, marked_in, IsTold, Nudged, Marked, Poked, IsFine, IsAt, IfRests, ItemWatched, AllWatched, WatchesAt}
use Rattle.cluster_moves.proofs.Things.{AddsAt, Adds}
use Rattle.courier_core.proofs.Keeping.{name_cases}
use Rattle.cluster_moves.proofs.Moves.{Bench}

-- ---- lists of items
pub all_put : (W : Contents) (T : Pid → Type 0) (M : ℕ → Pid → Bool) (X : Where) (bs cs : List Item) (x : Item) → AllWatched W T M X (bs ++ cs) → ItemWatched W T M x X → AllWatched W T M X (bs ++ x ∷ cs)
all_put W T M X [] cs x a i = (i, a)
all_put W T M X (b ∷ bs) cs x a i = (a.0, all_put W T M X bs cs x a.1 i)

pub all_take : (W : Contents) (T : Pid → Type 0) (M : ℕ → Pid → Bool) (X : Where) (bs cs : List Item) (x : Item) → AllWatched W T M X (bs ++ x ∷ cs) → ItemWatched W T M x X × AllWatched W T M X (bs ++ cs)
all_take W T M X [] cs x a = (a.0, a.1)
all_take W T M X (b ∷ bs) cs x a = let r = all_take W T M X bs cs x a.1 in (r.0, (a.0, r.1))

-- ---- what is said of each process in a container
pub record Carries (W W' : Contents) (L : Places) (T T' : Pid → Type 0) (M M' : ℕ → Pid → Bool) : Type 0 where
  pub at : (q : Pid) (X : Where) (k : ℕ) (x : View) → L (Proc q) ≡ In X → W.proc q ≡ Some x → IsAt W q k → IsAt W' q k
  pub parked : (q : Pid) (k : ℕ) (x : View) → L (Proc q) ≡ In (Parked k) → W.proc q ≡ Some x → IsAt W q k → T q → T' q
  pub comes : (q : Pid) (j k : ℕ) (x : View) → L (Proc q) ≡ In (Wire j k) → W.proc q ≡ Some x → IsAt W q k → (T q ⊎ (M k q ≡ true)) → (T' q ⊎ (M' k q ≡ true))

pub if_rests : (ph : Phase) (P Q : Type 0) → (P → Q) → IfRests ph P → IfRests ph Q
if_rests phases.Ready P Q f h = tt
if_rests phases.Asleep P Q f h = f h
if_rests phases.Stopped P Q f h = f h
if_rests phases.Gone P Q f h = h

module _ (world : World) where
  item_on : (W W' : Contents) (L : Places) (T T' : Pid → Type 0) (M M' : ℕ → Pid → Bool) → Carries W W' L T T' M M' → (y : Item) (X : Where) → ItemFits world W L X y → ItemWatched W T M y X → ItemWatched W' T' M' y X
  item_on W W' L T T' M M' c (CourierItem x) X f i = tt
  item_on W W' L T T' M M' c (RecordItem n h) X f i = tt
  item_on W W' L T T' M M' c (ImageItem i) (Ready j) f w = tt
  item_on W W' L T T' M M' c (ImageItem i) (Parked j) f w = tt
  item_on W W' L T T' M M' c (ImageItem i) (InLine n) f w = tt
  item_on W W' L T T' M M' c (ImageItem i) (Wire j k) f w = (
    c.at i.pid (Wire j k) k (view i) f.0 f.1 w.0,
    if_rests i.phase (T i.pid ⊎ (M k i.pid ≡ true)) (T' i.pid ⊎ (M' k i.pid ≡ true)) (c.comes i.pid j k (view i) f.0 f.1 w.0) w.1,
  )
  item_on W W' L T T' M M' c (ParkedItem q i) (Ready j) f w = tt
  item_on W W' L T T' M M' c (ParkedItem q i) (InLine n) f w = tt
  item_on W W' L T T' M M' c (ParkedItem q i) (Wire j k) f w = tt
  item_on W W' L T T' M M' c (ParkedItem q i) (Parked k) f w =
      let is : W.proc q ≡ Some (view i) = ap W.proc (sym f.1) ∙ f.2 in
      (c.at q (Parked k) k (view i) f.0 is w.0, w.1, c.parked q k (view i) f.0 is w.0 w.2)

  pub all_on : (W W' : Contents) (L : Places) (T T' : Pid → Type 0) (M M' : ℕ → Pid → Bool) → Carries W W' L T T' M M' → (X : Where) (xs : List Item) → Fits world W L X xs → AllWatched W T M X xs → AllWatched W' T' M' X xs
  all_on W W' L T T' M M' c X [] f a = tt
  all_on W W' L T T' M M' c X (x ∷ xs) f a = (item_on W W' L T T' M M' c x X f.0 a.0, all_on W W' L T T' M M' c X xs f.2 a.1)

  pub items_put : (W : Contents) (T : Pid → Type 0) (M : ℕ → Pid → Bool) (F F' : Where → List Item) (X : Where) (x : Item) → Adds world F F' X x → ItemWatched W T M x X → ((Y : Where) → AllWatched W T M Y (F Y)) → (Y : Where) → AllWatched W T M Y (F' Y)
  items_put W T M F F' X x adds i a Y = go (adds Y)
    where
      go : AddsAt world F F' X x Y → AllWatched W T M Y (F' Y)
      go (inl (bs, cs, here, before, now)) = subst (AllWatched W T M Y) (sym now) (all_put W T M Y bs cs x (subst (AllWatched W T M Y) before (a Y)) (subst (ItemWatched W T M x) (sym here) i))
      go (inr other) = subst (AllWatched W T M Y) (sym other.1) (a Y)

  pub items_take : (W : Contents) (T : Pid → Type 0) (M : ℕ → Pid → Bool) (F F' : Where → List Item) (X : Where) (x : Item) → Adds world F' F X x → ((Y : Where) → AllWatched W T M Y (F Y)) → (Y : Where) → AllWatched W T M Y (F' Y)
  items_take W T M F F' X x adds a Y = go (adds Y)
    where
      go : AddsAt world F' F X x Y → AllWatched W T M Y (F' Y)
      go (inl (bs, cs, here, now, before)) = subst (AllWatched W T M Y) (sym now) (all_take W T M Y bs cs x (subst (AllWatched W T M Y) before (a Y))).1
      go (inr other) = subst (AllWatched W T M Y) other.1 (a Y)

  -- what is said of the item that is taken
  pub item_taken : (W : Contents) (T : Pid → Type 0) (M : ℕ → Pid → Bool) (F F' : Where → List Item) (X : Where) (x : Item) → Adds world F' F X x → ((Y : Where) → AllWatched W T M Y (F Y)) → ItemWatched W T M x X
  item_taken W T M F F' X x adds a = go (adds X)
    where
      go : AddsAt world F' F X x X → ItemWatched W T M x X
      go (inl (bs, cs, here, now, before)) = (all_take W T M X bs cs x (subst (AllWatched W T M X) before (a X))).0
      go (inr other) = absurd (other.0 refl)

-- with nothing known of places
item_more : (W : Contents) (T T' : Pid → Type 0) (M M' : ℕ → Pid → Bool) → ((q : Pid) → T q → T' q) → ((j : ℕ) (q : Pid) → M j q ≡ true → M' j q ≡ true) → (y : Item) (X : Where) → ItemWatched W T M y X → ItemWatched W T' M' y X
item_more W T T' M M' t m (CourierItem x) X i = tt
item_more W T T' M M' t m (RecordItem n h) X i = tt
item_more W T T' M M' t m (ImageItem i) (Ready j) w = tt
item_more W T T' M M' t m (ImageItem i) (Parked j) w = tt
item_more W T T' M M' t m (ImageItem i) (InLine n) w = tt
item_more W T T' M M' t m (ImageItem i) (Wire j k) w = (w.0, if_rests i.phase (T i.pid ⊎ (M k i.pid ≡ true)) (T' i.pid ⊎ (M' k i.pid ≡ true)) (λ h. elim h [ inl a ↦ inl (t i.pid a) | inr b ↦ inr (m k i.pid b) ]) w.1)
item_more W T T' M M' t m (ParkedItem q i) (Ready j) w = tt
item_more W T T' M M' t m (ParkedItem q i) (InLine n) w = tt
item_more W T T' M M' t m (ParkedItem q i) (Wire j k) w = tt
item_more W T T' M M' t m (ParkedItem q i) (Parked k) w = (w.0, w.1, t q w.2)

pub all_more : (W : Contents) (T T' : Pid → Type 0) (M M' : ℕ → Pid → Bool) → ((q : Pid) → T q → T' q) → ((j : ℕ) (q : Pid) → M j q ≡ true → M' j q ≡ true) → (X : Where) (xs : List Item) → AllWatched W T M X xs → AllWatched W T' M' X xs
all_more W T T' M M' t m X [] a = tt
all_more W T T' M M' t m X (x ∷ xs) a = (item_more W T T' M M' t m x X a.0, all_more W T T' M M' t m X xs a.1)

-- ---- news and marks that grow
pub told_on : (world : World) (W : Contents) (S S' : Name → Slot Held (Line Courier)) (N N' : News) (q : Pid) → ((l : ℕ) (m : Message) → N l m → N' l m) →
    ((line : Line Courier) → S (name.V q) ≡ Out line → line.is_marked ≡ true → (line' : Line Courier) × (S' (name.V q) ≡ Out line') × (line'.is_marked ≡ true)) → IsTold world W S N q → IsTold world W S' N' q
told_on world W S S' N N' q news slots (Nudged n) = Nudged (news _ _ n)
told_on world W S S' N N' q news slots (Marked line out is) = let r = slots line out is in Marked r.0 r.1 r.2
told_on world W S S' N N' q news slots (Poked v is n) = Poked v is (news _ _ n)

pub goes_later : (l : ℕ) (m : Message) (xs ys : List Sent) → GoesTo l m xs → GoesTo l m (xs ++ ys)
goes_later l m [] ys g = absurd g
goes_later l m (x ∷ xs) ys (inl e) = inl e
goes_later l m (x ∷ xs) ys (inr g) = inr (goes_later l m xs ys g)

pub goes_last : (xs : List Sent) (x : Sent) → GoesTo x.to x.message (xs ++ x ∷ [])
goes_last [] x = inl (refl, refl)
goes_last (y ∷ ys) x = inr (goes_last ys x)

module _ (world : World) (C : Cluster) (k : ℕ) where
  abbrev pub Coming : State → News
  Coming s = IsComing C s

  abbrev pub Fine : Contents → (Pid → Type 0) → State → Pid → Type 0
  Fine W P s q = IsFine world W P (state_at C k s) (IsComing C s) q

  abbrev pub Marks : State → ℕ → Pid → Bool
  Marks s = marked_in (state_at C k s)

  -- no news, no slot's mark and no mark is lost
  pub record More (s s' : State) : Type 0 where
    pub news : (l : ℕ) (m : Message) → IsComing C s l m → IsComing C s' l m
    pub slots : (q : Pid) (line : Line Courier) → slots_at world.nodes C k s (name.V q) ≡ Out line → line.is_marked ≡ true → (line' : Line Courier) × (slots_at world.nodes C k s' (name.V q) ≡ Out line') × (line'.is_marked ≡ true)
    pub marks : (j : ℕ) (q : Pid) → Marks s j q ≡ true → Marks s' j q ≡ true

  pub told_more : (W : Contents) (s s' : State) (q : Pid) → More s s' → IsTold world W (slot_in world.nodes (state_at C k s)) (IsComing C s) q → IsTold world W (slot_in world.nodes (state_at C k s')) (IsComing C s') q
  told_more W s s' q m t = told_on world W (slot_in world.nodes (state_at C k s)) (slot_in world.nodes (state_at C k s')) (IsComing C s) (IsComing C s') q m.news (m.slots q) t

  pub fine_more : (W : Contents) (P : Pid → Type 0) (s s' : State) (q : Pid) → More s s' → Fine W P s q → Fine W P s' q
  fine_more W P s s' q m (inl p) = inl p
  fine_more W P s s' q m (inr t) = inr (told_more W s s' q m t)

  -- the messages of the outbox stay
  pub news_kept : (s s' : State) → s'.out ≡ s.out → (l : ℕ) (m : Message) → IsComing C s l m → IsComing C s' l m
  news_kept s s' same l m (Flies i f) = Flies i f
  news_kept s s' same l m (Leaves g) = Leaves (subst (GoesTo l m) (sym same) g)

  pub news_posted : (s : State) (to : ℕ) (msg : Message) (l : ℕ) (m : Message) → IsComing C s l m → IsComing C (posted s to msg) l m
  news_posted s to msg l m (Flies i f) = Flies i f
  news_posted s to msg l m (Leaves g) = Leaves (goes_later l m s.out _ g)

  pub slots_kept : (s s' : State) → s'.slots ≡ s.slots → (q : Pid) (line : Line Courier) → slots_at world.nodes C k s (name.V q) ≡ Out line → line.is_marked ≡ true → (line' : Line Courier) × (slots_at world.nodes C k s' (name.V q) ≡ Out line') × (line'.is_marked ≡ true)
  slots_kept s s' same q line out is = (line, go (home (name.V q) world.nodes == k) out, is)
    where
      go : (b : Bool) → slot_at (cond b s (C.nodes (home (name.V q) world.nodes))).slots (name.V q) ≡ Out line → slot_at (cond b s' (C.nodes (home (name.V q) world.nodes))).slots (name.V q) ≡ Out line
      go true e = ap (λ t. slot_at t (name.V q)) same ∙ e
      go false e = e

  pub marks_kept : (s s' : State) → s'.marks ≡ s.marks → (j : ℕ) (q : Pid) → Marks s j q ≡ true → Marks s' j q ≡ true
  marks_kept s s' same j q = go (j == k)
    where
      go : (b : Bool) → has_value (cond b s (C.nodes j)).marks q ≡ true → has_value (cond b s' (C.nodes j)).marks q ≡ true
      go true e = ap (λ t. has_value t q) same ∙ e
      go false e = e

  pub more_same : (s s' : State) → s'.out ≡ s.out → s'.slots ≡ s.slots → s'.marks ≡ s.marks → More s s'
  more_same s s' out slots marks = record { news = news_kept s s' out; slots = slots_kept s s' slots; marks = marks_kept s s' marks }

  pub more_posted : (s : State) (to : ℕ) (msg : Message) → More s (posted s to msg)
  more_posted s to msg = record { news = news_posted s to msg; slots = slots_kept s (posted s to msg) refl; marks = marks_kept s (posted s to msg) refl }

  -- a slot is written, and its mark stays
  pub more_written : (s s' : State) (n : Name) (a : Slot Held (Line Courier)) → s'.slots ≡ with_slot s.slots n a → s'.out ≡ s.out → s'.marks ≡ s.marks →
      ((line : Line Courier) → slot_at s.slots n ≡ Out line → line.is_marked ≡ true → (line' : Line Courier) × (slot_at (with_slot s.slots n a) n ≡ Out line') × (line'.is_marked ≡ true)) → More s s'
  more_written s s' n a slots out marks keep = record { news = news_kept s s' out; slots = λ q line e is. by q line (home (name.V q) world.nodes == k) e is; marks = marks_kept s s' marks }
    where
      at : (q : Pid) (line : Line Courier) → (name.V q ≡ n) ⊎ (name.V q ≢ n) → slot_at s.slots (name.V q) ≡ Out line → line.is_marked ≡ true → (line' : Line Courier) × (slot_at s'.slots (name.V q) ≡ Out line') × (line'.is_marked ≡ true)
      at q line (inl same) e is = let r = keep line (ap (slot_at s.slots) (sym same) ∙ e) is in (r.0, ap (λ t. slot_at t (name.V q)) slots ∙ ap (slot_at (with_slot s.slots n a)) same ∙ r.1, r.2)
      at q line (inr ne) e is = (line, ap (λ t. slot_at t (name.V q)) slots ∙ slot_at-put_other s.slots n (name.V q) a ne ∙ e, is)

      by : (q : Pid) (line : Line Courier) (b : Bool) → slot_at (cond b s (C.nodes (home (name.V q) world.nodes))).slots (name.V q) ≡ Out line → line.is_marked ≡ true →
          (line' : Line Courier) × (slot_at (cond b s' (C.nodes (home (name.V q) world.nodes))).slots (name.V q) ≡ Out line') × (line'.is_marked ≡ true)
      by q line true e is = at q line (name_cases (name.V q) n) e is
      by q line false e is = (line, e, is)

  -- ---- sorted lists
  pub own_parked : (W : Contents) (P : Pid → Type 0) (s : State) → WatchesAt world C k W P s → IsRising s.parked
  own_parked W P s w = subst (λ b. IsRising (cond b s (C.nodes k)).parked) (eq-eqb k k refl) (w.parked_rise k)

  pub own_marks : (W : Contents) (P : Pid → Type 0) (s : State) → WatchesAt world C k W P s → IsRising s.marks
  own_marks W P s w = subst (λ b. IsRising (cond b s (C.nodes k)).marks) (eq-eqb k k refl) (w.marks_rise k)

  parked_as : (W : Contents) (P : Pid → Type 0) (s s' : State) → WatchesAt world C k W P s → IsRising s'.parked → (j : ℕ) → IsRising (state_at C k s' j).parked
  parked_as W P s s' w r j = go (j == k) (w.parked_rise j)
    where
      go : (b : Bool) → IsRising (cond b s (C.nodes j)).parked → IsRising (cond b s' (C.nodes j)).parked
      go true e = r
      go false e = e

  marks_as : (W : Contents) (P : Pid → Type 0) (s s' : State) → WatchesAt world C k W P s → IsRising s'.marks → (j : ℕ) → IsRising (state_at C k s' j).marks
  marks_as W P s s' w r j = go (j == k) (w.marks_rise j)
    where
      go : (b : Bool) → IsRising (cond b s (C.nodes j)).marks → IsRising (cond b s' (C.nodes j)).marks
      go true e = r
      go false e = e

  -- ---- steps
  -- no item moves, and nothing is known of places
  pub watch_more : (W : Contents) (P P' : Pid → Type 0) (s s' : State) → WatchesAt world C k W P s → ((q : Pid) → Fine W P s q → Fine W P' s' q) → ((j : ℕ) (q : Pid) → Marks s j q ≡ true → Marks s' j q ≡ true) →
      ((X : Where) → items_at world.nodes C k s' X ≡ items_at world.nodes C k s X) → IsRising s'.parked → IsRising s'.marks → WatchesAt world C k W P' s'
  watch_more W P P' s s' w fine marks same parked marked = record {
    items = λ X. subst (AllWatched W (Fine W P' s') (Marks s') X) (sym (same X)) (all_more W (Fine W P s) (Fine W P' s') (Marks s) (Marks s') fine marks X (items_at world.nodes C k s X) (w.items X));
    parked_rise = parked_as W P s s' w parked;
    marks_rise = marks_as W P s s' w marked;
  }

  -- no item moves
  pub watch_on : (W W' : Contents) (L : Places) (P P' : Pid → Type 0) (s s' : State) → Bench world C k W L s → WatchesAt world C k W P s → Carries W W' L (Fine W P s) (Fine W' P' s') (Marks s) (Marks s') →
      ((X : Where) → items_at world.nodes C k s' X ≡ items_at world.nodes C k s X) → IsRising s'.parked → IsRising s'.marks → WatchesAt world C k W' P' s'
  watch_on W W' L P P' s s' b w c same parked marked = record {
    items = λ X. subst (AllWatched W' (Fine W' P' s') (Marks s') X) (sym (same X)) (all_on world W W' L (Fine W P s) (Fine W' P' s') (Marks s) (Marks s') c X (items_at world.nodes C k s X) (b.matches.items X) (w.items X));
    parked_rise = parked_as W P s s' w parked;
    marks_rise = marks_as W P s s' w marked;
  }

  -- the same state, and fewer say that they have nothing to do
  pub watch_less : (W : Contents) (P P' : Pid → Type 0) (s : State) → WatchesAt world C k W P s → ((q : Pid) → P q → Fine W P' s q) → WatchesAt world C k W P' s
  watch_less W P P' s w f = watch_more W P P' s s w (λ q h. elim h [ inl p ↦ f q p | inr t ↦ inr t ]) (λ j q e. e) (λ X. refl) (own_parked W P s w) (own_marks W P s w)

  -- an item is put down
  pub watch_put : (W : Contents) (P : Pid → Type 0) (s s' : State) (X : Where) (x : Item) → WatchesAt world C k W P s → More s s' → Adds world (items_at world.nodes C k s) (items_at world.nodes C k s') X x →
      ItemWatched W (Fine W P s') (Marks s') x X → IsRising s'.parked → IsRising s'.marks → WatchesAt world C k W P s'
  watch_put W P s s' X x w m adds i parked marked = record {
    items = items_put world W (Fine W P s') (Marks s') (items_at world.nodes C k s) (items_at world.nodes C k s') X x adds i
        (λ Y. all_more W (Fine W P s) (Fine W P s') (Marks s) (Marks s') (λ q. fine_more W P s s' q m) m.marks Y (items_at world.nodes C k s Y) (w.items Y));
    parked_rise = parked_as W P s s' w parked;
    marks_rise = marks_as W P s s' w marked;
  }

  -- an item is picked up
  pub watch_take : (W : Contents) (P : Pid → Type 0) (s s' : State) (X : Where) (x : Item) → WatchesAt world C k W P s → More s s' → Adds world (items_at world.nodes C k s') (items_at world.nodes C k s) X x →
      IsRising s'.parked → IsRising s'.marks → WatchesAt world C k W P s'
  watch_take W P s s' X x w m adds parked marked = record {
    items = items_take world W (Fine W P s') (Marks s') (items_at world.nodes C k s) (items_at world.nodes C k s') X x adds
        (λ Y. all_more W (Fine W P s) (Fine W P s') (Marks s) (Marks s') (λ q. fine_more W P s s' q m) m.marks Y (items_at world.nodes C k s Y) (w.items Y));
    parked_rise = parked_as W P s s' w parked;
    marks_rise = marks_as W P s s' w marked;
  }

  -- nothing is picked up or put down
  pub watch_still : (W : Contents) (P : Pid → Type 0) (s s' : State) → WatchesAt world C k W P s → More s s' → ((X : Where) → items_at world.nodes C k s' X ≡ items_at world.nodes C k s X) → IsRising s'.parked → IsRising s'.marks → WatchesAt world C k W P s'
  watch_still W P s s' w m same parked marked = watch_more W P P s s' w (λ q. fine_more W P s s' q m) m.marks same parked marked
