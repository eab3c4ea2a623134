-- the moves of a turn keep the watch
use Rattle.std.proofs.Common.{◌≡◌, ◌≢◌, ◌⊎◌, inl, inr, ◌==◌, ◌<◌, ◌||◌, ℕ, Bool, true, false, cond, List, [], ◌∷◌, ◌++◌, map, refl, sym, ap, ◌∙◌, subst, arith, Option, None, Some}
use Rattle.std.specs.Prelude.{is_some}
use Rattle.std.specs.List.{list_any}
use Rattle.std.proofs.lemmas.Bool.{eq-eqb, eqb-true, eqb-false, lt-ltb, le-ltb}
use Rattle.unix_names.specs.declared.Pid.{Pid}
use Rattle.unix_names.specs.declared.Name.TheVariants as name
use Rattle.unix_names.specs.Names.{home}
use Rattle.unix_names.specs.States.{is_living}
use Rattle.unix_calls.specs.declared.World.{World}
use Rattle.ordered_table.specs.declared.Entry.{Entry}
use Rattle.ordered_table.specs.Entries.{IsRising, AllAbove, has_value, value_at, with_value, without}
use Rattle.ordered_table.proofs.MapLaws.{put-same, put-other, IsRising-put, IsRising-without}
use Rattle.vproc_record.specs.declared.Vproc.{Vproc}
use Rattle.proc_image.specs.declared.image.Image.{Image}
use Rattle.record_bag.specs.declared.Held.{Held}
use Rattle.record_bag.specs.declared.Held.TheVariants as held
use Rattle.record_table.specs.declared.slot.Slot.{Slot}
use Rattle.record_table.specs.declared.slot.Slot.TheVariants.{Home, Out}
use Rattle.record_table.specs.declared.slot.Line.{Line}
use Rattle.record_table.specs.declared.slots.Nudged.{Nudged}
use Rattle.record_table.specs.declared.slots.Nudged.TheVariants as nudge
use Rattle.record_table.specs.Places.{line_of, marked, poked_at}
use Rattle.record_table.specs.Slots.{slot_at}
use Rattle.record_table.proofs.SlotLaws.{slot_at-put}
use Rattle.courier_core.specs.declared.courier.Courier.{Courier}
use Rattle.courier_core.specs.declared.courier.Message.{Message}
use Rattle.courier_core.specs.declared.courier.Message.TheVariants as message
use Rattle.node_state.specs.declared.State.{State}
use Rattle.node_state.specs.declared.Waiting.{Waiting}
use Rattle.node_state.specs.declared.Waiting.TheVariants as waiting
use Rattle.node_state.specs.Places.{queued, poked_by, poked}
use Rattle.node_state.specs.Wires.{posted}
use Rattle.node_state.specs.Phases.{woken}
use Rattle.node_state.specs.Ready.{is_image_of}
use Rattle.node_state.specs.Returns.{called, nudged_by, nudged_here}
use Rattle.cluster_state.specs.Cluster.{Cluster}
use Rattle.cluster_contents.specs.Placement.{Where, Ready, Parked, InLine, Wire, In, Hand, Proc, Rec, Places, moved, Contents, View, Item, CourierItem, ImageItem, ParkedItem, Fits, Occurs, SlotIs}
use Rattle.cluster_moves.specs.Benches.{stored, with_message, of_waiting, of_parked}
use Rattle.cluster_watch.specs.Watched.{IsComing, Leaves, state_at, slot_in, IsTold, Marked as TellsSlot, Poked as TellsPlace, IsAt, ItemWatched, WatchesAt}
use Rattle.cluster_moves.proofs.Things.{moved-same}
use Rattle.cluster_moves.proofs.Store.{unchanged, ready_adds, ready_takes, post_adds, post_news, written, slot_here, write_same, parked_adds, parked_there}
use Rattle.cluster_moves.proofs.Moves.{Bench, unpark, rest}
use Rattle.cluster_watch.proofs.Watching.{told_on, slots_kept, goes_last, Fine, Marks, more_same, more_posted, more_written, news_kept, own_parked, own_marks, watch_on, watch_less, watch_put, watch_take, watch_still}

-- ---- where an image stands
-- the record of the process is there, and names this place
abbrev pub IsHere : Contents → ℕ → Pid → Type 0
IsHere W k q = (v : Vproc) × (W.what (name.V q) ≡ held.V (Some v)) × (v.loc.0 ≡ k)

-- the record of each process that has an image is there, and that of a living one
abbrev pub AreAlive : Contents → Type 0
AreAlive W = (q : Pid) (x : View) → W.proc q ≡ Some x → (v : Vproc) × (W.what (name.V q) ≡ held.V (Some v)) × (is_living v.life ≡ true)

same_pid : (p q : Pid) → Proc p ≡ Proc q → p ≡ q
same_pid p q e = cc

above : (p q : Pid) (es : List (Entry Image)) → AllAbove q es → Occurs (Proc p) (map of_parked es) → q.0 < p.0
above p q [] a o = absurd o
above p q (e ∷ es) a (inl same) = let is = same_pid e.pid p same in subst (λ (u : Pid). q.0 < u.0) is a.0
above p q (e ∷ es) a (inr o) = above p q es a.1 o

-- a parked image is found
found_parked : (p : Pid) (es : List (Entry Image)) → IsRising es → Occurs (Proc p) (map of_parked es) → value_at es p ≡ None → ⊥
found_parked p [] r o e = o
found_parked p (x ∷ es) r (inl same) e =
    let is : x.pid.0 ≡ p.0 = ap (λ (u : Pid). u.0) (same_pid x.pid p same) in
    let f : Some x.value ≡ None = sym (ap (λ b. cond b (value_at es p) (cond (x.pid.0 == p.0) (Some x.value) None)) (le-ltb x.pid.0 p.0 (omega (arith, is))) ∙ ap (λ b. cond b (Some x.value) None) (eq-eqb x.pid.0 p.0 is)) ∙ e in cc
found_parked p (x ∷ es) r (inr o) e =
    found_parked p es r.1 o (sym (ap (λ b. cond b (value_at es p) (cond (x.pid.0 == p.0) (Some x.value) None)) (lt-ltb x.pid.0 p.0 (above p x.pid es r.0 o))) ∙ e)

module _ (world : World) (C : Cluster) (k : ℕ) where
  in_ready : (W : Contents) (L : Places) (p : Pid) (ws : List Waiting) → Fits world W L (Ready k) (map of_waiting ws) → list_any (is_image_of p) ws ≡ true → L (Proc p) ≡ In (Ready k)
  in_ready W L p [] f e = cc
  in_ready W L p (waiting.Courier c ∷ ws) f e = in_ready W L p ws f.2 e
  in_ready W L p (waiting.Image i ∷ ws) f e = go (i.pid.0 == p.0) refl e (in_ready W L p ws f.2)
    where
      go : (b : Bool) → (i.pid.0 == p.0) ≡ b → (b || list_any (is_image_of p) ws) ≡ true → (list_any (is_image_of p) ws ≡ true → L (Proc p) ≡ In (Ready k)) → L (Proc p) ≡ In (Ready k)
      go true t e rest = ap (λ (n : ℕ). L (Proc (record { 0 = n }))) (sym (eqb-true _ _ t)) ∙ (f.0).0
      go false t e rest = rest e

  ready_place : (W : Contents) (L : Places) (s : State) (p : Pid) → Bench world C k W L s → list_any (is_image_of p) s.ready ≡ true → L (Proc p) ≡ In (Ready k)
  ready_place W L s p b e = in_ready W L p s.ready (subst (λ (t : State). Fits world W L (Ready k) (map of_waiting t.ready)) (ap (λ t. cond t s (C.nodes k)) (eq-eqb k k refl)) (b.matches.items (Ready k))) e

  parked_place : (W : Contents) (L : Places) (s : State) (p : Pid) → Bench world C k W L s → IsRising s.parked → L (Proc p) ≡ In (Parked k) → value_at s.parked p ≡ None → ⊥
  parked_place W L s p b r at e = found_parked p s.parked r (subst (λ (t : State). Occurs (Proc p) (map of_parked t.parked)) (ap (λ t. cond t s (C.nodes k)) (eq-eqb k k refl)) (b.matches.whole (Proc p) (Parked k) at)) e

  -- ---- things that are put down
  pub watch_queue : (W : Contents) (P : Pid → Type 0) (s : State) (w : Waiting) → WatchesAt world C k W P s → WatchesAt world C k W P (queued s w)
  watch_queue W P s (waiting.Image i) w = watch_put world C k W P s (queued s (waiting.Image i)) (Ready k) (ImageItem i) w (more_same world C k s (queued s (waiting.Image i)) refl refl refl) (ready_adds world C k s (waiting.Image i)) tt (own_parked world C k W P s w) (own_marks world C k W P s w)
  watch_queue W P s (waiting.Courier c) w = watch_put world C k W P s (queued s (waiting.Courier c)) (Ready k) (CourierItem c) w (more_same world C k s (queued s (waiting.Courier c)) refl refl refl) (ready_adds world C k s (waiting.Courier c)) tt (own_parked world C k W P s w) (own_marks world C k W P s w)

  pub watch_unqueue : (W : Contents) (P : Pid → Type 0) (s : State) (bs : List Waiting) (w : Waiting) (cs : List Waiting) → s.ready ≡ bs ++ w ∷ cs → WatchesAt world C k W P s → WatchesAt world C k W P (record s { ready = bs ++ cs })
  watch_unqueue W P s bs w cs is watch = watch_take world C k W P s (record s { ready = bs ++ cs }) (Ready k) (of_waiting w) watch (more_same world C k s (record s { ready = bs ++ cs }) refl refl refl) (ready_takes world C k s bs w cs is) (own_parked world C k W P s watch) (own_marks world C k W P s watch)

  -- a message that carries an item
  pub watch_post : (W : Contents) (P : Pid → Type 0) (s : State) (to : ℕ) (m : Message) (x : Item) → ((xs : List Item) → with_message m xs ≡ x ∷ xs) → ItemWatched W (Fine world C k W P (posted s to m)) (Marks world C k (posted s to m)) x (Wire k to) →
      WatchesAt world C k W P s → WatchesAt world C k W P (posted s to m)
  watch_post W P s to m x carries i w = watch_put world C k W P s (posted s to m) (Wire k to) x w (more_posted world C k s to m) (post_adds world C k s to m x (carries [])) i (own_parked world C k W P s w) (own_marks world C k W P s w)

  -- a message that carries none
  pub watch_news : (W : Contents) (P : Pid → Type 0) (s : State) (to : ℕ) (m : Message) → with_message m [] ≡ [] → WatchesAt world C k W P s → WatchesAt world C k W P (posted s to m)
  watch_news W P s to m none w = watch_still world C k W P s (posted s to m) w (more_posted world C k s to m) (post_news world C k s to m none) (own_parked world C k W P s w) (own_marks world C k W P s w)

  posted_comes : (s : State) (to : ℕ) (m : Message) → IsComing C (posted s to m) to m
  posted_comes s to m = Leaves (goes_last s.out _)

  -- ---- a process is told at its place
  abbrev pub OrHere : Contents → (Pid → Type 0) → Pid → Pid → Type 0
  OrHere W P p q = P q ⊎ ((q ≡ p) × IsHere W k q)

  pub poked_watch : (W : Contents) (L : Places) (s : State) (p : Pid) (P : Pid → Type 0) → Bench world C k W L s → WatchesAt world C k W (OrHere W P p) s → WatchesAt world C k W P (poked s p)
  poked_watch W L s p P b w = go (value_at s.parked p) refl
    where
      -- who is elsewhere
      elsewhere : (M : Places) (X Y : Where) (q : Pid) → M (Proc p) ≡ In X → M (Proc q) ≡ In Y → X ≢ Y → q ≡ p → ⊥
      elsewhere M X Y q at there ne same = ne (in_same X Y (sym at ∙ ap (λ u. M (Proc u)) (sym same) ∙ there))
        where
          in_same : (X Y : Where) → In X ≡ In Y → X ≡ Y
          in_same X Y e = cc

      in_hand : (M : Places) (Y : Where) (q : Pid) → M (Proc p) ≡ Hand → M (Proc q) ≡ In Y → q ≡ p → ⊥
      in_hand M Y q at there same = let x : Hand ≡ In Y = sym at ∙ ap (λ u. M (Proc u)) (sym same) ∙ there in cc

      drops : (s' : State) (q : Pid) → (q ≡ p → ⊥) → Fine world C k W (OrHere W P p) s' q → Fine world C k W P s' q
      drops s' q no_p (inl (inl a)) = inl a
      drops s' q no_p (inl (inr h)) = absurd (no_p h.0)
      drops s' q no_p (inr t) = inr t

      -- the image is in no container that counts
      leave : (M : Places) (s' : State) → Bench world C k W M s' → ((Y : Where) (q : Pid) → M (Proc q) ≡ In Y → (Y ≢ Ready k) → q ≡ p → ⊥) → WatchesAt world C k W (OrHere W P p) s' → WatchesAt world C k W P s'
      leave M s' b' no_p w' = watch_on world C k W W M (OrHere W P p) P s' s' b' w' (record {
        at = λ q X j x at is h. h;
        parked = λ q j x at is h f. drops s' q (no_p (Parked j) q at (λ e. cc)) f;
        comes = λ q i j x at is h f. elim f [ inl a ↦ inl (drops s' q (no_p (Wire i j) q at (λ e. cc)) a) | inr m ↦ inr m ];
      }) (λ X. refl) (own_parked world C k W (OrHere W P p) s' w') (own_marks world C k W (OrHere W P p) s' w')

      marks_it : value_at s.parked p ≡ None → WatchesAt world C k W P (record s { marks = with_value s.marks p true })
      marks_it none =
          let s' : State = record s { marks = with_value s.marks p true } in
          watch_on world C k W W L (OrHere W P p) P s (record s { marks = with_value s.marks p true }) b w (record {
            at = λ q X j x at is h. h;
            parked = λ q j x at is h f. drops_or q j at h (fine_same q f);
            comes = λ q i j x at is h f. comes q j h f;
          }) (unchanged world C k s (record s { marks = with_value s.marks p true }) local) (own_parked world C k W (OrHere W P p) s w) (IsRising-put s.marks p true (own_marks world C k W (OrHere W P p) s w))
        where
          s1 : State
          s1 = record s { marks = with_value s.marks p true }

          local : (Y : Where) → stored (record s { marks = with_value s.marks p true }) Y ≡ stored s Y
          local (Ready j) = refl
          local (Parked j) = refl
          local (InLine n) = refl
          local (Wire i l) = refl

          told_same : (q : Pid) → IsTold world W (slot_in world.nodes (state_at C k s)) (IsComing C s) q → IsTold world W (slot_in world.nodes (state_at C k (record s { marks = with_value s.marks p true }))) (IsComing C (record s { marks = with_value s.marks p true })) q
          told_same q t = told_on world W (slot_in world.nodes (state_at C k s)) (slot_in world.nodes (state_at C k (record s { marks = with_value s.marks p true }))) (IsComing C s) (IsComing C (record s { marks = with_value s.marks p true })) q
              (news_kept world C k s (record s { marks = with_value s.marks p true }) refl) (slots_kept world C k s (record s { marks = with_value s.marks p true }) refl q) t

          fine_same : (q : Pid) → Fine world C k W (OrHere W P p) s q → Fine world C k W (OrHere W P p) (record s { marks = with_value s.marks p true }) q
          fine_same q (inl a) = inl a
          fine_same q (inr t) = inr (told_same q t)

          place : (q : Pid) (j : ℕ) → IsAt W q j → IsHere W k q → j ≡ k
          place q j at h = sym (at h.0 h.1) ∙ h.2

          drops_or : (q : Pid) (j : ℕ) → L (Proc q) ≡ In (Parked j) → IsAt W q j → Fine world C k W (OrHere W P p) (record s { marks = with_value s.marks p true }) q → Fine world C k W P (record s { marks = with_value s.marks p true }) q
          drops_or q j at h (inl (inl a)) = inl a
          drops_or q j at h (inl (inr (same, is_here))) = absurd (parked_place W L s p b (own_parked world C k W (OrHere W P p) s w) (ap (λ u. L (Proc u)) (sym same) ∙ at ∙ ap (λ (n : ℕ). In (Parked n)) (place q j h is_here)) none)
          drops_or q j at h (inr t) = inr t

          marks_more : (j : ℕ) (q : Pid) → Marks world C k s j q ≡ true → Marks world C k (record s { marks = with_value s.marks p true }) j q ≡ true
          marks_more j q = by (j == k)
            where
              kept : (b : Bool) → (q.0 == p.0) ≡ b → has_value s.marks q ≡ true → has_value (with_value s.marks p true) q ≡ true
              kept true t e = ap (λ (n : ℕ). has_value (with_value s.marks p true) (record { 0 = n })) (eqb-true _ _ t) ∙ ap is_some (put-same s.marks p true)
              kept false t e = ap is_some (put-other s.marks p q true (eqb-false _ _ t)) ∙ e

              by : (b : Bool) → has_value (cond b s (C.nodes j)).marks q ≡ true → has_value (cond b (record s { marks = with_value s.marks p true }) (C.nodes j)).marks q ≡ true
              by true e = kept (q.0 == p.0) refl e
              by false e = e

          mark_new : (q : Pid) (j : ℕ) → q ≡ p → j ≡ k → Marks world C k (record s { marks = with_value s.marks p true }) j q ≡ true
          mark_new q j same at = ap (λ b. has_value (cond b (record s { marks = with_value s.marks p true }) (C.nodes j)).marks q) (eq-eqb j k at) ∙ ap (has_value (with_value s.marks p true)) same ∙ ap is_some (put-same s.marks p true)

          comes : (q : Pid) (j : ℕ) → IsAt W q j → (Fine world C k W (OrHere W P p) s q ⊎ (Marks world C k s j q ≡ true)) → Fine world C k W P (record s { marks = with_value s.marks p true }) q ⊎ (Marks world C k (record s { marks = with_value s.marks p true }) j q ≡ true)
          comes q j at (inr m) = inr (marks_more j q m)
          comes q j at (inl (inl (inl a))) = inl (inl a)
          comes q j at (inl (inl (inr (same, is_here)))) = inr (mark_new q j same (place q j at is_here))
          comes q j at (inl (inr t)) = inl (inr (told_same q t))

      by_ready : (t : Bool) → list_any (is_image_of p) s.ready ≡ t → value_at s.parked p ≡ None → WatchesAt world C k W P (cond t s (record s { marks = with_value s.marks p true }))
      by_ready true t none = leave L s b (λ Y q at ne same. elsewhere L (Ready k) Y q (ready_place W L s p b t) at (λ e. ne (sym e)) same) w
      by_ready false t none = marks_it none

      go : (o : Option Image) → value_at s.parked p ≡ o → WatchesAt world C k W P (poked_by s p o)
      go None e = by_ready (list_any (is_image_of p) s.ready) refl e
      go (Some i) e =
          let t = parked_there s.parked p i e in
          let s1 : State = record s { parked = without s.parked p } in
          let u = unpark world C k W L s p i b e in
          let w1 = watch_take world C k W (OrHere W P p) s s1 (Parked k) (ParkedItem p i) w (more_same world C k s s1 refl refl refl) (parked_adds world C k s1 s t.before (record { pid = p; value = i }) t.after t.less t.is refl refl refl)
          (IsRising-without s.parked p (own_parked world C k W (OrHere W P p) s w)) (own_marks world C k W (OrHere W P p) s w) in
          watch_queue W P s1 (waiting.Image (woken i)) (leave (moved L (Proc p) Hand) s1 u.4 (λ Y q at ne same. in_hand (moved L (Proc p) Hand) Y q (moved-same L (Proc p) Hand) at same) w1)

  pub poked_any : (W : Contents) (L : Places) (s : State) (p : Pid) (P : Pid → Type 0) → Bench world C k W L s → WatchesAt world C k W P s → WatchesAt world C k W P (poked s p)
  poked_any W L s p P b w = poked_watch W L s p P b (watch_less world C k W P (OrHere W P p) s w (λ q a. inl (inl a)))

  pub called_any : (W : Contents) (L : Places) (s : State) (p : Pid) (n : Nudged) (P : Pid → Type 0) → Bench world C k W L s → WatchesAt world C k W P s → WatchesAt world C k W P (called s p n)
  called_any W L s p nudge.Marked P b w = w
  called_any W L s p nudge.Nobody P b w = w
  called_any W L s p (nudge.At place) P b w = go (place.0 == s.id)
    where
      go : (t : Bool) → WatchesAt world C k W P (cond t (poked s p) (posted s place.0 (message.Poke p)))
      go true = poked_any W L s p P b w
      go false = watch_news W P s place.0 (message.Poke p) refl w

  -- ---- a process is told, whose record is at hand
  abbrev pub OrIs : (Pid → Type 0) → Pid → Pid → Type 0
  OrIs P p q = P q ⊎ (q ≡ p)

  pub called_watch : (W : Contents) (L : Places) (s : State) (p : Pid) (P : Pid → Type 0) → Bench world C k W L s → AreAlive W → WatchesAt world C k W (OrIs P p) s → WatchesAt world C k W P (called s p (poked_at (W.what (name.V p))))
  called_watch W L s p P b alive w = go (W.what (name.V p)) refl
    where
      vproc_same : (v x : Vproc) → held.V (Some v) ≡ held.V (Some x) → v ≡ x
      vproc_same v x e = cc

      -- who has no living record has no image
      nobody : ((x : View) → W.proc p ≡ Some x → ⊥) → WatchesAt world C k W P s
      nobody none = watch_on world C k W W L (OrIs P p) P s s b w (record {
        at = λ q X j x at is h. h;
        parked = λ q j x at is h f. drops q x is f;
        comes = λ q i j x at is h f. elim f [ inl a ↦ inl (drops q x is a) | inr m ↦ inr m ];
      }) (λ X. refl) (own_parked world C k W (OrIs P p) s w) (own_marks world C k W (OrIs P p) s w)
        where
          drops : (q : Pid) (x : View) → W.proc q ≡ Some x → Fine world C k W (OrIs P p) s q → Fine world C k W P s q
          drops q x is (inl (inl a)) = inl a
          drops q x is (inl (inr same)) = absurd (none x (ap W.proc (sym same) ∙ is))
          drops q x is (inr t) = inr t

      here_it : (v : Vproc) → W.what (name.V p) ≡ held.V (Some v) → v.loc.0 ≡ k → WatchesAt world C k W P (poked s p)
      here_it v is at = poked_watch W L s p P b (watch_less world C k W (OrIs P p) (OrHere W P p) s w
          (λ q h. elim h [ inl a ↦ inl (inl a) | inr same ↦ inl (inr (same, (v, ap (λ u. W.what (name.V u)) same ∙ is, at))) ]))

      post_it : (v : Vproc) → W.what (name.V p) ≡ held.V (Some v) → WatchesAt world C k W P (posted s v.loc.0 (message.Poke p))
      post_it v is =
          let s' = posted s v.loc.0 (message.Poke p) in
          watch_less world C k W (OrIs P p) P s' (watch_news W (OrIs P p) s v.loc.0 (message.Poke p) refl w)
          (λ q h. elim h [ inl a ↦ inl a | inr same ↦ inr (TellsPlace v (ap (λ u. W.what (name.V u)) same ∙ is) (subst (λ u. IsComing C s' v.loc.0 (message.Poke u)) (sym same) (posted_comes s v.loc.0 (message.Poke p)))) ])

      to : (v : Vproc) → W.what (name.V p) ≡ held.V (Some v) → (t : Bool) → (v.loc.0 == s.id) ≡ t → WatchesAt world C k W P (cond t (poked s p) (posted s v.loc.0 (message.Poke p)))
      to v is true t = here_it v is (eqb-true _ _ t ∙ b.id)
      to v is false t = post_it v is

      lives : (v : Vproc) → W.what (name.V p) ≡ held.V (Some v) → (t : Bool) → is_living v.life ≡ t → WatchesAt world C k W P (called s p (cond t (nudge.At v.loc) nudge.Nobody))
      lives v is true t = to v is (v.loc.0 == s.id) refl
      lives v is false t = nobody (λ x proc. let a = alive p x proc in let same = vproc_same v a.0 (sym is ∙ a.1) in let e : false ≡ true = sym t ∙ ap (λ (y : Vproc). is_living y.life) same ∙ a.2 in cc)

      go : (o : Held) → W.what (name.V p) ≡ o → WatchesAt world C k W P (called s p (poked_at o))
      go (held.V None) is = nobody (λ x proc. let a = alive p x proc in let e : held.V None ≡ held.V (Some a.0) = sym is ∙ a.1 in cc)
      go (held.G g) is = nobody (λ x proc. let a = alive p x proc in let e : held.G g ≡ held.V (Some a.0) = sym is ∙ a.1 in cc)
      go (held.V (Some v)) is = lives v is (is_living v.life) refl

  -- a slot is marked
  pub mark_slot : (W : Contents) (L : Places) (s : State) (p : Pid) (P : Pid → Type 0) (line : Line Courier) → slot_at s.slots (name.V p) ≡ Out line → WatchesAt world C k W P s → WatchesAt world C k W P (written world C k s (name.V p) (marked (Out line)))
  mark_slot W L s p P line e w =
      let n = name.V p in
      let s' = written world C k s n (marked (Out line)) in
      watch_still world C k W P s s' w (more_written world C k s s' n (marked (Out line)) refl refl refl (λ l is m. (record line { is_marked = true }, slot_at-put s.slots n (marked (Out line)), refl)))
      (write_same world C k s n (marked (Out line)) (ap (λ a. (line_of a).waiters) (slot_at-put s.slots n (marked (Out line))) ∙ sym (ap (λ a. (line_of a).waiters) e)))
      (own_parked world C k W P s w) (own_marks world C k W P s w)

  -- ---- news at a record's home
  pub nudged_here_watch : (W : Contents) (L : Places) (s : State) (p : Pid) (P : Pid → Type 0) → Bench world C k W L s → AreAlive W → home (name.V p) world.nodes ≡ k → WatchesAt world C k W (OrIs P p) s → WatchesAt world C k W P (nudged_here s p)
  nudged_here_watch W L s p P b alive at w = go (slot_at s.slots (name.V p)) refl
    where
      go : (a : Slot Held (Line Courier)) → slot_at s.slots (name.V p) ≡ a → WatchesAt world C k W P (nudged_by s p a)
      go (Home h) e =
          let f = subst (λ a. SlotIs (L (Rec (name.V p))) (W.what (name.V p)) a) (slot_here world C k s (name.V p) at ∙ e) (b.matches.slots (name.V p)) in
          subst (λ y. WatchesAt world C k W P (called s p (poked_at y))) (sym f.1) (called_watch W L s p P b alive w)
      go (Out line) e =
          let n = name.V p in
          let s' = written world C k s n (marked (Out line)) in
          let w' = mark_slot W L s p (OrIs P p) line e w in
          watch_less world C k W (OrIs P p) P s' w' (λ q h. elim h [
            | inl a ↦ inl a
            | inr same ↦ inr (subst (λ u. IsTold world W (slot_in world.nodes (state_at C k s')) (IsComing C s') u) (sym same)
                (TellsSlot (record line { is_marked = true }) (slot_here world C k s' n at ∙ slot_at-put s.slots n (marked (Out line))) refl))
          ])

  pub nudged_here_any : (W : Contents) (L : Places) (s : State) (p : Pid) (P : Pid → Type 0) → Bench world C k W L s → WatchesAt world C k W P s → WatchesAt world C k W P (nudged_here s p)
  nudged_here_any W L s p P b w = go (slot_at s.slots (name.V p)) refl
    where
      go : (a : Slot Held (Line Courier)) → slot_at s.slots (name.V p) ≡ a → WatchesAt world C k W P (nudged_by s p a)
      go (Home h) e = called_any W L s p (poked_at h) P b w
      go (Out line) e = mark_slot W L s p P line e w

  -- ---- who was told by a message that is off its wire
  abbrev pub ToldBy : Contents → Message → Pid → Type 0
  ToldBy W m q = ((message.Nudge q ≡ m) × (home (name.V q) world.nodes ≡ k)) ⊎ ((message.Poke q ≡ m) × IsHere W k q)

  abbrev pub OrTold : Contents → (Pid → Type 0) → Message → Pid → Type 0
  OrTold W P m q = P q ⊎ ToldBy W m q

  pub took_nudge : (W : Contents) (L : Places) (s : State) (p : Pid) (P : Pid → Type 0) → Bench world C k W L s → AreAlive W → WatchesAt world C k W (OrTold W P (message.Nudge p)) s → WatchesAt world C k W P (nudged_here s p)
  took_nudge W L s p P b alive w = go (home (name.V p) world.nodes == k) refl
    where
      nudge_same : (p q : Pid) → message.Nudge q ≡ message.Nudge p → q ≡ p
      nudge_same p q e = cc

      no_poke : (p q : Pid) → message.Poke q ≡ message.Nudge p → ⊥
      no_poke p q e = cc

      go : (t : Bool) → (home (name.V p) world.nodes == k) ≡ t → WatchesAt world C k W P (nudged_here s p)
      go true t = nudged_here_watch W L s p P b alive (eqb-true _ _ t) (watch_less world C k W (OrTold W P (message.Nudge p)) (OrIs P p) s w (λ q h. elim h [ inl a ↦ inl (inl a) | inr (inl n) ↦ inl (inr (nudge_same p q n.0)) | inr (inr n) ↦ absurd (no_poke p q n.0) ]))
      go false t = nudged_here_any W L s p P b (watch_less world C k W (OrTold W P (message.Nudge p)) P s w
          (λ q h. elim h [ inl a ↦ inl a | inr (inl n) ↦ absurd (eqb-false _ _ t (ap (λ u. home (name.V u) world.nodes) (sym (nudge_same p q n.0)) ∙ n.1)) | inr (inr n) ↦ absurd (no_poke p q n.0) ]))

  pub took_poke : (W : Contents) (L : Places) (s : State) (p : Pid) (P : Pid → Type 0) → Bench world C k W L s → WatchesAt world C k W (OrTold W P (message.Poke p)) s → WatchesAt world C k W P (poked s p)
  took_poke W L s p P b w = poked_watch W L s p P b (watch_less world C k W (OrTold W P (message.Poke p)) (OrHere W P p) s w (λ q h. elim h [ inl a ↦ inl (inl a) | inr (inl n) ↦ absurd (no_nudge p q n.0) | inr (inr n) ↦ inl (inr (poke_same p q n.0, n.1)) ]))
    where
      poke_same : (p q : Pid) → message.Poke q ≡ message.Poke p → q ≡ p
      poke_same p q e = cc

      no_nudge : (p q : Pid) → message.Nudge q ≡ message.Poke p → ⊥
      no_nudge p q e = cc
