-- news, records that come home and images that come to stand keep the watch
use Rattle.std.proofs.Common.{◌≡◌, ◌≢◌, ◌⊎◌, inl, inr, ◌==◌, ◌||◌, ℕ, Bool, true, false, cond, List, [], ◌∷◌, ◌++◌, refl, sym, ap, ◌∙◌, subst, Some, append-nil}
use Rattle.std.specs.List.{list_any}
use Rattle.std.specs.Prelude.{is_some}
use Rattle.std.proofs.lemmas.Bool.{eq-eqb, eqb-true}
use Rattle.unix_names.specs.declared.Pid.{Pid}
use Rattle.unix_names.specs.declared.Name.{Name}
use Rattle.unix_names.specs.declared.Name.TheVariants as name
use Rattle.unix_names.specs.Names.{home}
use Rattle.unix_calls.specs.declared.Phase.{Phase}
use Rattle.unix_calls.specs.declared.Phase.TheVariants as phases
use Rattle.unix_calls.specs.declared.World.{World}
use Rattle.ordered_table.specs.Entries.{has_value, with_value, without}
use Rattle.ordered_table.proofs.MapLaws.{without-other, IsRising-put, IsRising-without}
use Rattle.proc_image.specs.declared.image.Image.{Image}
use Rattle.record_bag.specs.declared.Held.{Held}
use Rattle.record_bag.specs.declared.Bag.{Bag}
use Rattle.record_bag.specs.Bags.{with_held, all_held}
use Rattle.record_table.specs.declared.slot.Slot.{Slot}
use Rattle.record_table.specs.declared.slot.Slot.TheVariants.{Home, Out}
use Rattle.record_table.specs.declared.slot.Line.{Line}
use Rattle.record_table.specs.Places.{line_of, nobody, joined, poked_at}
use Rattle.record_table.specs.Slots.{slot_at, with_slot}
use Rattle.record_table.proofs.SlotLaws.{slot_at-put_home, slot_at-put_other, slot_at-put_line, slot_at-nobody}
use Rattle.courier_core.specs.declared.courier.Courier.{Courier}
use Rattle.courier_core.specs.declared.courier.Message.TheVariants as message
use Rattle.courier_core.proofs.Order.{is_name-same}
use Rattle.node_state.specs.declared.State.{State}
use Rattle.node_state.specs.declared.Waiting.TheVariants as waiting
use Rattle.node_state.specs.Returns.{pid_named, called, told_if, laid_by, laid, given_back, all_given_back, nudged_here, nudged, all_nudged}
use Rattle.node_state.specs.Wires.{posted}
use Rattle.node_state.specs.Phases.{woken}
use Rattle.node_state.specs.Places.{rested, placed_by, placed}
use Rattle.cluster_state.specs.Cluster.{Cluster}
use Rattle.cluster_contents.specs.Placement.{Where, Ready, Parked, InLine, Wire, In, Hand, AtHome, Proc, Rec, Places, moved, Contents, CourierItem, ParkedItem, RecordItem, carried, BagFits}
use Rattle.cluster_moves.specs.Benches.{stored, slots_at}
use Rattle.cluster_watch.specs.Watched.{IsComing, Leaves, state_at, slot_in, IsTold, Nudged as TellsHome, Marked as TellsSlot, Poked as TellsPlace, IsResting, IfRests, ImageWatched, WatchesAt}
use Rattle.cluster_moves.proofs.Things.{moved-same}
use Rattle.courier_core.proofs.Keeping.{name_cases}
use Rattle.cluster_moves.proofs.Store.{unchanged, written, slot_here, slot_others, write_same, line_changes, parked_adds, parked_put}
use Rattle.cluster_moves.proofs.Moves.{hand_out, Bench, not_parked, rest, drop}
use Rattle.cluster_moves.proofs.Returns.{listed, listed_rest, listed_all, Once, once_all, carried_some, given_keeps, nudged_keeps}
use Rattle.cluster_watch.proofs.Watching.{told_on, news_kept, slots_kept, marks_kept, goes_last, Fine, Marks, fine_more, more_same, more_written, own_parked, own_marks, watch_more, watch_on, watch_less, watch_put, watch_take, watch_still}
use Rattle.cluster_watch.proofs.WatchMoves.{AreAlive, OrIs, watch_queue, watch_post, watch_news, called_any, called_watch, nudged_here_watch}

module _ (world : World) (C : Cluster) (k : ℕ) where
  -- ---- nudges
  pub nudged_watch : (W : Contents) (L : Places) (s : State) (p : Pid) (P : Pid → Type 0) → Bench world C k W L s → AreAlive W → WatchesAt world C k W (OrIs world C k P p) s → WatchesAt world C k W P (nudged s p)
  nudged_watch W L s p P b alive w = go (home (name.V p) s.nodes == s.id) refl
    where
      go : (t : Bool) → (home (name.V p) s.nodes == s.id) ≡ t → WatchesAt world C k W P (cond t (nudged_here s p) (posted s (home (name.V p) s.nodes) (message.Nudge p)))
      go true t = nudged_here_watch world C k W L s p P b alive (ap (home (name.V p)) (sym b.nodes) ∙ eqb-true _ _ t ∙ b.id) w
      go false t =
          let to = home (name.V p) s.nodes in
          let s' = posted s to (message.Nudge p) in
          watch_less world C k W (OrIs world C k P p) P s' (watch_news world C k W (OrIs world C k P p) s to (message.Nudge p) refl w)
          (λ q h. elim h [
            | inl a ↦ inl a
            | inr same ↦ inr (subst (λ u. IsTold world W (slot_in world.nodes (state_at C k s')) (IsComing C s') u) (sym same)
                (TellsHome (subst (λ n. IsComing C s' (home (name.V p) n) (message.Nudge p)) b.nodes (Leaves (goes_last s.out _)))))
          ])

  abbrev pub OrAmong : (Pid → Type 0) → List Pid → Pid → Type 0
  OrAmong P ps q = P q ⊎ (list_any (λ (n : Pid). n.0 == q.0) ps ≡ true)

  pub all_nudged_watch : (W : Contents) (L : Places) (s : State) (ps : List Pid) (P : Pid → Type 0) → Bench world C k W L s → AreAlive W → WatchesAt world C k W (OrAmong P ps) s → WatchesAt world C k W P (all_nudged s ps)
  all_nudged_watch W L s [] P b alive w = watch_less world C k W (OrAmong P []) P s w (λ q h. elim h [ inl a ↦ inl a | inr e ↦ absurd (cc e) ])
  all_nudged_watch W L s (p ∷ ps) P b alive w =
      let a = nudged_keeps world C k W L s p b in
      all_nudged_watch W a.places (nudged s p) ps P a.bench alive
      (nudged_watch W L s p (OrAmong P ps) b alive (watch_less world C k W (OrAmong P (p ∷ ps)) (OrIs world C k (OrAmong P ps) p) s w (λ q h. first q (p.0 == q.0) refl h)))
    where
      first : (q : Pid) (t : Bool) → (p.0 == q.0) ≡ t → P q ⊎ ((t || list_any (λ (n : Pid). n.0 == q.0) ps) ≡ true) → Fine world C k W (OrIs world C k (OrAmong P ps) p) s q
      first q t e (inl a) = inl (inl (inl a))
      first q true e (inr h) = inl (inr (ap (λ (n : ℕ). record { 0 = n }) (sym (eqb-true _ _ e))))
      first q false e (inr h) = inl (inl (inr h))

  -- ---- records that come home
  pub laid_watch : (W : Contents) (L : Places) (s : State) (n : Name) (h : Held) (P : Pid → Type 0) → Bench world C k W L s → L (Rec n) ≡ Hand → W.what n ≡ h → home n world.nodes ≡ k → AreAlive W → WatchesAt world C k W P s → WatchesAt world C k W P (laid s n h)
  laid_watch W L s n h P b hand is at alive w = go (line_of (slot_at s.slots n)).waiters refl
    where
      mark : Bool
      mark = (line_of (slot_at s.slots n)).is_marked

      marked_line : (line : Line Courier) (a : Slot Held (Line Courier)) → a ≡ Out line → line.is_marked ≡ true → (line_of a).is_marked ≡ true
      marked_line line a e is = ap (λ x. (line_of x).is_marked) e ∙ is

      handed : (c : Courier) (cs : List Courier) → (line_of (slot_at s.slots n)).waiters ≡ c ∷ cs → WatchesAt world C k W P (laid_by s n h (line_of (slot_at s.slots n)).is_marked (c ∷ cs))
      handed c cs e =
          let a : Slot Held (Line Courier) = Out (record { is_marked = (line_of (slot_at s.slots n)).is_marked; waiters = cs }) in
          let s1 = written world C k s n a in
          let stands = slot_at-put_line s.slots n cs in
          let adds = line_changes world C k s1 s n [] c cs at (ap (λ x. (line_of x).waiters) stands) e (λ m ne. sym (slot_at-put_other s.slots n m _ ne)) refl refl refl in
          watch_queue world C k W P s1 (waiting.Courier (record c { bag = with_held c.bag n h }))
          (watch_take world C k W P s s1 (InLine n) (CourierItem c) w (more_written world C k s s1 n a refl refl refl (λ line out m. (record { is_marked = (line_of (slot_at s.slots n)).is_marked; waiters = cs }, stands, marked_line line (slot_at s.slots n) out m))) adds
          (own_parked world C k W P s w) (own_marks world C k W P s w))

      told : Bool → Pid → Pid → Type 0
      told t p q = P q ⊎ ((q ≡ p) × (t ≡ true))

      -- the record rests, and its mark is taken
      resting : (p : Pid) → n ≡ name.V p → (line_of (slot_at s.slots n)).waiters ≡ [] → WatchesAt world C k W (λ q. P q ⊎ ((q ≡ p) × ((line_of (slot_at s.slots n)).is_marked ≡ true))) (written world C k s n (Home h))
      resting p named e =
          let s1 = written world C k s n (Home h) in
          watch_more world C k W P (λ q. P q ⊎ ((q ≡ p) × ((line_of (slot_at s.slots n)).is_marked ≡ true))) s s1 w fine (marks_kept world C k s s1 refl)
          (write_same world C k s n (Home h) (ap (λ a. (line_of a).waiters) (slot_at-put_home s.slots n h) ∙ sym e)) (own_parked world C k W P s w) (own_marks world C k W P s w)
        where
          tells : (q : Pid) → IsTold world W (slot_in world.nodes (state_at C k s)) (IsComing C s) q → Fine world C k W (λ q. P q ⊎ ((q ≡ p) × ((line_of (slot_at s.slots n)).is_marked ≡ true))) (written world C k s n (Home h)) q
          tells q (TellsHome m) = inr (TellsHome (news_kept world C k s (written world C k s n (Home h)) refl _ _ m))
          tells q (TellsPlace v f m) = inr (TellsPlace v f (news_kept world C k s (written world C k s n (Home h)) refl _ _ m))
          tells q (TellsSlot line out m) = by (name_cases (name.V q) n)
            where
              by : (name.V q ≡ n) ⊎ (name.V q ≢ n) → Fine world C k W (λ q. P q ⊎ ((q ≡ p) × ((line_of (slot_at s.slots n)).is_marked ≡ true))) (written world C k s n (Home h)) q
              by (inl same) = let eq : name.V q ≡ name.V p = same ∙ named in let pid : q ≡ p = cc in inl (inr (pid, marked_line line (slot_at s.slots n) (sym (slot_here world C k s n at) ∙ ap (slots_at world.nodes C k s) (sym same) ∙ out) m))
              by (inr ne) = inr (TellsSlot line (slot_others world C k s n (Home h) (name.V q) ne ∙ out) m)

          fine : (q : Pid) → Fine world C k W P s q → Fine world C k W (λ q. P q ⊎ ((q ≡ p) × ((line_of (slot_at s.slots n)).is_marked ≡ true))) (written world C k s n (Home h)) q
          fine q (inl a) = inl (inl a)
          fine q (inr t) = tells q t

      -- the slot of a group tells nobody
      group_rests : (g : Pid) → n ≡ name.G g → (line_of (slot_at s.slots n)).waiters ≡ [] → WatchesAt world C k W P (written world C k s n (Home h))
      group_rests g named e =
          let s1 = written world C k s n (Home h) in
          watch_more world C k W P P s s1 w fine (marks_kept world C k s s1 refl)
          (write_same world C k s n (Home h) (ap (λ a. (line_of a).waiters) (slot_at-put_home s.slots n h) ∙ sym e)) (own_parked world C k W P s w) (own_marks world C k W P s w)
        where
          fine : (q : Pid) → Fine world C k W P s q → Fine world C k W P (written world C k s n (Home h)) q
          fine q (inl a) = inl a
          fine q (inr (TellsHome m)) = inr (TellsHome (news_kept world C k s (written world C k s n (Home h)) refl _ _ m))
          fine q (inr (TellsPlace v f m)) = inr (TellsPlace v f (news_kept world C k s (written world C k s n (Home h)) refl _ _ m))
          fine q (inr (TellsSlot line out m)) = inr (TellsSlot line (slot_others world C k s n (Home h) (name.V q) (λ same. let x : name.V q ≡ name.G g = same ∙ named in cc) ∙ out) m)

      rests : (line_of (slot_at s.slots n)).waiters ≡ [] → WatchesAt world C k W P (laid_by s n h (line_of (slot_at s.slots n)).is_marked [])
      rests e = of_name n refl
        where
          b1 : Bench world C k W (moved L (Rec n) AtHome) (written world C k s n (Home h))
          b1 = rest world C k W L s n h b hand is at e

          by_mark : (p : Pid) → n ≡ name.V p → (t : Bool) → (line_of (slot_at s.slots n)).is_marked ≡ t → WatchesAt world C k W P (told_if t (written world C k s n (Home h)) p (poked_at h))
          by_mark p named true t =
              let s1 = written world C k s n (Home h) in
              subst (λ y. WatchesAt world C k W P (called s1 p (poked_at y))) (ap W.what (sym named) ∙ is)
              (called_watch world C k W (moved L (Rec n) AtHome) s1 p P b1 alive (watch_less world C k W (λ q. P q ⊎ ((q ≡ p) × ((line_of (slot_at s.slots n)).is_marked ≡ true))) (OrIs world C k P p) s1 (resting p named e)
              (λ q f. elim f [ inl a ↦ inl (inl a) | inr m ↦ inl (inr m.0) ])))
          by_mark p named false t =
              let s1 = written world C k s n (Home h) in
              watch_less world C k W (λ q. P q ⊎ ((q ≡ p) × ((line_of (slot_at s.slots n)).is_marked ≡ true))) P s1 (resting p named e)
              (λ q f. elim f [ inl a ↦ inl a | inr m ↦ let x : true ≡ false = sym m.1 ∙ t in absurd (cc x) ])

          any_mark : (g : Pid) → n ≡ name.G g → (t : Bool) → WatchesAt world C k W P (told_if t (written world C k s n (Home h)) g (poked_at h))
          any_mark g named true = called_any world C k W (moved L (Rec n) AtHome) (written world C k s n (Home h)) g (poked_at h) P b1 (group_rests g named e)
          any_mark g named false = group_rests g named e

          of_name : (m : Name) → n ≡ m → WatchesAt world C k W P (told_if (line_of (slot_at s.slots n)).is_marked (written world C k s n (Home h)) (pid_named n) (poked_at h))
          of_name (name.V p) named = subst (λ m. WatchesAt world C k W P (told_if (line_of (slot_at s.slots n)).is_marked (written world C k s n (Home h)) (pid_named m) (poked_at h))) (sym named) (by_mark p named (line_of (slot_at s.slots n)).is_marked refl)
          of_name (name.G g) named = subst (λ m. WatchesAt world C k W P (told_if (line_of (slot_at s.slots n)).is_marked (written world C k s n (Home h)) (pid_named m) (poked_at h))) (sym named) (any_mark g named (line_of (slot_at s.slots n)).is_marked)

      go : (ws : List Courier) → (line_of (slot_at s.slots n)).waiters ≡ ws → WatchesAt world C k W P (laid_by s n h (line_of (slot_at s.slots n)).is_marked ws)
      go [] e = rests e
      go (c ∷ cs) e = handed c cs e

  pub given_watch : (W : Contents) (L : Places) (s : State) (n : Name) (h : Held) (P : Pid → Type 0) → Bench world C k W L s → L (Rec n) ≡ Hand → W.what n ≡ h → AreAlive W → WatchesAt world C k W P s → WatchesAt world C k W P (given_back s n h)
  given_watch W L s n h P b hand is alive w = go (home n s.nodes == s.id) refl
    where
      go : (t : Bool) → (home n s.nodes == s.id) ≡ t → WatchesAt world C k W P (cond t (laid s n h) (posted s (home n s.nodes) (message.Put n h)))
      go true t = laid_watch W L s n h P b hand is (ap (home n) (sym b.nodes) ∙ eqb-true _ _ t ∙ b.id) alive w
      go false t = watch_post world C k W P s (home n s.nodes) (message.Put n h) (RecordItem n h) (λ xs. refl) tt w

  pub all_given_watch : (W : Contents) (L : Places) (p : Pid) (s : State) (hs : List (Name × Held)) (P : Pid → Type 0) → Bench world C k W L s → L (Proc p) ≡ Hand → ((n : Name) → listed hs n ≡ carried W L p n) → Once hs → AreAlive W →
      WatchesAt world C k W P s → WatchesAt world C k W P (all_given_back s hs)
  all_given_watch W L p s [] P b hand has once alive w = w
  all_given_watch W L p s (e ∷ es) P b hand has once alive w =
      let m = e.0 in
      let mine = carried_some p (L (Rec m)) (W.what m) e.1 (sym (has m) ∙ ap (λ b. cond b (Some e.1) (listed es m)) (is_name-same m)) in
      let L1 : Places = moved L (Rec m) Hand in
      let b1 = drop world C k W L s p m b hand mine.0 in
      let a = given_keeps world C k W L1 s m e.1 b1 (moved-same L (Rec m) Hand) mine.1 in
      let hand2 : a.places (Proc p) ≡ Hand = a.keeps.hand p tt hand in
      all_given_watch W a.places p (given_back s m e.1) es P a.bench hand2 (λ n. listed_rest W L a.places p e es has once n (a.keeps.bags p tt (inl hand) n (W.what n))) once.1 alive
      (given_watch W L1 s m e.1 P b1 (moved-same L (Rec m) Hand) mine.1 alive w)

  pub bag_watch : (W : Contents) (L : Places) (p : Pid) (s : State) (bag : Bag) (P : Pid → Type 0) → Bench world C k W L s → L (Proc p) ≡ Hand → BagFits W L p bag → AreAlive W → WatchesAt world C k W P s → WatchesAt world C k W P (all_given_back s (all_held bag))
  bag_watch W L p s bag P b hand f = all_given_watch W L p s (all_held bag) P b hand (λ n. listed_all bag f.vprocs f.groups n ∙ f.holds n) (once_all bag.vprocs bag.groups f.vprocs f.groups)

  -- ---- a record is taken, or waited for
  pub take_watch : (W : Contents) (L : Places) (s : State) (x : Name) (h : Held) (P : Pid → Type 0) → slot_at s.slots x ≡ Home h → WatchesAt world C k W P s → WatchesAt world C k W P (written world C k s x (Out nobody))
  take_watch W L s x h P rests w =
      let s' = written world C k s x (Out nobody) in
      watch_still world C k W P s s' w (more_written world C k s s' x (Out nobody) refl refl refl (λ line out m. let e : Home h ≡ Out line = sym rests ∙ out in absurd (cc e)))
      (write_same world C k s x (Out nobody) (ap (λ a. (line_of a).waiters) (slot_at-nobody s.slots x) ∙ sym (ap (λ a. (line_of a).waiters) rests))) (own_parked world C k W P s w) (own_marks world C k W P s w)

  pub join_watch : (W : Contents) (L : Places) (s : State) (c : Courier) (x : Name) (line : Line Courier) (P : Pid → Type 0) → home x world.nodes ≡ k → slot_at s.slots x ≡ Out line → WatchesAt world C k W P s → WatchesAt world C k W P (written world C k s x (Out (joined line c)))
  join_watch W L s c x line P at out w =
      let s' = written world C k s x (Out (joined line c)) in
      let stands : slot_at s'.slots x ≡ Out (joined line c) = subst (λ a. slot_at (with_slot s.slots x (Out (record { is_marked = (line_of a).is_marked; waiters = line.waiters ++ c ∷ [] }))) x ≡ Out (record { is_marked = (line_of a).is_marked; waiters = line.waiters ++ c ∷ [] })) out (slot_at-put_line s.slots x (line.waiters ++ c ∷ [])) in
      watch_put world C k W P s s' (InLine x) (CourierItem c) w
      (more_written world C k s s' x (Out (joined line c)) refl refl refl (λ l is m. (joined line c, stands, (let same : l ≡ line = line_same l line (slot_at s.slots x) (slot_at s.slots x) is out refl in ap (λ (y : Line Courier). y.is_marked) (sym same) ∙ m))))
      (line_changes world C k s s' x line.waiters c [] at (ap (λ a. (line_of a).waiters) out ∙ sym (append-nil line.waiters)) (ap (λ a. (line_of a).waiters) stands) (λ m ne. slot_at-put_other s.slots x m _ ne) refl refl refl)
      tt (own_parked world C k W P s w) (own_marks world C k W P s w)
    where
      line_same : (a b : Line Courier) (x y : Slot Held (Line Courier)) → x ≡ Out a → y ≡ Out b → x ≡ y → a ≡ b
      line_same a b x y ea eb e = sym (ap line_of ea) ∙ ap line_of e ∙ ap line_of eb

  -- ---- an image comes to stand here
  pub placed_watch : (W : Contents) (L : Places) (s : State) (i : Image) (P : Pid → Type 0) → Bench world C k W L s → L (Proc i.pid) ≡ Hand → ImageWatched W (Fine world C k W P s) (Marks world C k s) i (Wire k k) → WatchesAt world C k W P s → WatchesAt world C k W P (placed s i)
  placed_watch W L s i P b hand arrives w = by (has_value s.marks i.pid) refl
    where
      self : Marks world C k s k i.pid ≡ has_value s.marks i.pid
      self = ap (λ b. has_value (cond b s (C.nodes k)).marks i.pid) (eq-eqb k k refl)

      -- the mark goes
      unmarked : WatchesAt world C k W P (record s { marks = without s.marks i.pid })
      unmarked = watch_on world C k W W L P P s (record s { marks = without s.marks i.pid }) b w (record {
        at = λ q X j x at is h. h;
        parked = λ q j x at is h f. fine q f;
        comes = λ q a j x at is h f. elim f [ inl t ↦ inl (fine q t) | inr m ↦ inr (kept j q (λ same. let e : Hand ≡ In (Wire a j) = sym hand ∙ ap (λ (n : ℕ). L (Proc (record { 0 = n }))) (sym same) ∙ at in cc) (j == k) m) ];
      }) (unchanged world C k s (record s { marks = without s.marks i.pid }) local) (own_parked world C k W P s w) (IsRising-without s.marks i.pid (own_marks world C k W P s w))
        where
          s' : State
          s' = record s { marks = without s.marks i.pid }

          local : (Y : Where) → stored (record s { marks = without s.marks i.pid }) Y ≡ stored s Y
          local (Ready j) = refl
          local (Parked j) = refl
          local (InLine n) = refl
          local (Wire i l) = refl

          fine : (q : Pid) → Fine world C k W P s q → Fine world C k W P (record s { marks = without s.marks i.pid }) q
          fine q (inl a) = inl a
          fine q (inr t) = inr (told_on world W (slot_in world.nodes (state_at C k s)) (slot_in world.nodes (state_at C k (record s { marks = without s.marks i.pid }))) (IsComing C s) (IsComing C (record s { marks = without s.marks i.pid })) q
              (news_kept world C k s (record s { marks = without s.marks i.pid }) refl) (slots_kept world C k s (record s { marks = without s.marks i.pid }) refl q) t)

          kept : (j : ℕ) (q : Pid) → q.0 ≢ i.pid.0 → (t : Bool) → has_value (cond t s (C.nodes j)).marks q ≡ true → has_value (cond t (record s { marks = without s.marks i.pid }) (C.nodes j)).marks q ≡ true
          kept j q ne true e = ap is_some (without-other s.marks i.pid q (own_marks world C k W P s w) ne) ∙ e
          kept j q ne false e = e

      parks : has_value s.marks i.pid ≡ false → IsResting i.phase → (Fine world C k W P s i.pid ⊎ (Marks world C k s k i.pid ≡ true)) → WatchesAt world C k W P (record s { parked = with_value s.parked i.pid i })
      parks none rests (inr m) = let x : true ≡ false = sym m ∙ self ∙ none in absurd (cc x)
      parks none rests (inl f) =
          let s' : State = record s { parked = with_value s.parked i.pid i } in
          let t = parked_put s.parked i.pid i (not_parked world C k W L s i.pid b (hand_out L (Proc i.pid) hand)) in
          let more = more_same world C k s s' refl refl refl in
          watch_put world C k W P s s' (Parked k) (ParkedItem i.pid i) w more (parked_adds world C k s s' t.before (record { pid = i.pid; value = i }) t.after t.is t.more refl refl refl)
          (arrives.0, rests, fine_more world C k W P s s' i.pid more f) (IsRising-put s.parked i.pid i (own_parked world C k W P s w)) (own_marks world C k W P s w)

      stands : (ph : Phase) → i.phase ≡ ph → has_value s.marks i.pid ≡ false → WatchesAt world C k W P (rested s i ph)
      stands phases.Ready e none = watch_queue world C k W P s (waiting.Image i) w
      stands phases.Asleep e none = parks none (subst IsResting (sym e) tt) (subst (λ ph. IfRests ph (Fine world C k W P s i.pid ⊎ (Marks world C k s k i.pid ≡ true))) e arrives.1)
      stands phases.Stopped e none = parks none (subst IsResting (sym e) tt) (subst (λ ph. IfRests ph (Fine world C k W P s i.pid ⊎ (Marks world C k s k i.pid ≡ true))) e arrives.1)
      stands phases.Gone e none = absurd (subst (λ ph. IfRests ph (Fine world C k W P s i.pid ⊎ (Marks world C k s k i.pid ≡ true))) e arrives.1)

      by : (t : Bool) → has_value s.marks i.pid ≡ t → WatchesAt world C k W P (placed_by s i t)
      by true t = watch_queue world C k W P (record s { marks = without s.marks i.pid }) (waiting.Image (woken i)) unmarked
      by false t = stands i.phase refl t
