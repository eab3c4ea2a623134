-- the first cluster stands for the first table
use Rattle.std.proofs.Common.{◌≡◌, ◌≢◌, inl, inr, ◌==◌, ◌<◌, ◌≤◌, ◌+◌, ◌*◌, ◌/◌, nat_lt, ℕ, zero, suc, Bool, true, false, cond, List, [], ◌∷◌, ◌++◌, length, take, drop, map, refl, sym, ap, ◌∙◌, subst, arith, Option, None, Some, All, length-set}
use Rattle.std.specs.Prelude.{filter, fold, replicate, slice_set, slice_get, count_by}
use Rattle.std.specs.Option.{option_map, option_or}
use Rattle.std.proofs.Math.Seq.{drop-nil}
use Rattle.std.proofs.lemmas.Bool.{eqb-true, eqb-false, eq-eqb, ne_eqb, lt-ltb}
use Rattle.std.proofs.lemmas.List.{length-replicate}
use Rattle.std.proofs.lemmas.List.Elements.{All-set, All-replicate}
use Rattle.std.proofs.lemmas.List.Sums.{length-filter, count_by-le-length}
use Rattle.unix_names.specs.declared.Pid.{Pid}
use Rattle.unix_names.specs.declared.Name.{Name}
use Rattle.unix_names.specs.declared.Name.TheVariants as name
use Rattle.unix_names.specs.Names.{home}
use Rattle.unix_names.specs.States.{is_living}
use Rattle.unix_calls.specs.declared.Start.{Start}
use Rattle.unix_calls.specs.declared.World.{World}
use Rattle.unix_calls.specs.Valid.{IsStart, IsValid, starts_at}
use Rattle.signal_state.specs.Sig.{fresh, generated_all}
use Rattle.list_laws.specs.Keyed.{at, Distinct, Each}
use Rattle.list_laws.proofs.Elements.{each_head, each_rest}
use Rattle.list_laws.proofs.Filters.{mapped_none, mapped_some}
use Rattle.list_laws.proofs.Finding.{at-append, at-append_none, absent_differs, absent_rest, found}
use Rattle.vproc_record.specs.declared.Vproc.{Vproc}
use Rattle.group_record.specs.declared.Group.{Group}
use Rattle.cluster_contents.proofs.Signals.{vproc_is}
use Rattle.group_record.specs.declared.LogEntry.{LogEntry}
use Rattle.group_record.specs.Members.{from_of}
use Rattle.group_record.specs.Log.{concerns}
use Rattle.sig_stream.specs.Streams.{stream}
use Rattle.proc_image.specs.Scripts.{nobody}
use Rattle.proc_image.specs.Follows.{started, first_running}
use Rattle.proc_image.specs.Images.{start_image}
use Rattle.record_bag.specs.declared.Held.TheVariants as held
use Rattle.record_bag.specs.Kinds.{absent}
use Rattle.record_table.specs.declared.slot.Slot.TheVariants.{Home}
use Rattle.record_table.specs.Places.{line_of}
use Rattle.process_table.specs.declared.Row.{Row}
use Rattle.process_table.specs.Rows.{is_stopped, row_of}
use Rattle.kernel_model.specs.Legal.{first_row, booted, boot}
use Rattle.kernel_model.specs.Sound.{IsSound}
use Rattle.kernel_laws.proofs.Rows.{number, row_pid, row_here}
use Rattle.kernel_laws.proofs.Starts.{start_number, valid_pids}
use Rattle.kernel_laws.proofs.Boot.{IsFirst, boot_first, boot_sound}
use Rattle.history_laws.specs.Living.{IsOver}
use Rattle.list_laws.proofs.Middles.{at-append_other, at-append_same}
use Rattle.node_state.specs.declared.Waiting.TheVariants as waiting
use Rattle.cluster_state.specs.Cluster.{first_cluster}
use Rattle.cluster_contents.specs.Placement.{ItemFits, CourierItem, Where, Ready, Parked, InLine, Wire, Spot, In, Hand, AtHome, Nowhere, ProcSpot, Token, Proc, Rec, Places, View, view, Contents, Item, ImageItem, Lacks, Occurs, Fits, SlotIs, IsUngiven, Known}
use Rattle.cluster_moves.specs.Benches.{of_waiting}
use Rattle.decide_law.specs.Agrees.{RecordAgrees}
use Rattle.decide_law.specs.Law.{IsOwn}
use Rattle.fork_laws.proofs.Lengths.{booted_short}
use Rattle.cluster_contents.specs.Standing.{ProcessIs, ProgressNames}
use Rattle.cluster_contents.specs.Numbers.{IsShort}
use Rattle.cluster_contents.proofs.Known.{known_small, known_nobody, short_one, short_nobody}
use Rattle.unix_names.specs.Sets.{IsSignals}
use Rattle.unix_names.proofs.SetLaws.{IsSignals-none}
use Rattle.std.proofs.lemmas.Nat.{div-mul-add}
use Rattle.node_core.specs.declared.led.Led.{Led}
use Rattle.node_core.specs.First.{led_number, led_starts, first_vproc, first_group, is_at, first_state}
use Rattle.node_core.proofs.FirstLaws.{led-pids}
use Rattle.cluster_state.specs.Cluster.{first_cluster}
use Rattle.cluster_moves.specs.Benches.{items, slots}
use Rattle.cluster_stands.specs.Stands.{StandsBy}
use Rattle.cluster_stands.proofs.FirstRecords.{led_row, led_group, first_what, first_kind, slot_v, slot_g, first_agrees, boot_leds, start_led}

-- ---- the rows of the starts
booted_kept : (starts : List Start) (earlier : List Row) (q : Pid) (c : Row) → row_of earlier q ≡ Some c → row_of (booted earlier starts) q ≡ Some c
booted_kept [] earlier q c e = e
booted_kept (start ∷ starts) earlier q c e =
    let x = first_row earlier start in
    booted_kept starts (earlier ++ x ∷ []) q c (at-append number q.0 earlier (x ∷ []) ∙ ap (λ o. option_or o (row_of (x ∷ []) q)) e)

booted_none : (starts : List Start) (earlier : List Row) (q : Pid) → row_of earlier q ≡ None → at start_number q.0 starts ≡ None → row_of (booted earlier starts) q ≡ None
booted_none [] earlier q absent none = absent
booted_none (start ∷ starts) earlier q absent none =
    booted_none starts (earlier ++ first_row earlier start ∷ []) q
    (at-append_none number q.0 earlier (first_row earlier start) (absent_differs start_number q.0 start starts none) absent)
    (absent_rest start_number q.0 start starts none)

booted_some : (starts : List Start) (earlier : List Row) (q : Pid) (s : Start) → row_of earlier q ≡ None → at start_number q.0 starts ≡ Some s → (c : Row) × (row_of (booted earlier starts) q ≡ Some c)
booted_some [] earlier q s absent e = absurd (cc e)
booted_some (start ∷ starts) earlier q s absent e = booted_by start starts earlier q s (start.pid.0 == q.0) refl absent e (λ still later. booted_some starts (earlier ++ first_row earlier start ∷ []) q s still later)
  where
    booted_by : (start : Start) (starts : List Start) (earlier : List Row) (q : Pid) (s : Start) (b : Bool) → (start.pid.0 == q.0) ≡ b → row_of earlier q ≡ None → cond b (Some start) (at start_number q.0 starts) ≡ Some s →
        (row_of (earlier ++ first_row earlier start ∷ []) q ≡ None → at start_number q.0 starts ≡ Some s → (c : Row) × (row_of (booted (earlier ++ first_row earlier start ∷ []) starts) q ≡ Some c)) →
        (c : Row) × (row_of (booted (earlier ++ first_row earlier start ∷ []) starts) q ≡ Some c)
    booted_by start starts earlier q s true is absent e later =
        let x = first_row earlier start in
        (x, booted_kept starts (earlier ++ x ∷ []) q x (at-append_same number q.0 earlier x is absent))
    booted_by start starts earlier q s false is absent e later =
        later (at-append_other number q.0 earlier (first_row earlier start) is ∙ absent) e

found_at : (q : ℕ) (starts : List Start) (s : Start) → at start_number q starts ≡ Some s → (k : ℕ) × (slice_get starts k ≡ Some s)
found_at q [] s e = absurd (cc e)
found_at q (start ∷ starts) s e = found_by start starts s (start.pid.0 == q) e (λ h. found_at q starts s h)
  where
    found_by : (start : Start) (starts : List Start) (s : Start) (b : Bool) → cond b (Some start) (at start_number q starts) ≡ Some s → (at start_number q starts ≡ Some s → (k : ℕ) × (slice_get starts k ≡ Some s)) →
        (k : ℕ) × (slice_get (start ∷ starts) k ≡ Some s)
    found_by start starts s true e later = (zero, e)
    found_by start starts s false e later = let h = later e in (suc h.0, h.1)

-- ---- counting
count_lt : {X : Type 0} (t : X → Bool) (xs : List X) (k : ℕ) (x : X) → slice_get xs k ≡ Some x → t x ≡ true → length (filter t (take k xs)) + 1 ≤ length (filter t xs)
count_lt t [] k x e passes = cc
count_lt t (y ∷ ys) zero x e passes =
    let same : y ≡ x = cc in
    let one : t y ≡ true = ap t same ∙ passes in
    let long : length (filter t (y ∷ ys)) ≡ suc (length (filter t ys)) = ap (λ b. length (cond b (y ∷ filter t ys) (filter t ys))) one in
    omega arith
count_lt t (y ∷ ys) (suc k) x e passes = go (t y) (count_lt t ys k x e passes)
  where
    go : (b : Bool) → length (filter t (take k ys)) + 1 ≤ length (filter t ys) → length (cond b (y ∷ filter t (take k ys)) (filter t (take k ys))) + 1 ≤ length (cond b (y ∷ filter t ys) (filter t ys))
    go true h = omega arith
    go false h = h

-- ---- images in a queue
module _ (world : World) (f : Start → Bool) where
  abbrev queue : List Start → List Item
  queue ss = map of_waiting (map (λ s. waiting.Image (start_image world s)) (filter f ss))

  lacks_starts : (ss : List Start) (p : Pid) → at start_number p.0 ss ≡ None → Lacks (Proc p) (queue ss)
  lacks_starts [] p none = tt
  lacks_starts (s ∷ ss) p none = go (f s) (absent_differs start_number p.0 s ss none) (lacks_starts ss p (absent_rest start_number p.0 s ss none))
    where
      go : (b : Bool) → (s.pid.0 == p.0) ≡ false → Lacks (Proc p) (queue ss) → Lacks (Proc p) (map of_waiting (map (λ s. waiting.Image (start_image world s)) (cond b (s ∷ filter f ss) (filter f ss))))
      go true ne rest = ((λ e. eqb-false _ _ ne (let same : s.pid ≡ p = cc in ap (λ (q : Pid). q.0) same)), rest)
      go false ne rest = rest

  fits_starts : (W : Contents) (L : Places) (X : Where) (ss : List Start) → Distinct start_number ss → Each start_number (λ s. f s ≡ true → ItemFits world W L X (ImageItem (start_image world s))) ss → Fits world W L X (queue ss)
  fits_starts W L X [] distinct each = tt
  fits_starts W L X (s ∷ ss) distinct each =
      go (f s) refl (fits_starts W L X ss distinct.1 (each_rest start_number (λ s. f s ≡ true → ItemFits world W L X (ImageItem (start_image world s))) s ss distinct each))
    where
      go : (b : Bool) → f s ≡ b → Fits world W L X (queue ss) → Fits world W L X (map of_waiting (map (λ s. waiting.Image (start_image world s)) (cond b (s ∷ filter f ss) (filter f ss))))
      go true passes rest = (each_head start_number (λ s. f s ≡ true → ItemFits world W L X (ImageItem (start_image world s))) s ss each passes, lacks_starts ss s.pid distinct.0, rest)
      go false passes rest = rest

  occurs_starts : (ss : List Start) (q : Pid) (s : Start) → at start_number q.0 ss ≡ Some s → f s ≡ true → Occurs (Proc q) (queue ss)
  occurs_starts [] q s e passes = cc
  occurs_starts (x ∷ ss) q s e passes = go (x.pid.0 == q.0) refl e (occurs_starts ss q s)
    where
      in_front : (b : Bool) → Occurs (Proc q) (queue ss) → Occurs (Proc q) (map of_waiting (map (λ s. waiting.Image (start_image world s)) (cond b (x ∷ filter f ss) (filter f ss))))
      in_front true o = inr o
      in_front false o = o

      go : (b : Bool) → (x.pid.0 == q.0) ≡ b → cond b (Some x) (at start_number q.0 ss) ≡ Some s → (at start_number q.0 ss ≡ Some s → f s ≡ true → Occurs (Proc q) (queue ss)) →
          Occurs (Proc q) (map of_waiting (map (λ s. waiting.Image (start_image world s)) (cond (f x) (x ∷ filter f ss) (filter f ss))))
      go true t e rest =
          let same : x ≡ s = cc in
          subst (λ b. Occurs (Proc q) (map of_waiting (map (λ s. waiting.Image (start_image world s)) (cond b (x ∷ filter f ss) (filter f ss))))) (sym (ap f same ∙ passes)) (inl (ap (λ (n : ℕ). Proc (record { 0 = n })) (eqb-true _ _ t)))
      go false t e rest = in_front (f x) (rest e passes)

module _ (world : World) (valid : IsValid world) where
  abbrev leds : List Led
  leds = led_starts world

  abbrev pub first_contents : Contents
  first_contents = record { what = first_what (led_starts world); proc = λ q. option_map (λ s. view (start_image world s)) (at start_number q.0 world.starts); serials = λ j. 2 + starts_at (record { 0 = j }) world.starts }

  abbrev pub spot_of : Option Start → Spot
  spot_of None = Nowhere
  spot_of (Some s) = In (Ready s.node.0)

  abbrev pub first_places : Places
  first_places (Proc q) = spot_of (at start_number q.0 world.starts)
  first_places (Rec n) = AtHome

  differ : Distinct start_number world.starts
  differ = (valid_pids world valid).differ

  start_of : (q : ℕ) (s : Start) (e : at start_number q world.starts ≡ Some s) → IsStart world (take (found_at q world.starts s e).0 world.starts) s
  start_of q s e = let k = found_at q world.starts s e in valid.starts k.0 s k.1

  -- a start's number was given out
  start_known : (q : ℕ) (s : Start) → at start_number q world.starts ≡ Some s → Known world first_contents q
  start_known q s e u =
      let k = found_at q world.starts s e in
      let start = start_of q s e in
      let less = count_lt (λ (x : Start). x.node.0 == s.node.0) world.starts k.0 s k.1 (eq-eqb s.node.0 s.node.0 refl) in
      let before : length (filter (λ (x : Start). x.node.0 == s.node.0) (take k.0 world.starts)) ≡ count_by (λ (x : Start). x.node.0 == s.node.0) (take k.0 world.starts) = length-filter (λ (x : Start). x.node.0 == s.node.0) (take k.0 world.starts) in
      let all : length (filter (λ (x : Start). x.node.0 == s.node.0) world.starts) ≡ count_by (λ (x : Start). x.node.0 == s.node.0) world.starts = length-filter (λ (x : Start). x.node.0 == s.node.0) world.starts in
      let few = count_by-le-length (λ (x : Start). x.node.0 == s.node.0) world.starts in
      let limit = valid.limits.starts in
      let pid = start.pid in
      let is : s.pid.0 ≡ q = found start_number q world.starts s e in
      let is_u = u.is in
      let small = u.small in
      let node : u.node ≡ s.node.0 = omega (arith, pid, is, is_u, small, less, before, all, few, limit) in
      let from : 2 + starts_at (record { 0 = s.node.0 }) world.starts ≤ u.serial = subst (λ j. 2 + starts_at (record { 0 = j }) world.starts ≤ u.serial) node u.from in
      omega (arith, pid, is, is_u, small, less, before, all, node, from)

  row_start : (q : Pid) (c : Row) → row_of (boot world) q ≡ Some c → (s : Start) × (at start_number q.0 world.starts ≡ Some s)
  row_start q c there = go (at start_number q.0 world.starts) refl
    where
      go : (o : Option Start) → at start_number q.0 world.starts ≡ o → (s : Start) × (o ≡ Some s)
      go None e = absurd (cc (booted_none world.starts [] q refl e, there))
      go (Some s) e = (s, refl)

  row_known : (q : Pid) (c : Row) → row_of (boot world) q ≡ Some c → Known world first_contents q.0
  row_known q c there = let s = row_start q c there in start_known q.0 s.0 s.1

  -- and is short
  start_short : (q : ℕ) (s : Start) → at start_number q world.starts ≡ Some s → IsShort q
  start_short q s e =
      let k = found_at q world.starts s e in
      let start = start_of q s e in
      let nodes = valid.limits.nodes in
      let node = start.node in
      let less = count_lt (λ (x : Start). x.node.0 == s.node.0) world.starts k.0 s k.1 (eq-eqb s.node.0 s.node.0 refl) in
      let before : length (filter (λ (x : Start). x.node.0 == s.node.0) (take k.0 world.starts)) ≡ count_by (λ (x : Start). x.node.0 == s.node.0) (take k.0 world.starts) = length-filter (λ (x : Start). x.node.0 == s.node.0) (take k.0 world.starts) in
      let all : length (filter (λ (x : Start). x.node.0 == s.node.0) world.starts) ≡ count_by (λ (x : Start). x.node.0 == s.node.0) world.starts = length-filter (λ (x : Start). x.node.0 == s.node.0) world.starts in
      let few = count_by-le-length (λ (x : Start). x.node.0 == s.node.0) world.starts in
      let limit = valid.limits.starts in
      let pid = start.pid in
      let is : s.pid.0 ≡ q = found start_number q world.starts s e in
      omega (arith, pid, is, nodes, node, less, before, all, few, limit)

  row_short : (q : Pid) (c : Row) → row_of (boot world) q ≡ Some c → IsShort q.0
  row_short q c there = let s = row_start q c there in start_short q.0 s.0 s.1

  vars_long : (starts : List Start) (vars : List ℕ) → length (fold (λ vars (start : Start). slice_set vars start.var start.pid.0) vars starts) ≡ length vars
  vars_long [] vars = refl
  vars_long (start ∷ starts) vars = vars_long starts (slice_set vars start.var start.pid.0) ∙ length-set vars start.var start.pid.0

  vars_known : (Given : ℕ → Type 0) (starts : List Start) (vars : List ℕ) → Distinct start_number starts → Each start_number (λ s. Given s.pid.0) starts → All Given vars → All Given (fold (λ vars (start : Start). slice_set vars start.var start.pid.0) vars starts)
  vars_known Given [] vars distinct known all = all
  vars_known Given (start ∷ starts) vars distinct known all =
      vars_known Given starts (slice_set vars start.var start.pid.0) distinct.1 (each_rest start_number (λ s. Given s.pid.0) start starts distinct known)
      (All-set Given vars start.var start.pid.0 (each_head start_number (λ s. Given s.pid.0) start starts known) all)

  -- ---- the records
  leds_first : IsFirst (map led_row (led_starts world))
  leds_first = subst IsFirst (boot_leds world) (boot_first world valid)

  leds_sound : IsSound (map led_row (led_starts world))
  leds_sound = subst IsSound (boot_leds world) (boot_sound world valid)

  pub leds_apart : Distinct led_number (led_starts world)
  leds_apart = led-pids world valid

  -- a start's node is the home of its number
  start_home : (q : ℕ) (s : Start) → at start_number q world.starts ≡ Some s → cond (nat_lt (q / 1000000) world.nodes) (q / 1000000) 0 ≡ s.node.0
  start_home q s e =
      let k = found_at q world.starts s e in
      let start = start_of q s e in
      let few = count_by-le-length (λ (x : Start). x.node.0 == s.node.0) (take k.0 world.starts) in
      let short = take_short k.0 world.starts in
      let limit = valid.limits.starts in
      let pid = start.pid in
      let is : s.pid.0 ≡ q = found start_number q world.starts s e in
      let quotient : q / 1000000 ≡ s.node.0 = ap (λ n. n / 1000000) (sym is ∙ (pid ∙ times s.node.0 (starts_at s.node (take k.0 world.starts)))) ∙ div-mul-add s.node.0 1000000 (2 + starts_at s.node (take k.0 world.starts)) (omega (arith, few, short, limit)) in
      ap (λ n. cond (nat_lt n world.nodes) n 0) quotient ∙ ap (λ b. cond b s.node.0 0) (lt-ltb s.node.0 world.nodes start.node)
    where
      times : (n m : ℕ) → 1000000 * n + 2 + m ≡ n * 1000000 + (2 + m)
      times n m = omega arith

      take_short : (k : ℕ) (xs : List Start) → length (take k xs) ≤ length xs
      take_short zero xs = omega arith
      take_short (suc k) [] = omega arith
      take_short (suc k) (x ∷ xs) = let h = take_short k xs in omega (arith, h)

  pub led_node : (q : Pid) (led : Led) → at led_number q.0 (led_starts world) ≡ Some led → led.start.node.0 < world.nodes
  led_node q led e = (start_of q.0 led.start (start_led world q ∙ ap (option_map (λ (l : Led). l.start)) e)).node

  led_home : (q : Pid) (led : Led) → at led_number q.0 (led_starts world) ≡ Some led → led.start.node.0 ≡ home (name.V q) world.nodes
  led_home q led e = sym (start_home q.0 led.start (start_led world q ∙ ap (option_map (λ (l : Led). l.start)) e))

  pub first_slot : (n : Name) → slots world.nodes (first_cluster world) n ≡ Home (first_what (led_starts world) n)
  first_slot (name.V q) = slot_v (home (name.V q) world.nodes) (led_starts world) leds_apart q (λ led e. led_home q led e)
  first_slot (name.G g) = slot_g (home (name.G g) world.nodes) (led_starts world) leds_apart g (λ led e. led_home g led e)

  first_items : (X : Where) → Fits world first_contents first_places X (items world.nodes (first_cluster world) X)
  first_items (Ready k) = fits_starts world (is_at k) first_contents first_places (Ready k) world.starts differ
      (λ s there here. (ap spot_of there ∙ ap (λ j. In (Ready j)) (eqb-true s.node.0 k here), ap (option_map (λ s. view (start_image world s))) there, λ n. refl))
  first_items (Parked k) = tt
  first_items (InLine n) = subst (λ a. Fits world first_contents first_places (InLine n) (map CourierItem (line_of a).waiters)) (sym (first_slot n)) tt
  first_items (Wire i j) = tt

  first_whole : (t : Token) (X : Where) → first_places t ≡ In X → Occurs t (items world.nodes (first_cluster world) X)
  first_whole (Rec n) X e = cc
  first_whole (Proc q) X e = go (at start_number q.0 world.starts) refl e
    where
      go : (o : Option Start) → at start_number q.0 world.starts ≡ o → spot_of o ≡ In X → Occurs (Proc q) (items world.nodes (first_cluster world) X)
      go None f e = cc
      go (Some s) f e =
          let here : Ready s.node.0 ≡ X = in_same s e in
          subst (λ Y. Occurs (Proc q) (items world.nodes (first_cluster world) Y)) here (occurs_starts world (is_at s.node.0) world.starts q s f (eq-eqb s.node.0 s.node.0 refl))
        where
          in_same : (s : Start) → In (Ready s.node.0) ≡ In X → Ready s.node.0 ≡ X
          in_same s e = cc

  -- ---- the processes
  first_process : (q : Pid) → ProcessIs world (row_of (boot world) q) (first_running world q.0) (first_contents.proc q)
  first_process q = go (at start_number q.0 world.starts) refl
    where
      go : (o : Option Start) → at start_number q.0 world.starts ≡ o → ProcessIs world (row_of (boot world) q) (option_map (started world) o) (option_map (λ s. view (start_image world s)) o)
      go None e = subst IsOver (sym (booted_none world.starts [] q refl e)) tt
      go (Some s) e =
          let c = booted_some world.starts [] q s refl e in
          let first = (boot_first world valid).each c.0 (row_here (boot world) q c.0 c.1) in
          record {
            process = c.0;
            there = c.1;
            lives = ap is_living first.runs;
            progress = refl;
            stopped = sym (ap is_stopped first.runs);
            script = (start_of q.0 s e).script;
            vars = vars_long world.starts (replicate world.vars nobody) ∙ length-replicate world.vars nobody;
          }

  no_signals : (p : Pid) (uid from : ℕ) (log : List LogEntry) → log ≡ [] → map (λ (e : LogEntry). e.signal) (filter (concerns p uid) (drop from log)) ≡ []
  no_signals p uid from log none = ap (λ l. map (λ (e : LogEntry). e.signal) (filter (concerns p uid) l)) (ap (drop from) none ∙ drop-nil from)

  first_vproc_is : (q : Pid) (v : Vproc) → first_what (led_starts world) (name.V q) ≡ held.V (Some v) → (led : Led) × (at led_number q.0 (led_starts world) ≡ Some led) × (v ≡ first_vproc led)
  first_vproc_is q v e = go (at led_number q.0 (led_starts world)) refl e
    where
      go : (o : Option Led) → at led_number q.0 (led_starts world) ≡ o → held.V (option_map first_vproc o) ≡ held.V (Some v) → (led : Led) × (at led_number q.0 (led_starts world) ≡ Some led) × (v ≡ first_vproc led)
      go None f e = cc
      go (Some led) f e = (led, f, sym (vproc_is (first_vproc led) v e))

  empty_log : (o : Option Led) (group : Group) → held.G (led_group (led_starts world) o) ≡ held.G (Some group) → group.log ≡ []
  empty_log None group e = cc
  empty_log (Some led) group e = go (led.leader.0 == led.start.pid.0) e
    where
      go : (b : Bool) → held.G (cond b (Some (first_group (led_starts world) led.leader)) None) ≡ held.G (Some group) → group.log ≡ []
      go true e = let same : first_group (led_starts world) led.leader ≡ group = cc in ap (λ (y : Group). y.log) (sym same)
      go false e = cc

  first_owns : (q : Pid) (x : View) (r : Row) (v : Vproc) (g : Group) → first_contents.proc q ≡ Some x → row_of (boot world) q ≡ Some r → first_contents.what (name.V q) ≡ held.V (Some v) → first_contents.what (name.G v.group) ≡ held.G (Some g) → IsOwn x.own v g r
  first_owns q x r v g is there hv hg =
      let s = mapped_some (λ s. view (start_image world s)) (at start_number q.0 world.starts) x is in
      let first = (boot_first world valid).each r (row_here (boot world) q r there) in
      let vp = first_vproc_is q v hv in
      let none : stream v g ≡ [] = ap (λ l. l ++ map (λ (e : LogEntry). e.signal) (filter (concerns v.pid v.uid) (drop (from_of g.members v.pid) g.log))) (ap (λ (y : Vproc). y.backlog) vp.2)
      ∙ no_signals v.pid v.uid (from_of g.members v.pid) g.log (empty_log (at led_number (v.group).0 (led_starts world)) g hg) in
      subst (λ (y : View). IsOwn y.own v g r) (sym s.2) (record { taken = omega arith; sig = first.signals ∙ ap (generated_all fresh) (sym (ap (drop 0) none)) })

  pub first_loc : (q : Pid) (v : Vproc) → first_contents.what (name.V q) ≡ held.V (Some v) → v.loc.0 < world.nodes
  first_loc q v hv =
      let l = first_vproc_is q v hv in
      let e : at start_number q.0 world.starts ≡ Some (l.0).start = start_led world q ∙ ap (option_map (λ (l : Led). l.start)) l.1 in
      subst (λ (y : Vproc). y.loc.0 < world.nodes) (sym l.2) (start_of q.0 (l.0).start e).node

  filter_out : (f : Start → Bool) (ss : List Start) → ((k : ℕ) (s : Start) → slice_get ss k ≡ Some s → f s ≡ false) → filter f ss ≡ []
  filter_out f [] no_one = refl
  filter_out f (s ∷ ss) no_one = ap (λ b. cond b (s ∷ filter f ss) (filter f ss)) (no_one zero s refl) ∙ filter_out f ss (λ k x e. no_one (suc k) x e)

  nobody_outside : (j : ℕ) → world.nodes ≤ j → (first_state world j).ready ≡ []
  nobody_outside j le = ap (map (λ s. waiting.Image (start_image world s))) (filter_out (is_at j) world.starts (λ k s e. ne_eqb s.node.0 j (λ same. let lt = (valid.starts k s e).node in omega (arith, lt, le, same))))

  pub first_stands : StandsBy world 66 (boot world) (first_running world) (first_cluster world) first_contents first_places
  first_stands = record {
    nodes = record { id = λ j lt. refl; nodes = λ j lt. refl; serial = λ j lt. refl; outside = nobody_outside; out = λ j. refl };
    matches = record {
      kinds = first_kind (led_starts world);
      slots = λ n. subst (λ a. SlotIs AtHome (first_what (led_starts world) n) a) (sym (first_slot n)) (refl, refl);
      items = first_items;
      whole = first_whole;
    };
    standing = record {
      sound = boot_sound world valid;
      pending = λ q r there. subst (λ x. IsSignals x.pending) (sym ((boot_first world valid).each r (row_here (boot world) q r there)).signals) IsSignals-none;
      agrees = λ n. subst (λ rows. RecordAgrees rows n (first_what (led_starts world) n)) (sym (boot_leds world)) (first_agrees (led_starts world) leds_first leds_sound n);
      procs = first_process;
      owns = first_owns;
      places = first_loc;
    };
    missing = λ q none. (ap spot_of (mapped_none (λ s. view (start_image world s)) (at start_number q.0 world.starts) none), λ n. refl);
    knows = record {
      table = λ q r there.
          let first = (boot_first world valid).each r (row_here (boot world) q r there) in
          let group = row_known r.group first.leader first.led in (
            subst (λ (p : Pid). Known world first_contents p.0) (sym (row_pid (boot world) q r there)) (row_known q r there),
            subst (λ n. Known world first_contents n) (sym first.system_child) (known_small world first_contents 1 (λ j. omega arith) (omega arith)),
            group,
            subst (λ (p : Pid). Known world first_contents p.0) (sym first.session) group,
          );
      procs = λ q x is.
          let s = mapped_some (λ s. view (start_image world s)) (at start_number q.0 world.starts) x is in
          subst (λ (y : View). ProgressNames (Known world first_contents) y.at) (sym s.2) (record {
            maker = known_nobody world first_contents;
            vars = vars_known (Known world first_contents) world.starts (replicate world.vars nobody) differ (λ x h. start_known x.pid.0 x h) (All-replicate (Known world first_contents) world.vars nobody (known_nobody world first_contents));
          });
      short_table = λ q r there.
          let first = (boot_first world valid).each r (row_here (boot world) q r there) in
          let group = row_short r.group first.leader first.led in (
            subst (λ (p : Pid). IsShort p.0) (sym (row_pid (boot world) q r there)) (row_short q r there),
            subst IsShort (sym first.system_child) short_one,
            group,
            subst (λ (p : Pid). IsShort p.0) (sym first.session) group,
          );
      short_procs = λ q x is.
          let s = mapped_some (λ s. view (start_image world s)) (at start_number q.0 world.starts) x is in
          subst (λ (y : View). ProgressNames IsShort y.at) (sym s.2) (record {
            maker = short_nobody;
            vars = vars_known IsShort world.starts (replicate world.vars nobody) differ (λ x h. start_short x.pid.0 x h) (All-replicate IsShort world.vars nobody short_nobody);
          });
      no_row = λ q u. no_row q u (row_of (boot world) q) refl;
      at_home = λ n u. refl;
      least = λ j. omega arith;
      few = λ j. let a = count_by-le-length (λ (x : Start). x.node.0 == j) world.starts in let b = valid.limits.starts in omega (arith, a, b);
      short = let a = booted_short [] world.starts in let b = valid.limits.starts in omega (arith, a, b);
    };
    idle = none_in_hand;
    present = λ q x is. somewhere (at start_number q.0 world.starts) x is;
    sane = record { procs = λ q. spot_sane (at start_number q.0 world.starts); recs = λ n. tt };
  }
    where
      somewhere : (o : Option Start) (x : View) → option_map (λ s. view (start_image world s)) o ≡ Some x → spot_of o ≢ Nowhere
      somewhere None x is = cc
      somewhere (Some s) x is = λ e. cc

      spot_sane : (o : Option Start) → ProcSpot (spot_of o)
      spot_sane None = tt
      spot_sane (Some s) = tt

      none_there : (o : Option Start) → spot_of o ≢ Hand
      none_there None e = cc
      none_there (Some s) e = cc

      none_in_hand : (u : Token) → first_places u ≢ Hand
      none_in_hand (Proc q) e = none_there (at start_number q.0 world.starts) e
      none_in_hand (Rec n) e = cc

      no_row : (q : Pid) → IsUngiven world first_contents.serials q.0 → (o : Option Row) → row_of (boot world) q ≡ o → o ≡ None
      no_row q u None e = refl
      no_row q u (Some r) e = absurd (row_known q r e u)
