-- where a cluster is quiet no courier is left, and every record is at home
use Rattle.std.proofs.Common.{◌≡◌, ◌≢◌, inl, inr, ◌<◌, ◌≤◌, ◌==◌, nat_lt, ℕ, zero, suc, Bool, true, false, cond, List, [], ◌∷◌, ◌++◌, length, map, refl, sym, ap, ◌∙◌, subst, arith, Option, None, Some}
use Rattle.std.specs.Prelude.{filter, is_some}
use Rattle.std.proofs.lemmas.Bool.{eq-eqb, ltb-true, ltb-false, lt-ltb}
use Rattle.unix_names.specs.declared.Pid.{Pid}
use Rattle.unix_names.specs.declared.Name.{Name}
use Rattle.unix_names.specs.declared.Name.TheVariants as name
use Rattle.unix_calls.specs.declared.World.{World}
use Rattle.list_laws.proofs.Filters.{some_same}
use Rattle.ordered_table.specs.declared.Entry.{Entry}
use Rattle.proc_image.specs.declared.image.Image.{Image}
use Rattle.proc_image.specs.Follows.{Running}
use Rattle.record_bag.specs.declared.Held.{Held}
use Rattle.record_bag.specs.Bags.{is_held}
use Rattle.unix_names.specs.Names.{is_before}
use Rattle.record_table.specs.declared.slot.Slot.{Slot}
use Rattle.record_table.specs.declared.slot.Slot.TheVariants.{Home, Out}
use Rattle.record_table.specs.declared.slot.Line.{Line}
use Rattle.record_table.specs.Places.{line_of}
use Rattle.courier_core.specs.declared.courier.Courier.{Courier}
use Rattle.courier_core.proofs.Order.{before-itself}
use Rattle.process_table.specs.declared.Row.{Row}
use Rattle.process_table.specs.Rows.{row_of}
use Rattle.kernel_laws.proofs.Rows.{row_pid}
use Rattle.cluster_state.specs.Cluster.{Cluster}
use Rattle.cluster_contents.specs.Placement.{GoesHome, view, Where, Ready, Parked, InLine, Wire, Spot, In, Hand, AtHome, With, Nowhere, ProcSpot, RecSpot, Token, Proc, Rec, Places, View, Contents, Item, CourierItem, ImageItem, ParkedItem, RecordItem, token, carried_by, carried, Bare, WaitsFor, CourierFits, ItemFits, Occurs, Fits, SlotIs}
use Rattle.cluster_moves.specs.Benches.{of_waiting, of_parked, on_wire, out_to}
use Rattle.cluster_contents.specs.Standing.{ProcessIs}
use Rattle.cluster_state.specs.Quiet.{IsQuiet}
use Rattle.cluster_moves.specs.Benches.{items, slots}
use Rattle.cluster_stands.specs.Stands.{StandsBy}
use Rattle.cluster_laws.specs.Wires.{StaysInside}
use Rattle.cluster_moves.proofs.Returns.{is_held_some}

-- ---- counting rows
fewer : (f g : Row → Bool) → ((r : Row) → g r ≡ true → f r ≡ true) → (rows : List Row) → length (filter g rows) ≤ length (filter f rows)
fewer f g more [] = omega arith
fewer f g more (r ∷ rs) = go (f r) refl (g r) refl (fewer f g more rs)
  where
    go : (a : Bool) → f r ≡ a → (b : Bool) → g r ≡ b → length (filter g rs) ≤ length (filter f rs) → length (cond b (r ∷ filter g rs) (filter g rs)) ≤ length (cond a (r ∷ filter f rs) (filter f rs))
    go true fr true gr h = omega arith
    go true fr false gr h = omega arith
    go false fr true gr h = let e : false ≡ true = sym fr ∙ more r gr in cc
    go false fr false gr h = h

less : (f g : Row → Bool) → ((r : Row) → g r ≡ true → f r ≡ true) → (rows : List Row) (q : Pid) (r : Row) → row_of rows q ≡ Some r → f r ≡ true → g r ≡ false → length (filter g rows) < length (filter f rows)
less f g more [] q r e fr gr = cc
less f g more (x ∷ xs) q r e fr gr = go (x.pid.0 == q.0) e (f x) refl (g x) refl (λ t. less f g more xs q r t fr gr) (fewer f g more xs)
  where
    go : (t : Bool) → cond t (Some x) (row_of xs q) ≡ Some r → (a : Bool) → f x ≡ a → (b : Bool) → g x ≡ b → (row_of xs q ≡ Some r → length (filter g xs) < length (filter f xs)) → length (filter g xs) ≤ length (filter f xs) →
        length (cond b (x ∷ filter g xs) (filter g xs)) < length (cond a (x ∷ filter f xs) (filter f xs))
    go true t true fx true gx rest le = let e : true ≡ false = sym gx ∙ ap g (some_same x r t) ∙ gr in cc
    go true t true fx false gx rest le = omega arith
    go true t false fx b gx rest le = let e : false ≡ true = sym fx ∙ ap f (some_same x r t) ∙ fr in cc
    go false t true fx true gx rest le = let h = rest t in omega arith
    go false t true fx false gx rest le = let h = rest t in omega arith
    go false t false fx true gx rest le = let e : false ≡ true = sym fx ∙ more x gx in cc
    go false t false fx false gx rest le = rest t

-- ---- the order of names
lt_trans : (a b c : ℕ) → nat_lt a b ≡ true → nat_lt b c ≡ true → nat_lt a c ≡ true
lt_trans a b c ab bc = let x = ltb-true a b ab in let y = ltb-true b c bc in lt-ltb a c (omega arith)

before-trans : (a b c : Name) → is_before a b ≡ true → is_before b c ≡ true → is_before a c ≡ true
before-trans (name.V a) (name.V b) (name.V c) ab bc = lt_trans a.0 b.0 c.0 ab bc
before-trans (name.V a) (name.V b) (name.G c) ab bc = refl
before-trans (name.V a) (name.G b) (name.V c) ab bc = cc
before-trans (name.V a) (name.G b) (name.G c) ab bc = refl
before-trans (name.G a) (name.V b) c ab bc = cc
before-trans (name.G a) (name.G b) (name.V c) ab bc = cc
before-trans (name.G a) (name.G b) (name.G c) ab bc = lt_trans a.0 b.0 c.0 ab bc

lt_total : (a b : ℕ) → nat_lt b a ≡ false → a ≢ b → nat_lt a b ≡ true
lt_total a b e ne = let h = ltb-false b a e in lt-ltb a b (omega (arith, h, ne))

-- who is another name, and not after, is before
before-total : (a b : Name) → is_before b a ≡ false → a ≢ b → is_before a b ≡ true
before-total (name.V a) (name.V b) e ne = lt_total a.0 b.0 e (λ s. ne (ap (λ (n : ℕ). name.V (record { 0 = n })) s))
before-total (name.V a) (name.G b) e ne = refl
before-total (name.G a) (name.V b) e ne = cc
before-total (name.G a) (name.G b) e ne = lt_total a.0 b.0 e (λ s. ne (ap (λ (n : ℕ). name.G (record { 0 = n })) s))

-- ---- what stands in a container
found_item : (world : World) (W : Contents) (L : Places) (X : Where) (t : Token) (xs : List Item) → Fits world W L X xs → Occurs t xs → (x : Item) × (token x ≡ t) × ItemFits world W L X x
found_item world W L X t [] f o = absurd o
found_item world W L X t (x ∷ xs) f (inl e) = (x, e, f.0)
found_item world W L X t (x ∷ xs) f (inr o) = found_item world W L X t xs f.2 o

module _ (world : World) (m : ℕ) (rows : List Row) (running : Running) (C : Cluster) (W : Contents) (L : Places) (s : StandsBy world m rows running C W L) (stays : StaysInside world.nodes C) (quiet : IsQuiet world.nodes C) where
  pub nothing_ready : (k : ℕ) → items world.nodes C (Ready k) ≡ []
  nothing_ready k = ap (map of_waiting) (go (nat_lt k world.nodes) refl)
    where
      go : (b : Bool) → nat_lt k world.nodes ≡ b → (C.nodes k).ready ≡ []
      go true e = quiet.ready k (ltb-true k world.nodes e)
      go false e = s.nodes.outside k (ltb-false k world.nodes e)

  pub no_message : (i j : ℕ) → C.wires i j ≡ []
  no_message i j = go (nat_lt i world.nodes) (nat_lt j world.nodes) refl refl
    where
      go : (a b : Bool) → nat_lt i world.nodes ≡ a → nat_lt j world.nodes ≡ b → C.wires i j ≡ []
      go true true e f = quiet.wires i j (ltb-true i world.nodes e) (ltb-true j world.nodes f)
      go true false e f = stays.to_outside i j (ltb-false j world.nodes f)
      go false b e f = stays.from_outside i j (ltb-false i world.nodes e)

  pub nothing_flies : (i j : ℕ) → items world.nodes C (Wire i j) ≡ []
  nothing_flies i j = ap (λ w. on_wire w ++ out_to j (C.nodes i).out) (no_message i j) ∙ ap (out_to j) (s.nodes.out i)

  -- a courier waits in a line
  pub record IsWaiting (q : Pid) (y : Name) (c : Courier) : Type 0 where
    pub pid : c.image.pid ≡ q
    pub place : L (Proc q) ≡ In (InLine y)
    pub fits : CourierFits world W L c
    pub waits : WaitsFor y c

  not_bare : (q : Pid) (n : Name) → L (Rec n) ≡ With q → Bare W L q → ⊥
  not_bare q n has bare = let e : Some (W.what n) ≡ None = sym (ap (λ o. carried_by q o (W.what n)) has ∙ ap (λ b. cond b (Some (W.what n)) None) (eq-eqb q.0 q.0 refl)) ∙ bare n in cc

  parked_bare : (k : ℕ) (q : Pid) (es : List (Entry Image)) → Fits world W L (Parked k) (map of_parked es) → Occurs (Proc q) (map of_parked es) → Bare W L q
  parked_bare k q [] f o = absurd o
  parked_bare k q (e ∷ es) f (inl same) = let eq : e.pid ≡ q = cc in subst (Bare W L) eq (f.0).3
  parked_bare k q (e ∷ es) f (inr o) = parked_bare k q es f.2 o

  -- who holds a record waits for another
  in_line : (q : Pid) (n : Name) (y : Name) → L (Rec n) ≡ With q → L (Proc q) ≡ In (InLine y) → (cs : List Courier) → Fits world W L (InLine y) (map CourierItem cs) → Occurs (Proc q) (map CourierItem cs) → (c : Courier) × IsWaiting q y c
  in_line q n y has at [] f o = absurd o
  in_line q n y has at (c ∷ cs) f (inl same) = let eq : c.image.pid ≡ q = cc in (c, record { pid = eq; place = at; fits = (f.0).1; waits = (f.0).2 })
  in_line q n y has at (c ∷ cs) f (inr o) = in_line q n y has at cs f.2 o

  holder : (q : Pid) (n : Name) → L (Rec n) ≡ With q → (y : Name) × ((c : Courier) × IsWaiting q y c)
  holder q n has = go (L (Proc q)) refl (s.sane.procs q)
    where
      nobody : (o : Option View) → W.proc q ≡ o → L (Proc q) ≡ Nowhere → ⊥
      nobody None e at = not_bare q n has (s.missing q e).1
      nobody (Some x) e at = s.present q x e at

      there : (X : Where) → L (Proc q) ≡ In X → (y : Name) × ((c : Courier) × IsWaiting q y c)
      there (Ready k) at = absurd (subst (Occurs (Proc q)) (nothing_ready k) (s.matches.whole (Proc q) (Ready k) at))
      there (Wire i j) at = absurd (subst (Occurs (Proc q)) (nothing_flies i j) (s.matches.whole (Proc q) (Wire i j) at))
      there (Parked k) at = absurd (not_bare q n has (parked_bare k q (C.nodes k).parked (s.matches.items (Parked k)) (s.matches.whole (Proc q) (Parked k) at)))
      there (InLine y) at = (y, in_line q n y has at (line_of (slots world.nodes C y)).waiters (s.matches.items (InLine y)) (s.matches.whole (Proc q) (InLine y) at))

      go : (o : Spot) → L (Proc q) ≡ o → ProcSpot o → (y : Name) × ((c : Courier) × IsWaiting q y c)
      go (In X) e fit = there X e
      go Hand e fit = absurd (s.idle (Proc q) e)
      go Nowhere e fit = absurd (nobody (W.proc q) refl e)
      go AtHome e fit = absurd fit
      go (With p) e fit = absurd fit

  -- a record that is not at home is held
  held_by : (x : Name) → L (Rec x) ≢ AtHome → (q : Pid) × (L (Rec x) ≡ With q)
  held_by x away = go (L (Rec x)) refl (s.sane.recs x)
    where
      on_its_way : (X : Where) → L (Rec x) ≡ In X → ⊥
      on_its_way X at = by (found_item world W L X (Rec x) (items world.nodes C X) (s.matches.items X) (s.matches.whole (Rec x) X at)) X refl
        where
          flies : (n : Name) (Y : Where) → X ≡ Y → GoesHome world Y n → ⊥
          flies n (Wire i j) e g = subst (Occurs (Rec x)) (nothing_flies i j) (s.matches.whole (Rec x) (Wire i j) (at ∙ ap In e))
          flies n (Ready j) e g = g
          flies n (Parked j) e g = g
          flies n (InLine y) e g = g

          by : (i : Item) × (token i ≡ Rec x) × ItemFits world W L X i → (Y : Where) → X ≡ Y → ⊥
          by (CourierItem c, e, f) Y same = cc
          by (ImageItem i, e, f) Y same = cc
          by (ParkedItem p i, e, f) Y same = cc
          by (RecordItem n h, e, f) Y same = flies n X refl f.2

      go : (o : Spot) → L (Rec x) ≡ o → RecSpot o → (q : Pid) × (L (Rec x) ≡ With q)
      go (In X) e fit = absurd (on_its_way X e)
      go Hand e fit = absurd (s.idle (Rec x) e)
      go Nowhere e fit = absurd fit
      go AtHome e fit = absurd (away e)
      go (With p) e fit = (p, e)

  -- a name that somebody waits for is out
  waited_out : (q : Pid) (y : Name) (c : Courier) → IsWaiting q y c → L (Rec y) ≢ AtHome
  waited_out q y c w = go (slots world.nodes C y) (s.matches.slots y) (s.matches.whole (Proc q) (InLine y) w.place)
    where
      go : (a : Slot Held (Line Courier)) → SlotIs (L (Rec y)) (W.what y) a → Occurs (Proc q) (map CourierItem (line_of a).waiters) → L (Rec y) ≢ AtHome
      go (Home h) f o = absurd o
      go (Out line) f o = f

  -- the processes that wait for names after x
  abbrev later_in : Name → Spot → Bool
  later_in x (In (InLine y)) = is_before x y
  later_in x (In (Ready k)) = false
  later_in x (In (Parked k)) = false
  later_in x (In (Wire i j)) = false
  later_in x Hand = false
  later_in x AtHome = false
  later_in x (With p) = false
  later_in x Nowhere = false

  abbrev waits_later : Name → Row → Bool
  waits_later x r = later_in x (L (Proc r.pid))

  later_more : (x y : Name) → is_before x y ≡ true → (o : Spot) → later_in y o ≡ true → later_in x o ≡ true
  later_more x y xy (In (InLine z)) e = before-trans x y z xy e
  later_more x y xy (In (Ready k)) e = cc
  later_more x y xy (In (Parked k)) e = cc
  later_more x y xy (In (Wire i j)) e = cc
  later_more x y xy Hand e = cc
  later_more x y xy AtHome e = cc
  later_more x y xy (With p) e = cc
  later_more x y xy Nowhere e = cc

  none_out : (n : ℕ) (x : Name) → length (filter (waits_later x) rows) < n → L (Rec x) ≢ AtHome → ⊥
  none_out zero x lt away = omega arith
  none_out (suc n) x lt away =
      let h = held_by x away in
      let w = holder h.0 x h.1 in
      go h.0 h.1 w.0 (w.1).0 (w.1).1 (none_out n)
    where
      go : (q : Pid) → L (Rec x) ≡ With q → (y : Name) (c : Courier) → IsWaiting q y c → ((x : Name) → length (filter (waits_later x) rows) < n → L (Rec x) ≢ AtHome → ⊥) → ⊥
      go q has y c w rest =
          let mine : W.proc q ≡ Some (view c.image) = ap W.proc (sym w.pid) ∙ w.fits.image in
          let is = subst (ProcessIs world (row_of rows q) (running q.0)) mine (s.standing.procs q) in
          let holds_x : is_held c.bag x ≡ true = is_held_some c.bag x ∙ ap is_some (w.fits.bag.holds x ∙ ap (λ p. carried W L p x) w.pid ∙ ap (λ o. carried_by q o (W.what x)) has ∙ ap (λ b. cond b (Some (W.what x)) None) (eq-eqb q.0 q.0 refl)) in
          let differ : x ≢ y = (λ e. let f : true ≡ false = sym holds_x ∙ ap (is_held c.bag) e ∙ w.waits.lacks in cc) in
          let up : is_before x y ≡ true = before-total x y (w.waits.highest x holds_x) differ in
          let seat : L (Proc is.process.pid) ≡ In (InLine y) = ap (λ p. L (Proc p)) (row_pid rows q is.process is.there) ∙ w.place in
          let less_now = less (waits_later x) (waits_later y) (λ r e. later_more x y up (L (Proc r.pid)) e) rows q is.process is.there (ap (later_in x) seat ∙ up) (ap (later_in y) seat ∙ before-itself y) in
          rest y (omega (arith, less_now, lt)) (waited_out q y c w)

  -- every record is at home, so no slot is out and none is marked
  pub all_home : (x : Name) → (h : Held) × (slots world.nodes C x ≡ Home h)
  all_home x = go (slots world.nodes C x) refl (s.matches.slots x)
    where
      go : (a : Slot Held (Line Courier)) → slots world.nodes C x ≡ a → SlotIs (L (Rec x)) (W.what x) a → (h : Held) × (slots world.nodes C x ≡ Home h)
      go (Home h) e f = (h, e)
      go (Out line) e f = absurd (none_out (suc (length (filter (waits_later x) rows))) x (omega arith) f)

  -- no courier is left: nobody waits in a line
  pub no_courier : (x : Name) → (line_of (slots world.nodes C x)).waiters ≡ []
  no_courier x = let h = all_home x in ap (λ a. (line_of a).waiters) h.1
