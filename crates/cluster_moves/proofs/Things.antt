-- things that are put into containers and taken out of them
use Rattle.std.proofs.Common.{◌≡◌, ◌≢◌, ◌⊎◌, inl, inr, ℕ, Bool, true, false, cond, List, [], ◌∷◌, ◌++◌, refl, sym, ap, ◌∙◌, subst}
use Rattle.std.proofs.lemmas.Bool.{eqb-true, eq-eqb}
use Rattle.unix_names.specs.declared.Pid.{Pid}
use Rattle.unix_names.specs.declared.Name.{Name}
use Rattle.unix_calls.specs.declared.World.{World}
use Rattle.record_bag.specs.declared.Held.{Held}
use Rattle.record_table.specs.declared.slot.Slot.{Slot}
use Rattle.record_table.specs.declared.slot.Slot.TheVariants.{Home, Out}
use Rattle.record_table.specs.declared.slot.Line.{Line}
use Rattle.courier_core.specs.declared.courier.Courier.{Courier}
use Rattle.courier_core.proofs.Order.{is_name-same, is_name-true}
use Rattle.cluster_contents.specs.Placement.{Where, Spot, In, AtHome, Token, Proc, Rec, is_token, Places, moved, Contents, Item, CourierItem, ImageItem, ParkedItem, RecordItem, token, carried_by, carried, ItemFits, Lacks, Occurs, Fits, SlotIs, Matches}

abbrev pub pid : ℕ → Pid
pid k = record { 0 = k }

-- ---- tokens
pub tok_same : (t : Token) → is_token t t ≡ true
tok_same (Proc p) = eq-eqb p.0 p.0 refl
tok_same (Rec n) = is_name-same n

pub tok_true : (t u : Token) → is_token t u ≡ true → t ≡ u
tok_true (Proc p) (Proc q) e = ap (λ k. Proc (pid k)) (eqb-true p.0 q.0 e)
tok_true (Proc p) (Rec n) e = cc
tok_true (Rec n) (Proc p) e = cc
tok_true (Rec n) (Rec m) e = ap Rec (is_name-true n m e)

tok_false : (t u : Token) → is_token t u ≡ false → t ≢ u
tok_false t u e same = let h : true ≡ false = sym (tok_same t) ∙ ap (is_token t) same ∙ e in cc

pub tok_other : (t u : Token) → t ≢ u → is_token t u ≡ false
tok_other t u ne = go (is_token t u) refl
  where
    go : (b : Bool) → is_token t u ≡ b → b ≡ false
    go true e = absurd (ne (tok_true t u e))
    go false e = refl

pub tok_cases : (t u : Token) → (t ≡ u) ⊎ (t ≢ u)
tok_cases t u = go (is_token t u) refl
  where
    go : (b : Bool) → is_token t u ≡ b → (t ≡ u) ⊎ (t ≢ u)
    go true e = inl (tok_true t u e)
    go false e = inr (tok_false t u e)

pub moved-same : (L : Places) (t : Token) (s : Spot) → moved L t s t ≡ s
moved-same L t s = ap (λ b. cond b s (L t)) (tok_same t)

pub moved-other : (L : Places) (t : Token) (s : Spot) (u : Token) → t ≢ u → moved L t s u ≡ L u
moved-other L t s u ne = ap (λ b. cond b s (L u)) (tok_other t u ne)

-- ---- lists of things
pub lacks_put : (t : Token) (bs cs : List Item) (x : Item) → Lacks t (bs ++ cs) → token x ≢ t → Lacks t (bs ++ x ∷ cs)
lacks_put t [] cs x l ne = (ne, l)
lacks_put t (b ∷ bs) cs x l ne = (l.0, lacks_put t bs cs x l.1 ne)

pub lacks_take : (t : Token) (bs cs : List Item) (x : Item) → Lacks t (bs ++ x ∷ cs) → (token x ≢ t) × Lacks t (bs ++ cs)
lacks_take t [] cs x l = l
lacks_take t (b ∷ bs) cs x l = let r = lacks_take t bs cs x l.1 in (r.0, (l.0, r.1))

pub occurs_put : (t : Token) (bs cs : List Item) (x : Item) → Occurs t (bs ++ cs) → Occurs t (bs ++ x ∷ cs)
occurs_put t [] cs x o = inr o
occurs_put t (b ∷ bs) cs x (inl e) = inl e
occurs_put t (b ∷ bs) cs x (inr o) = inr (occurs_put t bs cs x o)

pub occurs_new : (bs cs : List Item) (x : Item) → Occurs (token x) (bs ++ x ∷ cs)
occurs_new [] cs x = inl refl
occurs_new (b ∷ bs) cs x = inr (occurs_new bs cs x)

pub occurs_take : (t : Token) (bs cs : List Item) (x : Item) → token x ≢ t → Occurs t (bs ++ x ∷ cs) → Occurs t (bs ++ cs)
occurs_take t [] cs x ne (inl e) = absurd (ne e)
occurs_take t [] cs x ne (inr o) = o
occurs_take t (b ∷ bs) cs x ne (inl e) = inl e
occurs_take t (b ∷ bs) cs x ne (inr o) = inr (occurs_take t bs cs x ne o)

in_is : (X Y : Where) → In X ≡ In Y → X ≡ Y
in_is X Y e = cc

module _ (world : World) where
  -- a thing in a container is said to be there
  pub spot_is : (W : Contents) (L : Places) (X : Where) (x : Item) → ItemFits world W L X x → L (token x) ≡ In X
  spot_is W L X (CourierItem c) f = f.0
  spot_is W L X (ImageItem i) f = f.0
  spot_is W L X (ParkedItem p i) f = f.0
  spot_is W L X (RecordItem n h) f = f.0

  pub lacks_elsewhere : (W : Contents) (L : Places) (X : Where) (t : Token) (xs : List Item) → L t ≢ In X → Fits world W L X xs → Lacks t xs
  lacks_elsewhere W L X t [] ne f = tt
  lacks_elsewhere W L X t (x ∷ xs) ne f = ((λ same. ne (ap L (sym same) ∙ spot_is W L X x f.0)), lacks_elsewhere W L X t xs ne f.2)

  pub fits_put : (W : Contents) (L : Places) (X : Where) (bs cs : List Item) (x : Item) → Fits world W L X (bs ++ cs) → Lacks (token x) (bs ++ cs) → ItemFits world W L X x → Fits world W L X (bs ++ x ∷ cs)
  fits_put W L X [] cs x f l i = (i, l, f)
  fits_put W L X (b ∷ bs) cs x f l i = (f.0, lacks_put (token b) bs cs x f.1 (λ e. l.0 (sym e)), fits_put W L X bs cs x f.2 l.1 i)

  pub fits_take : (W : Contents) (L : Places) (X : Where) (bs cs : List Item) (x : Item) → Fits world W L X (bs ++ x ∷ cs) → ItemFits world W L X x × Lacks (token x) (bs ++ cs) × Fits world W L X (bs ++ cs)
  fits_take W L X [] cs x f = f
  fits_take W L X (b ∷ bs) cs x f =
      let r = fits_take W L X bs cs x f.2 in
      let l = lacks_take (token b) bs cs x f.1 in
      (r.0, ((λ e. l.0 (sym e)), r.1), (f.0, l.1, r.2))

  -- what lacks a thing stays cs it is said to be, where all but that thing do
  pub fits_kept : (W W' : Contents) (L L' : Places) (X : Where) (t : Token) (xs : List Item) → ((y : Item) → token y ≢ t → ItemFits world W L X y → ItemFits world W' L' X y) → Lacks t xs → Fits world W L X xs → Fits world W' L' X xs
  fits_kept W W' L L' X t [] keep l f = tt
  fits_kept W W' L L' X t (x ∷ xs) keep l f = (keep x l.0 f.0, f.1, fits_kept W W' L L' X t xs keep l.1 f.2)

  -- ---- one thing moves
  -- where a record moves, it comes into no bag of a courier in a container, and out of none
  abbrev pub Unseen : Places → Token → Spot → Type 0
  Unseen L t s = (n : Name) → t ≡ Rec n → (p : Pid) (X : Where) → L (Proc p) ≡ In X → (h : Held) → carried_by p s h ≡ carried_by p (L t) h

  pub unseen_proc : (L : Places) (p : Pid) (s : Spot) → Unseen L (Proc p) s
  unseen_proc L p s n e = cc

  pub carried_on : (W : Contents) (L : Places) (t : Token) (s : Spot) (p : Pid) (X : Where) → Unseen L t s → L (Proc p) ≡ In X → (n : Name) → carried W (moved L t s) p n ≡ carried W L p n
  carried_on W L t s p X un at n = go (tok_cases t (Rec n))
    where
      go : (t ≡ Rec n) ⊎ (t ≢ Rec n) → carried W (moved L t s) p n ≡ carried W L p n
      go (inl e) =
          ap (λ u. carried_by p (moved L t s u) (W.what n)) (sym e) ∙ ap (λ o. carried_by p o (W.what n)) (moved-same L t s)
          ∙ un n e p X at (W.what n) ∙ ap (λ u. carried_by p (L u) (W.what n)) e
      go (inr ne) = ap (λ o. carried_by p o (W.what n)) (moved-other L t s (Rec n) ne)

  pub item_kept : (W : Contents) (L : Places) (t : Token) (s : Spot) (X : Where) → Unseen L t s → (y : Item) → token y ≢ t → ItemFits world W L X y → ItemFits world W (moved L t s) X y
  item_kept W L t s X un (CourierItem c) ne f = (
    moved-other L t s (Proc c.image.pid) (λ e. ne (sym e)) ∙ f.0,
    record {
      image = f.1.image;
      job = f.1.job;
      bag = record { holds = λ n. f.1.bag.holds n ∙ sym (carried_on W L t s c.image.pid X un f.0 n); vprocs = f.1.bag.vprocs; groups = f.1.bag.groups };
      wants = f.1.wants;
      below = f.1.below;
    },
    f.2,
  )
  item_kept W L t s X un (ImageItem i) ne f = (moved-other L t s (Proc i.pid) (λ e. ne (sym e)) ∙ f.0, f.1, λ n. carried_on W L t s i.pid X un f.0 n ∙ f.2 n)
  item_kept W L t s X un (ParkedItem p i) ne f = (moved-other L t s (Proc p) (λ e. ne (sym e)) ∙ f.0, f.1, f.2, λ n. carried_on W L t s p X un f.0 n ∙ f.3 n)
  item_kept W L t s X un (RecordItem n h) ne f = (moved-other L t s (Rec n) (λ e. ne (sym e)) ∙ f.0, f.1, f.2)

  abbrev pub Family : Type 0
  Family = Where → List Item

  abbrev pub Slotted : Type 0
  Slotted = Name → Slot Held (Line Courier)

  -- one container has x more, the others are the same
  abbrev pub AddsAt : Family → Family → Where → Item → Where → Type 0
  AddsAt F F' X x Y = ((bs : List Item) × (cs : List Item) × (Y ≡ X) × (F Y ≡ bs ++ cs) × (F' Y ≡ bs ++ x ∷ cs)) ⊎ ((Y ≢ X) × (F' Y ≡ F Y))

  abbrev pub Adds : Family → Family → Where → Item → Type 0
  Adds F F' X x = (Y : Where) → AddsAt F F' X x Y

  abbrev pub NotIn : Spot → Type 0
  NotIn s = (X : Where) → s ≢ In X

  abbrev pub SlotsFit : Contents → Places → Slotted → Type 0
  SlotsFit W L S = (n : Name) → SlotIs (L (Rec n)) (W.what n) (S n)

  same_fits : (W : Contents) (L : Places) (X : Where) (xs ys : List Item) → xs ≡ ys → Fits world W L X xs → Fits world W L X ys
  same_fits W L X xs ys e f = subst (λ l. Fits world W L X l) e f

  -- a thing that was in no container is put into one
  pub put_in : (W : Contents) (L : Places) (F F' : Family) (S S' : Slotted) (X : Where) (x : Item) → Matches world W L F S → NotIn (L (token x)) → Adds F F' X x → Unseen L (token x) (In X) →
      ItemFits world W (moved L (token x) (In X)) X x → SlotsFit W (moved L (token x) (In X)) S' → Matches world W (moved L (token x) (In X)) F' S'
  put_in W L F F' S S' X x m out adds un fit slots = record { kinds = m.kinds; slots = slots; items = λ Y. go Y (adds Y); whole = λ t Y at. whole t Y (adds Y) (tok_cases (token x) t) at }
    where
      whole : (t : Token) (Y : Where) → AddsAt F F' X x Y → (token x ≡ t) ⊎ (token x ≢ t) → moved L (token x) (In X) t ≡ In Y → Occurs t (F' Y)
      whole t Y (inl (bs, cs, here, before, now)) (inl e) at = subst (Occurs t) (sym now) (subst (λ u. Occurs u (bs ++ x ∷ cs)) e (occurs_new bs cs x))
      whole t Y (inl (bs, cs, here, before, now)) (inr ne) at = subst (Occurs t) (sym now) (occurs_put t bs cs x (subst (Occurs t) before (m.whole t Y (sym (moved-other L (token x) (In X) t ne) ∙ at))))
      whole t Y (inr other) (inl e) at = absurd (other.0 (in_is Y X (sym at ∙ ap (moved L (token x) (In X)) (sym e) ∙ moved-same L (token x) (In X))))
      whole t Y (inr other) (inr ne) at = subst (Occurs t) (sym other.1) (m.whole t Y (sym (moved-other L (token x) (In X) t ne) ∙ at))

      frame : (Y : Where) → Fits world W (moved L (token x) (In X)) Y (F Y)
      frame Y = fits_kept W W L (moved L (token x) (In X)) Y (token x) (F Y) (item_kept W L (token x) (In X) Y un) (lacks_elsewhere W L Y (token x) (F Y) (out Y) (m.items Y)) (m.items Y)

      go : (Y : Where) → AddsAt F F' X x Y → Fits world W (moved L (token x) (In X)) Y (F' Y)
      go Y (inl (bs, cs, here, before, now)) =
          same_fits W (moved L (token x) (In X)) Y (bs ++ x ∷ cs) (F' Y) (sym now)
          (fits_put W (moved L (token x) (In X)) Y bs cs x (same_fits W (moved L (token x) (In X)) Y (F Y) (bs ++ cs) before (frame Y))
          (subst (λ l. Lacks (token x) l) before (lacks_elsewhere W L Y (token x) (F Y) (out Y) (m.items Y)))
          (subst (λ Z. ItemFits world W (moved L (token x) (In X)) Z x) (sym here) fit))
      go Y (inr other) = same_fits W (moved L (token x) (In X)) Y (F Y) (F' Y) (sym other.1) (frame Y)

  -- a thing is taken out of a container
  pub take_out : (W : Contents) (L : Places) (F F' : Family) (S S' : Slotted) (X : Where) (x : Item) (s : Spot) → Matches world W L F S → NotIn s → Adds F' F X x → L (token x) ≡ In X → Unseen L (token x) s →
      SlotsFit W (moved L (token x) s) S' → Matches world W (moved L (token x) s) F' S'
  take_out W L F F' S S' X x s m out adds at un slots = record { kinds = m.kinds; slots = slots; items = λ Y. go Y (adds Y); whole = λ t Y o. whole t Y (adds Y) (tok_cases (token x) t) o }
    where
      whole : (t : Token) (Y : Where) → AddsAt F' F X x Y → (token x ≡ t) ⊎ (token x ≢ t) → moved L (token x) s t ≡ In Y → Occurs t (F' Y)
      whole t Y a (inl e) o = absurd (out Y (sym (moved-same L (token x) s) ∙ ap (moved L (token x) s) e ∙ o))
      whole t Y (inl (bs, cs, here, now, before)) (inr ne) o = subst (Occurs t) (sym now) (occurs_take t bs cs x ne (subst (Occurs t) before (m.whole t Y (sym (moved-other L (token x) s t ne) ∙ o))))
      whole t Y (inr other) (inr ne) o = subst (Occurs t) other.1 (m.whole t Y (sym (moved-other L (token x) s t ne) ∙ o))

      keep : (Y : Where) (ys : List Item) → Lacks (token x) ys → Fits world W L Y ys → Fits world W (moved L (token x) s) Y ys
      keep Y ys l f = fits_kept W W L (moved L (token x) s) Y (token x) ys (item_kept W L (token x) s Y un) l f

      go : (Y : Where) → AddsAt F' F X x Y → Fits world W (moved L (token x) s) Y (F' Y)
      go Y (inl (bs, cs, here, now, before)) =
          let r = fits_take W L Y bs cs x (same_fits W L Y (F Y) (bs ++ x ∷ cs) before (m.items Y)) in
          same_fits W (moved L (token x) s) Y (bs ++ cs) (F' Y) (sym now) (keep Y (bs ++ cs) r.1 r.2)
      go Y (inr other) =
          same_fits W (moved L (token x) s) Y (F Y) (F' Y) other.1
          (keep Y (F Y) (lacks_elsewhere W L Y (token x) (F Y) (λ e. let h : In X ≡ In Y = sym at ∙ e in other.0 (in_same X Y h)) (m.items Y)) (m.items Y))
        where
          in_same : (X Y : Where) → In X ≡ In Y → Y ≡ X
          in_same X Y e = cc

  -- a container where x stands says where x is
  pub there : (W : Contents) (L : Places) (F F' : Family) (S : Slotted) (X : Where) (x : Item) → Matches world W L F S → AddsAt F' F X x X → ItemFits world W L X x
  there W L F F' S X x m (inl (bs, cs, here, now, before)) = (fits_take W L X bs cs x (same_fits W L X (F X) (bs ++ x ∷ cs) before (m.items X))).0
  there W L F F' S X x m (inr other) = absurd (other.0 refl)

  -- a thing that is in no container moves, and no container changes
  pub shift : (W : Contents) (L : Places) (F F' : Family) (S S' : Slotted) (t : Token) (s : Spot) → Matches world W L F S → NotIn (L t) → NotIn s → Unseen L t s → ((Y : Where) → F' Y ≡ F Y) → SlotsFit W (moved L t s) S' → Matches world W (moved L t s) F' S'
  shift W L F F' S S' t s m out away un same slots = record {
    kinds = m.kinds;
    slots = slots;
    items = λ Y. same_fits W (moved L t s) Y (F Y) (F' Y) (sym (same Y)) (fits_kept W W L (moved L t s) Y t (F Y) (item_kept W L t s Y un) (lacks_elsewhere W L Y t (F Y) (out Y) (m.items Y)) (m.items Y));
    whole = λ u Y at. go u Y (tok_cases t u) at;
  }
    where
      go : (u : Token) (Y : Where) → (t ≡ u) ⊎ (t ≢ u) → moved L t s u ≡ In Y → Occurs u (F' Y)
      go u Y (inl e) at = absurd (away Y (sym (moved-same L t s) ∙ ap (moved L t s) e ∙ at))
      go u Y (inr ne) at = subst (Occurs u) (sym (same Y)) (m.whole u Y (sym (moved-other L t s u ne) ∙ at))

  -- ---- slots under a move
  pub slots_proc : (W : Contents) (L : Places) (S S' : Slotted) (p : Pid) (s : Spot) → ((n : Name) → S' n ≡ S n) → SlotsFit W L S → SlotsFit W (moved L (Proc p) s) S'
  slots_proc W L S S' p s same fit n = subst (λ a. SlotIs (L (Rec n)) (W.what n) a) (sym (same n)) (fit n)

  -- a record that was not at home does not come home
  pub slots_away : (W : Contents) (L : Places) (S : Slotted) (m : Name) (s : Spot) → L (Rec m) ≢ AtHome → s ≢ AtHome → SlotsFit W L S → SlotsFit W (moved L (Rec m) s) S
  slots_away W L S m s old new fit n = go (tok_cases (Rec m) (Rec n)) (S n) (fit n)
    where
      go : (Rec m ≡ Rec n) ⊎ (Rec m ≢ Rec n) → (a : Slot Held (Line Courier)) → SlotIs (L (Rec n)) (W.what n) a → SlotIs (moved L (Rec m) s (Rec n)) (W.what n) a
      go (inl e) (Home h) is = absurd (old (ap L e ∙ is.0))
      go (inl e) (Out line) is = λ h. new (sym (moved-same L (Rec m) s) ∙ ap (moved L (Rec m) s) e ∙ h)
      go (inr ne) a is = subst (λ o. SlotIs o (W.what n) a) (sym (moved-other L (Rec m) s (Rec n) ne)) is

  -- one slot changes with its record
  pub slots_at : (W : Contents) (L : Places) (S S' : Slotted) (m : Name) (s : Spot) → SlotIs s (W.what m) (S' m) → ((n : Name) → n ≢ m → S' n ≡ S n) → SlotsFit W L S → SlotsFit W (moved L (Rec m) s) S'
  slots_at W L S S' m s new others fit n = go (tok_cases (Rec m) (Rec n))
    where
      go : (Rec m ≡ Rec n) ⊎ (Rec m ≢ Rec n) → SlotIs (moved L (Rec m) s (Rec n)) (W.what n) (S' n)
      go (inl e) = let same : m ≡ n = cc in subst (λ k. SlotIs (moved L (Rec m) s (Rec k)) (W.what k) (S' k)) same (subst (λ o. SlotIs o (W.what m) (S' m)) (sym (moved-same L (Rec m) s)) new)
      go (inr ne) = subst (λ a. SlotIs (moved L (Rec m) s (Rec n)) (W.what n) a) (sym (others n (λ e. ne (ap Rec (sym e))))) (subst (λ o. SlotIs o (W.what n) (S n)) (sym (moved-other L (Rec m) s (Rec n) ne)) (fit n))
