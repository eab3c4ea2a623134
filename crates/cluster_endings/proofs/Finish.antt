-- the end of a courier: the decision, and what is then put down
use Rattle.std.proofs.Common.{◌≡◌, ◌≢◌, ◌==◌, ◌⊎◌, inl, inr, ◌<◌, ◌≤◌, arith, ℕ, Bool, true, false, cond, List, [], ◌∷◌, refl, sym, ap, ◌∙◌, subst, Option, None, Some}
use Rattle.std.specs.Prelude.{unwrap_or, ◌+◌}
use Rattle.std.specs.Option.{option_map}
use Rattle.std.proofs.lemmas.Bool.{eqb-true, eq-eqb, ne_eqb}
use Rattle.unix_names.specs.declared.Pid.{Pid}
use Rattle.unix_names.specs.declared.Name.{Name}
use Rattle.unix_names.specs.declared.NodeId.{NodeId}
use Rattle.unix_names.specs.declared.Name.TheVariants as name
use Rattle.unix_names.specs.Names.{home, pid_of}
use Rattle.unix_calls.specs.declared.Entry.{Entry}
use Rattle.unix_calls.specs.declared.Entry.TheVariants.{Called, Happened}
use Rattle.unix_calls.specs.declared.Job.{Job}
use Rattle.unix_calls.specs.declared.Phase.{Phase}
use Rattle.unix_calls.specs.declared.Phase.TheVariants as phases
use Rattle.unix_calls.specs.declared.World.{World}
use Rattle.unix_calls.specs.Valid.{IsValid}
use Rattle.vproc_record.specs.declared.Vproc.{Vproc}
use Rattle.proc_image.specs.declared.image.Image.{Image}
use Rattle.proc_image.specs.Follows.{Running}
use Rattle.proc_image.specs.Images.{child_image}
use Rattle.record_bag.specs.declared.Held.{Held}
use Rattle.record_bag.specs.declared.Held.TheVariants as held
use Rattle.record_bag.specs.declared.Bag.{Bag}
use Rattle.record_bag.specs.declared.vector.Site.{Site}
use Rattle.record_bag.specs.declared.vector.Decided.{Decided}
use Rattle.record_bag.specs.Bags.{is_held, held_at, vproc_in, present, all_held}
use Rattle.record_bag.specs.Kinds.{of_kind}
use Rattle.ordered_table.specs.Entries.{value_at}
use Rattle.record_table.specs.declared.slot.Slot.{Slot}
use Rattle.record_table.specs.declared.slot.Slot.TheVariants.{Home, Out}
use Rattle.record_table.specs.declared.slot.Line.{Line}
use Rattle.record_table.specs.Places.{line_of}
use Rattle.record_table.specs.Slots.{slot_at, with_slot}
use Rattle.record_table.proofs.SlotLaws.{slot_at-put_home}
use Rattle.courier_core.specs.declared.courier.Courier.{Courier}
use Rattle.courier_core.specs.declared.courier.Message.TheVariants as message
use Rattle.process_table.specs.declared.Row.{Row}
use Rattle.process_table.specs.Rows.{row_of}
use Rattle.node_state.specs.declared.State.{State}
use Rattle.node_state.specs.Wires.{posted}
use Rattle.node_state.specs.Places.{placed}
use Rattle.node_state.specs.Endings.{with_born, place_in, settled_at, settled_in, settled, child_placed, finished}
use Rattle.node_state.specs.Phases.{child_of, image_after}
use Rattle.node_state.specs.Returns.{all_given_back}
use Rattle.cluster_state.specs.Cluster.{Cluster}
use Rattle.cluster_contents.specs.Placement.{Where, Ready, Parked, InLine, Wire, Spot, In, Hand, AtHome, With, Nowhere, Sane, Token, Occurs, Proc, Rec, Places, moved, View, view, Contents, Item, CourierItem, ImageItem, ParkedItem, RecordItem, carried_by, carried, Bare, ImageFits, JobFits, BagFits, ItemFits, Fits, SlotIs, IsUngiven}
use Rattle.cluster_moves.specs.Benches.{stored, items_at, slots_at}
use Rattle.decide_law.specs.Agrees.{RecordAgrees}
use Rattle.decide_law.specs.Law.{next, IsStep}
use Rattle.cluster_contents.specs.Standing.{born_at, Standing, ProcessIs, proc_with, proc_child, view_unless_gone, contents_after, serials_after}
use Rattle.cluster_moves.proofs.Things.{tok_cases, moved-same, moved-other, unseen_proc, shift, slots_proc}
use Rattle.courier_core.proofs.Keeping.{name_cases}
use Rattle.cluster_moves.proofs.Store.{unchanged, slots_same, written, slot_here, slot_others, write_same}
use Rattle.cluster_moves.proofs.Moves.{hand_out, hand_kept, lost_kept, sane_proc, Keeps, But, keeps_proc, Bench, placed_keeps, post_back}
use Rattle.cluster_moves.proofs.Returns.{carried_some, AllGiven, bag_given, all_nudged_keeps}
use Rattle.cluster_contents.proofs.Signals.{HeldCase, held_case, held_some, held_none, vproc_present, what_held, what_kept}
use Rattle.cluster_contents.proofs.Decided.{running_if, Who, TheChild, Itself, Another, who, Forked, forked, standing_kept}
use Rattle.decide_law.proofs.ByName.{held_same_names, rising_pids}

carried_none : (p : Pid) (o : Spot) (h g : Held) → carried_by p o h ≡ None → carried_by p o g ≡ None
carried_none p (In X) h g e = refl
carried_none p Hand h g e = refl
carried_none p AtHome h g e = refl
carried_none p Nowhere h g e = refl
carried_none p (With q) h g e = go (q.0 == p.0) e
  where
    go : (b : Bool) → cond b (Some h) None ≡ None → cond b (Some g) None ≡ None
    go true e = cc
    go false e = refl

agrees_kind : (rows : List Row) (n : Name) (h : Held) → RecordAgrees rows n h → of_kind n h ≡ h
agrees_kind rows (name.V q) (held.V v) a = refl
agrees_kind rows (name.V q) (held.G g) a = absurd a
agrees_kind rows (name.G q) (held.V v) a = absurd a
agrees_kind rows (name.G q) (held.G g) a = refl

fits_map : (world : World) (W W' : Contents) (L L' : Places) (X : Where) (xs : List Item) → ((y : Item) → ItemFits world W L X y → ItemFits world W' L' X y) → Fits world W L X xs → Fits world W' L' X xs
fits_map world W W' L L' X [] keep f = tt
fits_map world W W' L L' X (x ∷ xs) keep f = (keep x f.0, f.1, fits_map world W W' L L' X xs keep f.2)

-- the image keeps its pid
pub pid_after : (world : World) (image : Image) (d : Decided) (o : Option Entry) → (image_after world image d.own d.phase o).pid ≡ image.pid
pid_after world image d None = refl
pid_after world image d (Some (Called caller call reply)) = refl
pid_after world image d (Some (Happened q event)) = refl

-- who is not a process is nowhere
abbrev pub Absent : Contents → Places → Type 0
Absent W L = (q : Pid) → W.proc q ≡ None → (L (Proc q) ≡ Nowhere) × Bare W L q

module _ (world : World) (C : Cluster) (k : ℕ) (valid : IsValid world) (rows : List Row) (running : Running) (W : Contents) (st : Standing world rows running W) (L : Places) (s : State) (image : Image) (job : Job) (bag : Bag) (site : Site) (d : Decided) (bag' : Bag)
    (start : Bench world C k W L s) (hand : L (Proc image.pid) ≡ Hand) (fits : BagFits W L image.pid bag) (step : IsStep rows (next rows d.entry) image.pid job site bag d bag')
    (mine : W.proc image.pid ≡ Some (view image)) (wants : JobFits world image job) (missing : Absent W L) (absent : row_of rows site.fresh ≡ None) (at_home : L (Rec (name.V site.fresh)) ≡ AtHome) (homes : home (name.V site.fresh) world.nodes ≡ k)
    (here : site.node.0 < world.nodes) (on_site : site.node.0 ≡ k) where
  p : Pid
  p = image.pid

  pub has : (n : Name) (h : Held) → held_at bag n ≡ Some h → (L (Rec n) ≡ With image.pid) × (W.what n ≡ h)
  has n h e = carried_some image.pid (L (Rec n)) (W.what n) h (sym (fits.holds n) ∙ e)

  pub holds : (n : Name) (h : Held) → held_at bag n ≡ Some h → W.what n ≡ h
  holds n h e = (has n h e).1

  pub unheld : (n : Name) → L (Rec n) ≢ With image.pid → is_held bag n ≡ false
  unheld n ne = go (held_case bag n)
    where
      go : HeldCase bag n → is_held bag n ≡ false
      go (inl c) = absurd (ne (has n c.0 c.1).0)
      go (inr c) = c.1

  pub fresh_unheld : is_held bag (name.V site.fresh) ≡ false
  fresh_unheld = unheld (name.V site.fresh) (λ e. let x : AtHome ≡ With image.pid = sym at_home ∙ e in cc)

  abbrev pub now : Contents
  now = contents_after W image.pid (image_after world image d.own d.phase d.entry) site.node.0 d.born (child_of world image d.born) bag'

  pub stands : Standing world (next rows d.entry) (running_if world running d.entry) now
  stands = standing_kept world valid rows running W st image job bag site d bag' holds step mine wants absent fresh_unheld here

  abbrev pub Someone : Pid → Type 0
  Someone q = Who world valid rows running W st image job bag site d bag' holds step mine wants absent fresh_unheld here q

  pub someone : (q : Pid) → Someone q
  someone q = who world valid rows running W st image job bag site d bag' holds step mine wants absent fresh_unheld here q

  -- the fresh pid is nobody's
  pub no_process : W.proc site.fresh ≡ None
  no_process = go (W.proc site.fresh) refl
    where
      go : (o : Option View) → W.proc site.fresh ≡ o → o ≡ None
      go None e = refl
      go (Some x) e =
          let is = subst (ProcessIs world (row_of rows site.fresh) (running (site.fresh).0)) e (st.procs site.fresh) in
          let f : None ≡ Some is.process = sym absent ∙ is.there in cc

  pub fresh_nowhere : L (Proc site.fresh) ≡ Nowhere
  fresh_nowhere = (missing site.fresh no_process).0

  pub born_is : (b : Option Vproc) → d.born ≡ b → (n : Name) (h : Held) → born_at b n ≡ Some h → (n ≡ name.V site.fresh) × (W.what n ≡ W.what n)
  born_is None is n h e = cc
  born_is (Some v) is (name.G g) h e = cc
  born_is (Some v) is (name.V q) h e = go (q.0 == v.pid.0) refl e
    where
      f : Forked world valid rows running W st image job bag site d bag' holds step mine wants absent fresh_unheld here v
      f = forked world valid rows running W st image job bag site d bag' holds step mine wants absent fresh_unheld here v is

      go : (t : Bool) → (q.0 == v.pid.0) ≡ t → cond t (Some (held.V (Some v))) None ≡ Some h → (name.V q ≡ name.V site.fresh) × (W.what (name.V q) ≡ W.what (name.V q))
      go true t e = (ap (λ (m : ℕ). name.V (record { 0 = m })) (eqb-true _ _ t) ∙ ap name.V f.born.pid, refl)
      go false t e = cc

  pub unborn : (n : Name) → n ≢ name.V site.fresh → born_at d.born n ≡ None
  unborn n ne = go (born_at d.born n) refl
    where
      go : (o : Option Held) → born_at d.born n ≡ o → o ≡ None
      go None e = refl
      go (Some h) e = absurd (ne (born_is d.born refl n h e).0)

  -- a record that is neither in the bag nor born is as it was
  pub same_what : (n : Name) → L (Rec n) ≢ With image.pid → n ≢ name.V site.fresh → now.what n ≡ W.what n
  same_what n away ne = what_kept world rows running W st image.pid job image.own bag site d bag' holds step n (unheld n away) (unborn n ne)

  pub same_proc : (q : Pid) (X : Where) → L (Proc q) ≡ In X → now.proc q ≡ W.proc q
  same_proc q X at = go (someone q)
    where
      go : Someone q → now.proc q ≡ W.proc q
      go (TheChild v is same f) = let x : Nowhere ≡ In X = sym fresh_nowhere ∙ ap (λ u. L (Proc u)) (sym f.born.pid) ∙ ap (λ u. L (Proc u)) (sym same) ∙ at in cc
      go (Itself same e) = let x : Hand ≡ In X = sym hand ∙ ap (λ u. L (Proc u)) (sym same) ∙ at in cc
      go (Another ne none unforked e) = e

  -- the placement once there is a child
  abbrev pub child_hand : Option Vproc → Places
  child_hand None = L
  child_hand (Some v) = moved L (Proc site.fresh) Hand

  pub child_others : (b : Option Vproc) (q : Pid) (o : Spot) → o ≢ Nowhere → L (Proc q) ≡ o → child_hand b (Proc q) ≡ o
  child_others None q o ne e = e
  child_others (Some v) q o ne e = moved-other L (Proc site.fresh) Hand (Proc q) (λ same. ne (sym e ∙ ap L (sym same) ∙ fresh_nowhere)) ∙ e

  pub was_in : (b : Option Vproc) (t : Token) (X : Where) → child_hand b t ≡ In X → L t ≡ In X
  was_in None t X at = at
  was_in (Some v) t X at = go (tok_cases (Proc site.fresh) t)
    where
      go : (Proc site.fresh ≡ t) ⊎ (Proc site.fresh ≢ t) → L t ≡ In X
      go (inl e) = let x : Hand ≡ In X = sym (moved-same L (Proc site.fresh) Hand) ∙ ap (moved L (Proc site.fresh) Hand) e ∙ at in cc
      go (inr ne) = sym (moved-other L (Proc site.fresh) Hand t ne) ∙ at

  pub child_recs : (b : Option Vproc) (n : Name) → child_hand b (Rec n) ≡ L (Rec n)
  child_recs None n = refl
  child_recs (Some v) n = refl

  still_ungiven : (b : Option Vproc) (q : ℕ) → IsUngiven world (serials_after W.serials site.node.0 b) q → IsUngiven world W.serials q
  still_ungiven None q u = u
  still_ungiven (Some v) q u = record { node = u.node; serial = u.serial; within = u.within; is = u.is; from = go (u.node == site.node.0) u.from; small = u.small; somebody = u.somebody }
    where
      go : (t : Bool) → cond t (W.serials u.node + 1) (W.serials u.node) ≤ u.serial → W.serials u.node ≤ u.serial
      go true h = omega arith
      go false h = h

  same_carried : (q : Pid) (X : Where) → L (Proc q) ≡ In X → (n : Name) → carried now (child_hand d.born) q n ≡ carried W L q n
  same_carried q X at n = ap (λ o. carried_by q o (now.what n)) (child_recs d.born n) ∙ go (L (Rec n)) refl
    where
      go : (o : Spot) → L (Rec n) ≡ o → carried_by q o (now.what n) ≡ carried_by q o (W.what n)
      go (In Y) e = refl
      go Hand e = refl
      go AtHome e = refl
      go Nowhere e = refl
      go (With r) e = by (r.0 == q.0) refl
        where
          by : (t : Bool) → (r.0 == q.0) ≡ t → cond t (Some (now.what n)) None ≡ cond t (Some (W.what n)) None
          by false t = refl
          by true t =
              let same : r ≡ q = ap (λ (m : ℕ). record { 0 = m }) (eqb-true _ _ t) in
              ap Some (same_what n
              (λ w. let x : With r ≡ With image.pid = sym e ∙ w in let y : r ≡ image.pid = cc in let z : Hand ≡ In X = sym hand ∙ ap (λ u. L (Proc u)) (sym y ∙ same) ∙ at in cc)
              (λ w. let x : With r ≡ AtHome = sym e ∙ ap (λ u. L (Rec u)) w ∙ at_home in cc))

  item_after : (X : Where) (y : Item) → ItemFits world W L X y → ItemFits world now (child_hand d.born) X y
  item_after X (CourierItem c) f = (
    child_others d.born c.image.pid (In X) (λ e. cc) f.0,
    record {
      image = same_proc c.image.pid X f.0 ∙ f.1.image;
      job = f.1.job;
      bag = record { holds = λ n. f.1.bag.holds n ∙ sym (same_carried c.image.pid X f.0 n); vprocs = f.1.bag.vprocs; groups = f.1.bag.groups };
      wants = λ n l u. f.1.wants n l (still_ungiven d.born (pid_of n) u);
      below = f.1.below;
    },
    f.2,
  )
  item_after X (ImageItem i) f = (child_others d.born i.pid (In X) (λ e. cc) f.0, same_proc i.pid X f.0 ∙ f.1, λ n. same_carried i.pid X f.0 n ∙ f.2 n)
  item_after X (ParkedItem q i) f = (child_others d.born q (In X) (λ e. cc) f.0, f.1, same_proc i.pid X (ap (λ u. L (Proc u)) f.1 ∙ f.0) ∙ f.2, λ n. same_carried q X f.0 n ∙ f.3 n)
  item_after X (RecordItem n h) f = (
    child_recs d.born n ∙ f.0,
    same_what n (λ w. let x : In X ≡ With image.pid = sym f.0 ∙ w in cc) (λ w. let x : In X ≡ AtHome = sym f.0 ∙ ap (λ u. L (Rec u)) w ∙ at_home in cc) ∙ f.1,
    f.2,
  )

  slot_after : (n : Name) → n ≢ name.V site.fresh → (a : Slot Held (Line Courier)) → SlotIs (L (Rec n)) (W.what n) a → SlotIs (child_hand d.born (Rec n)) (now.what n) a
  slot_after n ne (Home stands) f = (
    child_recs d.born n ∙ f.0,
    f.1 ∙ sym (same_what n (λ w. let x : AtHome ≡ With image.pid = sym f.0 ∙ w in cc) ne),
  )
  slot_after n ne (Out line) f = λ e. f (sym (child_recs d.born n) ∙ e)

  abbrev pub born_state : State
  born_state = with_born s d.born

  pub fresh_slot : (line_of (slot_at s.slots (name.V site.fresh))).waiters ≡ []
  fresh_slot = go (slot_at s.slots (name.V site.fresh)) (subst (λ a. SlotIs (L (Rec (name.V site.fresh))) (W.what (name.V site.fresh)) a) (slot_here world C k s (name.V site.fresh) homes) (start.matches.slots (name.V site.fresh)))
    where
      go : (a : Slot Held (Line Courier)) → SlotIs (L (Rec (name.V site.fresh))) (W.what (name.V site.fresh)) a → (line_of a).waiters ≡ []
      go (Home h) f = refl
      go (Out line) f = absurd (f at_home)

  -- the cluster once the decision is made, and the child's record is at home
  pub born_bench : (b : Option Vproc) → d.born ≡ b → Bench world C k now (child_hand d.born) (with_born s b)
  born_bench None is = record {
    id = start.id;
    nodes = start.nodes;
    serial = start.serial ∙ ap (λ b. serials_after W.serials site.node.0 b k) (sym is);
    matches = record {
      kinds = λ n. agrees_kind (next rows d.entry) n (now.what n) (stands.agrees n);
      slots = λ n. by n (name_cases n (name.V site.fresh));
      items = λ X. fits_map world W now L (child_hand d.born) X (items_at world.nodes C k s X) (item_after X) (start.matches.items X);
      whole = λ t X at. start.matches.whole t X (was_in d.born t X at);
    };
  }
    where
      by : (n : Name) → (n ≡ name.V site.fresh) ⊎ (n ≢ name.V site.fresh) → SlotIs (child_hand d.born (Rec n)) (now.what n) (slots_at world.nodes C k s n)
      by n (inr ne) = slot_after n ne (slots_at world.nodes C k s n) (start.matches.slots n)
      by n (inl e) =
          let same : now.what n ≡ W.what n = what_kept world rows running W st image.pid job image.own bag site d bag' holds step n (ap (is_held bag) e ∙ fresh_unheld) (ap (λ b. born_at b n) is) in
          subst (λ h. SlotIs (child_hand d.born (Rec n)) h (slots_at world.nodes C k s n)) (sym same)
          (subst (λ o. SlotIs o (W.what n) (slots_at world.nodes C k s n)) (sym (child_recs d.born n)) (start.matches.slots n))
  born_bench (Some v) is =
      let f = forked world valid rows running W st image job bag site d bag' holds step mine wants absent fresh_unheld here v is in
      subst (λ u. Bench world C k now (child_hand d.born) (record s { slots = with_slot s.slots (name.V u) (Home (held.V (Some v))); serial = s.serial + 1 })) (sym f.born.pid) (record {
        id = start.id;
        nodes = start.nodes;
        serial = ap (λ m. m + 1) start.serial ∙ sym (ap (λ b. serials_after W.serials site.node.0 b k) is ∙ ap (λ t. cond t (W.serials k + 1) (W.serials k)) (eq-eqb k site.node.0 (sym on_site)));
        matches = record {
          kinds = λ n. agrees_kind (next rows d.entry) n (now.what n) (stands.agrees n);
          slots = λ n. by n (name_cases n (name.V site.fresh));
          items = λ X. subst (λ l. Fits world now (child_hand d.born) X l) (sym (same_items X)) (fits_map world W now L (child_hand d.born) X (items_at world.nodes C k s X) (item_after X) (start.matches.items X));
          whole = λ t X at. subst (Occurs t) (sym (same_items X)) (start.matches.whole t X (was_in d.born t X at));
        };
      })
    where
      x : Name
      x = name.V site.fresh

      a : Slot Held (Line Courier)
      a = Home (held.V (Some v))

      s' : State
      s' = record s { slots = with_slot s.slots (name.V site.fresh) (Home (held.V (Some v))); serial = s.serial + 1 }

      f : Forked world valid rows running W st image job bag site d bag' holds step mine wants absent fresh_unheld here v
      f = forked world valid rows running W st image job bag site d bag' holds step mine wants absent fresh_unheld here v is

      slots_like : (n : Name) → slots_at world.nodes C k (record s { slots = with_slot s.slots (name.V site.fresh) (Home (held.V (Some v))); serial = s.serial + 1 }) n ≡ slots_at world.nodes C k (written world C k s (name.V site.fresh) (Home (held.V (Some v)))) n
      slots_like n = slots_same world C k (written world C k s (name.V site.fresh) (Home (held.V (Some v)))) (record s { slots = with_slot s.slots (name.V site.fresh) (Home (held.V (Some v))); serial = s.serial + 1 }) refl n

      same_items : (X : Where) → items_at world.nodes C k (record s { slots = with_slot s.slots (name.V site.fresh) (Home (held.V (Some v))); serial = s.serial + 1 }) X ≡ items_at world.nodes C k s X
      same_items X = unchanged world C k (written world C k s (name.V site.fresh) (Home (held.V (Some v)))) (record s { slots = with_slot s.slots (name.V site.fresh) (Home (held.V (Some v))); serial = s.serial + 1 }) local X
          ∙ write_same world C k s (name.V site.fresh) (Home (held.V (Some v))) (ap (λ b. (line_of b).waiters) (slot_at-put_home s.slots (name.V site.fresh) (held.V (Some v))) ∙ sym fresh_slot) X
        where
          local : (Y : Where) → stored (record s { slots = with_slot s.slots (name.V site.fresh) (Home (held.V (Some v))); serial = s.serial + 1 }) Y ≡ stored (written world C k s (name.V site.fresh) (Home (held.V (Some v)))) Y
          local (Ready j) = refl
          local (Parked j) = refl
          local (InLine n) = refl
          local (Wire i l) = refl

      child_what : now.what (name.V site.fresh) ≡ held.V (Some v)
      child_what =
          ap (λ o. unwrap_or o (unwrap_or (born_at d.born (name.V site.fresh)) (W.what (name.V site.fresh)))) (held_none bag' (name.V site.fresh) (held_same_names step.names (name.V site.fresh) ∙ fresh_unheld))
          ∙ ap (λ b. unwrap_or (born_at b (name.V site.fresh)) (W.what (name.V site.fresh))) is
          ∙ ap (λ t. unwrap_or (cond t (Some (held.V (Some v))) None) (W.what (name.V site.fresh))) (eq-eqb (site.fresh).0 v.pid.0 (ap (λ (u : Pid). u.0) (sym f.born.pid)))

      by : (n : Name) → (n ≡ name.V site.fresh) ⊎ (n ≢ name.V site.fresh) →
          SlotIs (child_hand d.born (Rec n)) (now.what n) (slots_at world.nodes C k (record s { slots = with_slot s.slots (name.V site.fresh) (Home (held.V (Some v))); serial = s.serial + 1 }) n)
      by n (inr ne) = subst (λ b. SlotIs (child_hand d.born (Rec n)) (now.what n) b) (sym (slots_like n ∙ slot_others world C k s (name.V site.fresh) (Home (held.V (Some v))) n ne)) (slot_after n ne (slots_at world.nodes C k s n) (start.matches.slots n))
      by n (inl e) =
          subst (λ m. SlotIs (child_hand d.born (Rec m)) (now.what m) (slots_at world.nodes C k (record s { slots = with_slot s.slots (name.V site.fresh) (Home (held.V (Some v))); serial = s.serial + 1 }) m)) (sym e)
          (subst (λ b. SlotIs (child_hand d.born (Rec (name.V site.fresh))) (now.what (name.V site.fresh)) b)
          (sym (slots_like (name.V site.fresh) ∙ slot_here world C k (written world C k s (name.V site.fresh) (Home (held.V (Some v)))) (name.V site.fresh) homes ∙ slot_at-put_home s.slots (name.V site.fresh) (held.V (Some v))))
          (child_recs d.born (name.V site.fresh) ∙ at_home, sym child_what))

  -- the next bag is that of the process
  pub bag_after : BagFits now (child_hand d.born) image.pid bag'
  bag_after = record { holds = λ n. by n (held_case bag' n); vprocs = rising_pids bag.vprocs bag'.vprocs step.names.vprocs fits.vprocs; groups = rising_pids bag.groups bag'.groups step.names.groups fits.groups }
    where
      by : (n : Name) → HeldCase bag' n → held_at bag' n ≡ carried now (child_hand d.born) image.pid n
      by n (inl c) =
          let was = held_some bag n (sym (held_same_names step.names n) ∙ c.2) in
          let with_p = (has n was.0 was.1).0 in
          c.1 ∙ ap Some (sym (what_held world rows running W st image.pid job image.own bag site d bag' holds step n c.0 c.1))
          ∙ sym (ap (λ o. carried_by image.pid o (now.what n)) (child_recs d.born n ∙ with_p) ∙ ap (λ t. cond t (Some (now.what n)) None) (eq-eqb image.pid.0 image.pid.0 refl))
      by n (inr c) =
          let none : carried W L image.pid n ≡ None = sym (fits.holds n) ∙ held_none bag n (sym (held_same_names step.names n) ∙ c.1) in
          c.0 ∙ sym (ap (λ o. carried_by image.pid o (now.what n)) (child_recs d.born n) ∙ carried_none image.pid (L (Rec n)) (W.what n) (now.what n) none)

  -- ---- what is put down then
  pub hand_p : child_hand d.born (Proc image.pid) ≡ Hand
  hand_p = child_others d.born image.pid Hand (λ e. cc) hand

  pub given : AllGiven world C k now (child_hand d.born) image.pid (all_given_back (with_born s d.born) (all_held bag'))
  given = bag_given world C k now (child_hand d.born) image.pid (with_born s d.born) bag' (born_bench d.born refl) hand_p bag_after

  abbrev image_then : Image
  image_then = image_after world image d.own d.phase d.entry

  pub same_pid : (image_after world image d.own d.phase d.entry).pid ≡ image.pid
  same_pid = pid_after world image d d.entry

  pub not_child : (v : Vproc) → image.pid ≡ v.pid → Forked world valid rows running W st image job bag site d bag' holds step mine wants absent fresh_unheld here v → ⊥
  not_child v same f = let x : Hand ≡ Nowhere = sym hand ∙ ap (λ u. L (Proc u)) (same ∙ f.born.pid) ∙ fresh_nowhere in cc

  pub own_view : now.proc image.pid ≡ view_unless_gone (image_after world image d.own d.phase d.entry).phase (image_after world image d.own d.phase d.entry)
  own_view = go (someone image.pid)
    where
      go : Someone image.pid → now.proc image.pid ≡ view_unless_gone (image_after world image d.own d.phase d.entry).phase (image_after world image d.own d.phase d.entry)
      go (TheChild v is same f) = absurd (not_child v same f)
      go (Itself same e) = e
      go (Another ne none unforked e) = absurd (ne refl)

  pub record Put (P : Pid → Type 0) (M : Places) (s' : State) : Type 0 where
    pub places : Places
    pub bench : Bench world C k now places s'
    pub keeps : Keeps P M places
    pub ends : now.proc image.pid ≡ None → (places (Proc image.pid) ≡ Nowhere) × Bare now places image.pid
    pub hands : (t : Token) → places t ≡ Hand → (M t ≡ Hand) × (t ≢ Proc image.pid)
    pub lost : (t : Token) → places t ≡ Nowhere → (M t ≡ Nowhere) ⊎ ((t ≡ Proc image.pid) × (now.proc image.pid ≡ None))

  pub own_vproc : (i : Image) → now.proc image.pid ≡ Some (view i) → (v : Vproc) × (vproc_in bag' image.pid ≡ Some v)
  own_vproc i e =
      let is = subst (ProcessIs world (row_of (next rows d.entry) image.pid) (running_if world running d.entry image.pid.0)) e (stands.procs image.pid) in
      let t = vproc_present (next rows d.entry) image.pid is.process (now.what (name.V image.pid)) is.there (stands.agrees (name.V image.pid)) in
      let c = held_some bag' (name.V image.pid) (held_same_names step.names (name.V image.pid) ∙ step.holds) in
      let same = what_held world rows running W st image.pid job image.own bag site d bag' holds step (name.V image.pid) c.0 c.1 in
      (t.0, go (value_at bag'.vprocs image.pid) t.0 (c.1 ∙ ap Some (sym same ∙ t.1)))
    where
      go : (o : Option (Option Vproc)) (v : Vproc) → option_map held.V o ≡ Some (held.V (Some v)) → present o ≡ Some v
      go None v e = cc
      go (Some x) v e = cc

  pub settled_keeps : Put (But image.pid) given.places (settled (all_given_back (with_born s d.born) (all_held bag')) (place_in bag' image.pid) (image_after world image d.own d.phase d.entry))
  settled_keeps = go (image_after world image d.own d.phase d.entry).phase own_view
    where
      s2 : State
      s2 = all_given_back (with_born s d.born) (all_held bag')

      i : Image
      i = image_after world image d.own d.phase d.entry

      out : (X : Where) → given.places (Proc (image_after world image d.own d.phase d.entry).pid) ≢ In X
      out = hand_out given.places (Proc (image_after world image d.own d.phase d.entry).pid) (ap (λ u. given.places (Proc u)) same_pid ∙ given.hand)

      at : (k' : ℕ) → now.proc image.pid ≡ Some (view (image_after world image d.own d.phase d.entry)) → Put (But image.pid) given.places (settled_at (all_given_back (with_born s d.born) (all_held bag')) k' (image_after world image d.own d.phase d.entry))
      at k' e = by (k' == (all_given_back (with_born s d.born) (all_held bag')).id)
        where
          fit : ImageFits now (image_after world image d.own d.phase d.entry)
          fit = ap now.proc same_pid ∙ e

          bare : Bare now given.places (image_after world image d.own d.phase d.entry).pid
          bare n = ap (λ u. carried now given.places u n) same_pid ∙ given.none n

          but : (M : Places) → Keeps (But (image_after world image d.own d.phase d.entry).pid) given.places M → Keeps (But image.pid) given.places M
          but M = subst (λ u. Keeps (But u) given.places M) same_pid

          by : (t : Bool) → Put (But image.pid) given.places (cond t (placed (all_given_back (with_born s d.born) (all_held bag')) (image_after world image d.own d.phase d.entry)) (posted (all_given_back (with_born s d.born) (all_held bag')) k' (message.Back (image_after world image d.own d.phase d.entry))))
          by true =
              let a = placed_keeps world C k now given.places (all_given_back (with_born s d.born) (all_held bag')) (image_after world image d.own d.phase d.entry) given.bench out fit bare in
              record { places = a.places; bench = a.bench; keeps = but a.places a.keeps; hands = λ t e. let h = a.hands t e in (h.0, λ g. h.1 (g ∙ ap Proc (sym same_pid))); lost = λ t e. inl (a.lost t e); ends = λ none. let x : None ≡ Some (view (image_after world image d.own d.phase d.entry)) = sym none ∙ e in cc }
          by false = record {
            places = moved given.places (Proc (image_after world image d.own d.phase d.entry).pid) (In (Wire k k'));
            bench = post_back world C k now given.places (all_given_back (with_born s d.born) (all_held bag')) k' (image_after world image d.own d.phase d.entry) given.bench out fit bare;
            keeps = but (moved given.places (Proc (image_after world image d.own d.phase d.entry).pid) (In (Wire k k'))) (keeps_proc given.places (image_after world image d.own d.phase d.entry).pid (In (Wire k k')) tt);
            hands = λ t e. let h = hand_kept given.places (Proc (image_after world image d.own d.phase d.entry).pid) (In (Wire k k')) t (λ x. cc) e in (h.0, λ g. h.1 (ap Proc same_pid ∙ sym g));
            lost = λ t e. inl (lost_kept given.places (Proc (image_after world image d.own d.phase d.entry).pid) (In (Wire k k')) t (λ x. cc) e).0;
            ends = λ none. let x : None ≡ Some (view (image_after world image d.own d.phase d.entry)) = sym none ∙ e in cc;
          }

      somewhere : now.proc image.pid ≡ Some (view (image_after world image d.own d.phase d.entry)) → (v : Vproc) → vproc_in bag' image.pid ≡ Some v →
          Put (But image.pid) given.places (settled_in (all_given_back (with_born s d.born) (all_held bag')) (place_in bag' image.pid) (image_after world image d.own d.phase d.entry) phases.Ready)
      somewhere e v is = subst (λ o. Put (But image.pid) given.places (settled_in (all_given_back (with_born s d.born) (all_held bag')) o (image_after world image d.own d.phase d.entry) phases.Ready)) (sym (ap (option_map (λ (w : Vproc). w.loc)) is)) (at v.loc.0 e)

      alike : (ph : Phase) (o : Option NodeId) → ph ≢ phases.Gone → settled_in (all_given_back (with_born s d.born) (all_held bag')) o (image_after world image d.own d.phase d.entry) ph ≡ settled_in (all_given_back (with_born s d.born) (all_held bag')) o (image_after world image d.own d.phase d.entry) phases.Ready
      alike phases.Gone o ne = absurd (ne refl)
      alike phases.Ready o ne = refl
      alike phases.Asleep None ne = refl
      alike phases.Asleep (Some v) ne = refl
      alike phases.Stopped None ne = refl
      alike phases.Stopped (Some v) ne = refl

      living : (ph : Phase) → ph ≢ phases.Gone → now.proc image.pid ≡ Some (view (image_after world image d.own d.phase d.entry)) →
          Put (But image.pid) given.places (settled_in (all_given_back (with_born s d.born) (all_held bag')) (place_in bag' image.pid) (image_after world image d.own d.phase d.entry) ph)
      living ph ne e =
          let v = own_vproc (image_after world image d.own d.phase d.entry) e in
          subst (Put (But image.pid) given.places) (sym (alike ph (place_in bag' image.pid) ne)) (somewhere e v.0 v.1)

      gone_lost_by : now.proc image.pid ≡ None → (t : Token) → (Proc image.pid ≡ t) ⊎ (Proc image.pid ≢ t) → moved given.places (Proc image.pid) Nowhere t ≡ Nowhere → (given.places t ≡ Nowhere) ⊎ ((t ≡ Proc image.pid) × (now.proc image.pid ≡ None))
      gone_lost_by none t (inl same) o = inr (sym same, none)
      gone_lost_by none t (inr ne) o = inl (sym (moved-other given.places (Proc image.pid) Nowhere t ne) ∙ o)

      go : (ph : Phase) → now.proc image.pid ≡ view_unless_gone ph (image_after world image d.own d.phase d.entry) →
          Put (But image.pid) given.places (settled_in (all_given_back (with_born s d.born) (all_held bag')) (place_in bag' image.pid) (image_after world image d.own d.phase d.entry) ph)
      go phases.Gone e = record {
        places = moved given.places (Proc image.pid) Nowhere;
        bench = record {
          id = given.bench.id;
          nodes = given.bench.nodes;
          serial = given.bench.serial;
          matches = shift world now given.places (items_at world.nodes C k s2) (items_at world.nodes C k s2) (slots_at world.nodes C k s2) (slots_at world.nodes C k s2) (Proc image.pid) Nowhere given.bench.matches
              (hand_out given.places (Proc image.pid) given.hand) (λ X e. cc) (unseen_proc world given.places image.pid Nowhere) (λ Y. refl)
              (slots_proc world now given.places (slots_at world.nodes C k s2) (slots_at world.nodes C k s2) image.pid Nowhere (λ n. refl) given.bench.matches.slots);
        };
        keeps = keeps_proc given.places image.pid Nowhere tt;
        hands = λ t e. let h = hand_kept given.places (Proc image.pid) Nowhere t (λ x. cc) e in (h.0, λ g. h.1 (sym g));
        lost = λ t o. gone_lost_by e t (tok_cases (Proc image.pid) t) o;
        ends = λ none. (moved-same given.places (Proc image.pid) Nowhere, given.none);
      }
      go phases.Ready e = living phases.Ready (λ x. cc) e
      go phases.Asleep e = living phases.Asleep (λ x. cc) e
      go phases.Stopped e = living phases.Stopped (λ x. cc) e

  -- ---- the child's image
  pub child_view : (v : Vproc) → d.born ≡ Some v → (f : Forked world valid rows running W st image job bag site d bag' holds step mine wants absent fresh_unheld here v) → now.proc v.pid ≡ Some (view (child_image image v.pid f.child))
  child_view v is f =
      ap (λ c. proc_child (proc_with W.proc image.pid (view_unless_gone (image_after world image d.own d.phase d.entry).phase (image_after world image d.own d.phase d.entry))) c v.pid) (ap (child_of world image) is ∙ f.is)
      ∙ ap (λ b. cond b (Some (view (child_image image v.pid f.child))) (proc_with W.proc image.pid (view_unless_gone (image_after world image d.own d.phase d.entry).phase (image_after world image d.own d.phase d.entry)) v.pid)) (eq-eqb v.pid.0 v.pid.0 refl)

  pub record Ended (s' : State) : Type 0 where
    pub places : Places
    pub bench : Bench world C k now places s'
    pub nobodies : Absent now places
    pub rest_home : (n : Name) → L (Rec n) ≡ AtHome → places (Rec n) ≡ AtHome
    -- where the process alone was in hand nothing is
    pub idle : ((t : Token) → L t ≡ Hand → t ≡ Proc image.pid) → (t : Token) → places t ≢ Hand
    pub sanely : Sane L → Sane places
    pub found : (t : Token) → places t ≡ Nowhere → (child_hand d.born t ≡ Nowhere) ⊎ ((t ≡ Proc image.pid) × (now.proc image.pid ≡ None))

  -- who was nowhere and is not born
  still_nowhere : (b : Option Vproc) → d.born ≡ b → (q : Pid) → born_at b (name.V q) ≡ None → q.0 ≢ image.pid.0 → L (Proc q) ≡ Nowhere → Bare W L q → (settled_keeps.places (Proc q) ≡ Nowhere) × Bare now settled_keeps.places q
  still_nowhere b is q unborn ne at bare =
      let one = first b is unborn in
      let two = given.keeps.nowhere q ne one in
      (settled_keeps.keeps.nowhere q ne two, λ n. settled_keeps.keeps.bags q ne (inr two) n (now.what n) ∙ given.keeps.bags q ne (inr one) n (now.what n) ∙ ap (λ o. carried_by q o (now.what n)) (child_recs d.born n) ∙ carried_none q (L (Rec n)) (W.what n) (now.what n) (bare n))
    where
      first : (b : Option Vproc) → d.born ≡ b → born_at b (name.V q) ≡ None → child_hand d.born (Proc q) ≡ Nowhere
      first None is u = ap (λ o. child_hand o (Proc q)) is ∙ at
      first (Some v) is u =
          let f = forked world valid rows running W st image job bag site d bag' holds step mine wants absent fresh_unheld here v is in
          ap (λ o. child_hand o (Proc q)) is ∙ moved-other L (Proc site.fresh) Hand (Proc q)
          (λ same. let e : v.pid ≡ q = f.born.pid ∙ same_fresh same in
          let c : Some (held.V (Some v)) ≡ None = sym (ap (λ t. cond t (Some (held.V (Some v))) None) (eq-eqb q.0 v.pid.0 (ap (λ (u : Pid). u.0) (sym e)))) ∙ u in cc) ∙ at
        where
          same_fresh : Proc site.fresh ≡ Proc q → site.fresh ≡ q
          same_fresh e = cc

  abbrev IsGone : Places → Pid → Type 0
  IsGone M q = (M (Proc q) ≡ Nowhere) × Bare now M q

  gone_missing : (M : Places) → (IsGone settled_keeps.places image.pid → IsGone M image.pid) → ((q : Pid) → q.0 ≢ image.pid.0 → born_at d.born (name.V q) ≡ None → IsGone settled_keeps.places q → IsGone M q) → Absent now M
  gone_missing M own others q none = go (someone q)
    where
      go : Someone q → IsGone M q
      go (TheChild v is same f) = let x : None ≡ Some (view (child_image image v.pid f.child)) = sym none ∙ ap now.proc same ∙ child_view v is f in cc
      go (Itself same e) = subst (IsGone M) (sym same) (own (settled_keeps.ends (ap now.proc (sym same) ∙ none)))
      go (Another ne unborn unforked e) = let w = missing q (sym e ∙ none) in others q ne unborn (still_nowhere d.born refl q unborn ne w.0 w.1)

  homes_then : (n : Name) → L (Rec n) ≡ AtHome → settled_keeps.places (Rec n) ≡ AtHome
  homes_then n e = settled_keeps.keeps.homes n (given.keeps.homes n (child_recs d.born n ∙ e))

  gone_on : {P : Pid → Type 0} (M : Places) → Keeps P settled_keeps.places M → (q : Pid) → P q → IsGone settled_keeps.places q → IsGone M q
  gone_on M k q o w = (k.nowhere q o w.0, λ n. k.bags q o (inr w.0) n (now.what n) ∙ w.1 n)

  pub child_bare : (v : Vproc) → d.born ≡ Some v → Forked world valid rows running W st image job bag site d bag' holds step mine wants absent fresh_unheld here v → Bare now settled_keeps.places v.pid
  child_bare v is f n =
      let ne : v.pid.0 ≢ image.pid.0 = (λ e. not_child v (ap (λ (m : ℕ). record { 0 = m }) (sym e)) f) in
      let one : child_hand d.born (Proc v.pid) ≡ Hand = ap (λ u. child_hand d.born (Proc u)) f.born.pid ∙ ap (λ o. child_hand o (Proc site.fresh)) is ∙ moved-same L (Proc site.fresh) Hand in
      let two = given.keeps.hand v.pid ne one in
      settled_keeps.keeps.bags v.pid ne (inl two) n (now.what n) ∙ given.keeps.bags v.pid ne (inl one) n (now.what n) ∙ ap (λ o. carried_by v.pid o (now.what n)) (child_recs d.born n)
      ∙ carried_none v.pid (L (Rec n)) (W.what n) (now.what n) (ap (λ u. carried W L u n) f.born.pid ∙ (missing site.fresh no_process).1 n)

  settled_lost : (t : Token) → settled_keeps.places t ≡ Nowhere → (child_hand d.born t ≡ Nowhere) ⊎ ((t ≡ Proc image.pid) × (now.proc image.pid ≡ None))
  settled_lost t e = elim (settled_keeps.lost t e) [ inl a ↦ inl (given.lost t a) | inr b ↦ inr b ]

  child_sane : Sane L → Sane (child_hand d.born)
  child_sane x = go d.born
    where
      go : (b : Option Vproc) → Sane (child_hand b)
      go None = x
      go (Some v) = sane_proc L site.fresh Hand tt x

  pub child_keeps : (b : Option Vproc) → d.born ≡ b →
      Ended (child_placed (settled (all_given_back (with_born s d.born) (all_held bag')) (place_in bag' image.pid) (image_after world image d.own d.phase d.entry)) (child_of world image b))
  child_keeps None is = record {
    places = settled_keeps.places;
    bench = settled_keeps.bench;
    nobodies = gone_missing settled_keeps.places (λ e. e) (λ q ne u e. e);
    idle = λ only t e.
        let a = settled_keeps.hands t e in
        a.1 (only t (ap (λ o. child_hand o t) (sym is) ∙ given.hands t a.0));
    sanely = λ x. settled_keeps.keeps.sane (given.keeps.sane (child_sane x));
    found = settled_lost;
    rest_home = homes_then;
  }
  child_keeps (Some v) is =
      let f = forked world valid rows running W st image job bag site d bag' holds step mine wants absent fresh_unheld here v is in
      let ci = child_image image v.pid f.child in
      let s3 = settled (all_given_back (with_born s d.born) (all_held bag')) (place_in bag' image.pid) (image_after world image d.own d.phase d.entry) in
      let ne : v.pid.0 ≢ image.pid.0 = (λ e. not_child v (ap (λ (m : ℕ). record { 0 = m }) (sym e)) f) in
      let in_hand : settled_keeps.places (Proc v.pid) ≡ Hand = settled_keeps.keeps.hand v.pid ne (given.keeps.hand v.pid ne (ap (λ u. child_hand d.born (Proc u)) f.born.pid ∙ ap (λ o. child_hand o (Proc site.fresh)) is ∙ moved-same L (Proc site.fresh) Hand)) in
      let a = placed_keeps world C k now settled_keeps.places s3 ci settled_keeps.bench (hand_out settled_keeps.places (Proc v.pid) in_hand) (child_view v is f) (child_bare v is f) in
      subst (λ o. Ended (child_placed s3 o)) (sym f.is) (record {
        places = a.places;
        bench = a.bench;
        nobodies = gone_missing a.places (λ e. gone_on a.places a.keeps image.pid (λ x. ne (sym x)) e)
            (λ q other u e. gone_on a.places a.keeps q (λ x. let c : Some (held.V (Some v)) ≡ None = sym (ap (λ t. cond t (Some (held.V (Some v))) None) (eq-eqb q.0 v.pid.0 x)) ∙ ap (λ b. born_at b (name.V q)) (sym is) ∙ u in cc) e);
        rest_home = λ n e. a.keeps.homes n (homes_then n e);
        idle = λ only t e.
            let h = a.hands t e in
            let g = settled_keeps.hands t h.0 in
            let was : moved L (Proc site.fresh) Hand t ≡ Hand = ap (λ o. child_hand o t) (sym is) ∙ given.hands t g.0 in
            g.1 (only t (sym (moved-other L (Proc site.fresh) Hand t (λ x. h.1 (sym x ∙ ap Proc (sym f.born.pid)))) ∙ was));
        sanely = λ x. a.keeps.sane (settled_keeps.keeps.sane (given.keeps.sane (child_sane x)));
        found = λ t e. settled_lost t (a.lost t e);
      })

  -- a decision, and all that follows from it, keeps the placement
  pub finished_keeps : Ended (finished world s image bag' d)
  finished_keeps =
      let c = child_keeps d.born refl in
      let s4 = child_placed (settled (all_given_back (with_born s d.born) (all_held bag')) (place_in bag' image.pid) (image_after world image d.own d.phase d.entry)) (child_of world image d.born) in
      let a = all_nudged_keeps world C k now c.places s4 d.nudges c.bench in
      record { places = a.places; bench = a.bench; nobodies = λ q none. let w = c.nobodies q none in (a.keeps.nowhere q tt w.0, λ n. a.keeps.bags q tt (inr w.0) n (now.what n) ∙ w.1 n); rest_home = λ n e. a.keeps.homes n (c.rest_home n e); idle = λ only t e. c.idle only t (a.hands t e).0; sanely = λ x. a.keeps.sane (c.sanely x); found = λ t e. c.found t (a.lost t e) }

  -- each process is somewhere
  pub present_after : ((q : Pid) (x : View) → W.proc q ≡ Some x → L (Proc q) ≢ Nowhere) → (M : Places) → ((t : Token) → M t ≡ Nowhere → (child_hand d.born t ≡ Nowhere) ⊎ ((t ≡ Proc image.pid) × (now.proc image.pid ≡ None))) →
      (q : Pid) (x : View) → now.proc q ≡ Some x → M (Proc q) ≢ Nowhere
  present_after present M found q x is lost = go (found (Proc q) lost)
    where
      before : (b : Option Vproc) → d.born ≡ b → child_hand b (Proc q) ≡ Nowhere → (L (Proc q) ≡ Nowhere) × (born_at b (name.V q) ≡ None)
      before None e o = (o, refl)
      before (Some v) e o =
          let h = lost_kept L (Proc site.fresh) Hand (Proc q) (λ x. cc) o in
          let f = forked world valid rows running W st image job bag site d bag' holds step mine wants absent fresh_unheld here v e in
          (h.0, ap (λ t. cond t (Some (held.V (Some v))) None) (ne_eqb q.0 v.pid.0 (λ s. h.1 (ap (λ (m : ℕ). Proc (record { 0 = m })) (ap (λ (u : Pid). u.0) (sym f.born.pid) ∙ sym s)))))

      by : Someone q → L (Proc q) ≡ Nowhere → born_at d.born (name.V q) ≡ None → ⊥
      by (TheChild v born same f) at none =
          let c : Some (held.V (Some v)) ≡ None = sym (ap (λ t. cond t (Some (held.V (Some v))) None) (eq-eqb q.0 v.pid.0 (ap (λ (u : Pid). u.0) same))) ∙ ap (λ b. born_at b (name.V q)) (sym born) ∙ none in cc
      by (Itself same e) at none = let h : Hand ≡ Nowhere = sym hand ∙ ap (λ u. L (Proc u)) (sym same) ∙ at in cc
      by (Another ne unborn unforked e) at none = present q x (sym e ∙ is) at

      go : (child_hand d.born (Proc q) ≡ Nowhere) ⊎ ((Proc q ≡ Proc image.pid) × (now.proc image.pid ≡ None)) → ⊥
      go (inl o) = let w = before d.born refl o in by (someone q) w.0 w.1
      go (inr o) = let same : q ≡ image.pid = one (o.0) in let f : None ≡ Some x = sym o.1 ∙ ap now.proc (sym same) ∙ is in cc
        where
          one : Proc q ≡ Proc image.pid → q ≡ image.pid
          one e = cc
