-- the parts of a turn keep the placement
use Rattle.std.proofs.Common.{◌≡◌, ◌≢◌, ◌⊎◌, inl, inr, ◌==◌, ℕ, Bool, true, false, cond, List, [], ◌∷◌, ◌++◌, refl, sym, ap, ◌∙◌, subst, Option, None, Some}
use Rattle.std.specs.List.{list_any}
use Rattle.std.proofs.lemmas.Bool.{eqb-true, eq-eqb}
use Rattle.unix_names.specs.declared.Pid.{Pid}
use Rattle.unix_names.specs.declared.Name.{Name}
use Rattle.unix_names.specs.declared.Name.TheVariants as name
use Rattle.unix_names.specs.Names.{home}
use Rattle.unix_calls.specs.declared.Phase.{Phase}
use Rattle.unix_calls.specs.declared.Phase.TheVariants as phases
use Rattle.unix_calls.specs.declared.World.{World}
use Rattle.ordered_table.specs.declared.Entry.{Entry}
use Rattle.ordered_table.specs.Entries.{IsRising, value_at, with_value, without, has_value}
use Rattle.ordered_table.proofs.MapLaws.{IsRising-put}
use Rattle.proc_image.specs.declared.image.Image.{Image}
use Rattle.record_bag.specs.declared.Held.{Held}
use Rattle.record_bag.specs.declared.Bag.{Bag}
use Rattle.record_bag.specs.Kinds.{of_kind, vproc_of, group_of}
use Rattle.record_bag.specs.Bags.{held_at, with_held}
use Rattle.record_bag.proofs.BagLaws.{held_at-put, held_at-put_other}
use Rattle.record_table.specs.declared.slot.Slot.TheVariants.{Home, Out}
use Rattle.record_table.specs.declared.slots.Nudged.{Nudged}
use Rattle.record_table.specs.declared.slots.Nudged.TheVariants.{Marked, At, Nobody}
use Rattle.record_table.specs.Places.{line_of}
use Rattle.record_table.specs.Slots.{slot_at}
use Rattle.record_table.proofs.SlotLaws.{slot_at-put_home, slot_at-put_other, slot_at-put_line}
use Rattle.courier_core.specs.declared.courier.Courier.{Courier}
use Rattle.courier_core.specs.declared.courier.Message.{Message}
use Rattle.courier_core.specs.declared.courier.Message.TheVariants as message
use Rattle.node_state.specs.declared.State.{State}
use Rattle.node_state.specs.declared.Waiting.TheVariants as waiting
use Rattle.node_state.specs.Places.{queued, poked_by, poked, rested, placed_by, placed}
use Rattle.node_state.specs.Wires.{posted}
use Rattle.node_state.specs.Phases.{woken, woken_phase}
use Rattle.node_state.specs.Ready.{is_image_of}
use Rattle.node_state.specs.Returns.{called, told_if}
use Rattle.cluster_state.specs.Cluster.{Cluster}
use Rattle.cluster_contents.specs.Placement.{ProcSpot, RecSpot, Sane, Occurs, Fits, Where, Ready, Parked, InLine, Wire, Spot, In, Hand, AtHome, With, Nowhere, Token, Proc, Rec, Places, moved, view, Contents, Item, CourierItem, ImageItem, ParkedItem, token, carried_by, carried, Bare, ImageFits, BagFits, WaitsFor, CourierFits, ItemFits, SlotIs, Matches}
use Rattle.decide_law.specs.Law.{is_stopped_phase}
use Rattle.cluster_moves.specs.Benches.{stored, with_message, items_at, slots_at}
use Rattle.cluster_moves.proofs.Things.{pid, tok_cases, moved-same, moved-other, Unseen, unseen_proc, Adds, NotIn, SlotsFit, put_in, take_out, there, shift, slots_proc, slots_away, slots_at as slot_changes}
use Rattle.courier_core.proofs.Keeping.{name_cases}
use Rattle.cluster_moves.proofs.Store.{unchanged, slots_same, ready_adds, post_adds, post_news, written, slot_here, slot_others, write_same, line_changes, parked_adds, parked_there, parked_put}

-- ---- bags
carried_with : (p : Pid) (h : Held) → carried_by p (With p) h ≡ Some h
carried_with p h = ap (λ b. cond b (Some h) None) (eq-eqb p.0 p.0 refl)

pub carried_other : (p q : Pid) (h : Held) → p.0 ≢ q.0 → carried_by p (With q) h ≡ None
carried_other p q h ne = go (q.0 == p.0) refl
  where
    go : (b : Bool) → (q.0 == p.0) ≡ b → cond b (Some h) None ≡ None
    go true e = absurd (ne (sym (eqb-true _ _ e)))
    go false e = refl

-- who is in hand is in no container
pub apart : (L : Places) (p q : Pid) (X : Where) → L (Proc p) ≡ Hand → L (Proc q) ≡ In X → q.0 ≢ p.0
apart L p q X hand at e = let same : q ≡ p = ap pid e in let h : Hand ≡ In X = sym hand ∙ ap (λ r. L (Proc r)) (sym same) ∙ at in cc

pub hand_out : (L : Places) (t : Token) → L t ≡ Hand → (X : Where) → L t ≢ In X
hand_out L t hand X at = let h : Hand ≡ In X = sym hand ∙ at in cc

pub hand_away : (L : Places) (n : Name) → L (Rec n) ≡ Hand → L (Rec n) ≢ AtHome
hand_away L n hand at = let h : Hand ≡ AtHome = sym hand ∙ at in cc

pub with_away : (L : Places) (n : Name) (p : Pid) → L (Rec n) ≡ With p → L (Rec n) ≢ AtHome
with_away L n p has at = let h : With p ≡ AtHome = sym has ∙ at in cc

pub nowhere_out : (L : Places) (t : Token) → L t ≡ Nowhere → (X : Where) → L t ≢ In X
nowhere_out L t is X at = let h : Nowhere ≡ In X = sym is ∙ at in cc

-- a bag as another record moves
pub bag_kept : (W : Contents) (L : Places) (n : Name) (s : Spot) (p : Pid) (bag : Bag) → ((h : Held) → carried_by p s h ≡ carried_by p (L (Rec n)) h) → BagFits W L p bag → BagFits W (moved L (Rec n) s) p bag
bag_kept W L n s p bag same f = record { holds = λ m. f.holds m ∙ sym (go m (tok_cases (Rec n) (Rec m))); vprocs = f.vprocs; groups = f.groups }
  where
    go : (m : Name) → (Rec n ≡ Rec m) ⊎ (Rec n ≢ Rec m) → carried W (moved L (Rec n) s) p m ≡ carried W L p m
    go m (inl e) = ap (λ u. carried_by p (moved L (Rec n) s u) (W.what m)) (sym e) ∙ ap (λ o. carried_by p o (W.what m)) (moved-same L (Rec n) s) ∙ same (W.what m) ∙ ap (λ u. carried_by p (L u) (W.what m)) e
    go m (inr ne) = ap (λ o. carried_by p o (W.what m)) (moved-other L (Rec n) s (Rec m) ne)

-- a bag as it gets a record
pub bag_more : (W : Contents) (L : Places) (n : Name) (p : Pid) (bag : Bag) (h : Held) → ((m : Name) → of_kind m (W.what m) ≡ W.what m) → W.what n ≡ h → BagFits W L p bag → BagFits W (moved L (Rec n) (With p)) p (with_held bag n h)
bag_more W L n p bag h kinds is f = record { holds = λ m. go m (name_cases m n); vprocs = vs n; groups = gs n }
  where
    go : (m : Name) → (m ≡ n) ⊎ (m ≢ n) → held_at (with_held bag n h) m ≡ carried W (moved L (Rec n) (With p)) p m
    go m (inl e) = subst (λ q. held_at (with_held bag n h) q ≡ carried W (moved L (Rec n) (With p)) p q) (sym e)
        (held_at-put bag n h ∙ ap (λ x. Some (of_kind n x)) (sym is) ∙ ap Some (kinds n) ∙ sym (ap (λ o. carried_by p o (W.what n)) (moved-same L (Rec n) (With p)) ∙ carried_with p (W.what n)))
    go m (inr ne) = held_at-put_other bag n m h ne ∙ f.holds m ∙ sym (ap (λ o. carried_by p o (W.what m)) (moved-other L (Rec n) (With p) (Rec m) (λ e. let same : m ≡ n = cc in ne same)))

    vs : (n : Name) → IsRising (with_held bag n h).vprocs
    vs (name.V q) = IsRising-put bag.vprocs q (vproc_of h) f.vprocs
    vs (name.G q) = f.vprocs

    gs : (n : Name) → IsRising (with_held bag n h).groups
    gs (name.V q) = f.groups
    gs (name.G q) = IsRising-put bag.groups q (group_of h) f.groups

view_woken_phase : (ph : Phase) → is_stopped_phase (woken_phase ph) ≡ is_stopped_phase ph
view_woken_phase phases.Ready = refl
view_woken_phase phases.Asleep = refl
view_woken_phase phases.Stopped = refl
view_woken_phase phases.Gone = refl

-- being woken does not change what counts of an image
pub view_woken : (i : Image) → view (woken i) ≡ view i
view_woken i = ap (λ b. record (view i) { stopped = b }) (view_woken_phase i.phase)

-- in hand, or nowhere
abbrev pub IsOut : Places → Pid → Type 0
IsOut L q = (L (Proc q) ≡ Hand) ⊎ (L (Proc q) ≡ Nowhere)

-- ---- what a part of a turn leaves: who is in hand and what its bag has, and who is not there
pub record Keeps (P : Pid → Type 0) (L L' : Places) : Type 0 where
  pub hand : (q : Pid) → P q → L (Proc q) ≡ Hand → L' (Proc q) ≡ Hand
  pub bags : (q : Pid) → P q → IsOut L q → (n : Name) (h : Held) → carried_by q (L' (Rec n)) h ≡ carried_by q (L (Rec n)) h
  pub nowhere : (q : Pid) → P q → L (Proc q) ≡ Nowhere → L' (Proc q) ≡ Nowhere
  pub homes : (n : Name) → L (Rec n) ≡ AtHome → L' (Rec n) ≡ AtHome
  pub sane : Sane L → Sane L'

abbrev pub All : Pid → Type 0
All q = Unit {0}

abbrev pub None_gone : Token → Type 0
None_gone t = ⊥

abbrev pub But : Pid → Pid → Type 0
But p q = q.0 ≢ p.0

pub keeps_same : (P : Pid → Type 0) (L : Places) → Keeps P L L
keeps_same P L = record { hand = λ q o e. e; bags = λ q o e n h. refl; nowhere = λ q o e. e; homes = λ n e. e; sane = λ x. x }

pub keeps_then : (P : Pid → Type 0) (L M N : Places) → Keeps P L M → Keeps P M N → Keeps P L N
keeps_then P L M N f g = record {
  hand = λ q o e. g.hand q o (f.hand q o e);
  bags = λ q o e n h. g.bags q o (still q o e) n h ∙ f.bags q o e n h;
  nowhere = λ q o e. g.nowhere q o (f.nowhere q o e);
  homes = λ n e. g.homes n (f.homes n e);
  sane = λ x. g.sane (f.sane x);
}
  where
    still : (q : Pid) → P q → IsOut L q → IsOut M q
    still q o (inl e) = inl (f.hand q o e)
    still q o (inr e) = inr (f.nowhere q o e)

pub keeps_less : (P Q : Pid → Type 0) (L M : Places) → ((q : Pid) → Q q → P q) → Keeps P L M → Keeps Q L M
keeps_less P Q L M less f = record { hand = λ q o. f.hand q (less q o); bags = λ q o. f.bags q (less q o); nowhere = λ q o. f.nowhere q (less q o); homes = f.homes; sane = f.sane }

pub sane_proc : (L : Places) (p : Pid) (s : Spot) → ProcSpot s → Sane L → Sane (moved L (Proc p) s)
sane_proc L p s fit x = record { procs = λ q. go q (tok_cases (Proc p) (Proc q)); recs = x.recs }
  where
    go : (q : Pid) → (Proc p ≡ Proc q) ⊎ (Proc p ≢ Proc q) → ProcSpot (moved L (Proc p) s (Proc q))
    go q (inl e) = subst ProcSpot (sym (ap (moved L (Proc p) s) (sym e) ∙ moved-same L (Proc p) s)) fit
    go q (inr ne) = subst ProcSpot (sym (moved-other L (Proc p) s (Proc q) ne)) (x.procs q)

pub sane_rec : (L : Places) (n : Name) (s : Spot) → RecSpot s → Sane L → Sane (moved L (Rec n) s)
sane_rec L n s fit x = record { procs = x.procs; recs = λ m. go m (tok_cases (Rec n) (Rec m)) }
  where
    go : (m : Name) → (Rec n ≡ Rec m) ⊎ (Rec n ≢ Rec m) → RecSpot (moved L (Rec n) s (Rec m))
    go m (inl e) = subst RecSpot (sym (ap (moved L (Rec n) s) (sym e) ∙ moved-same L (Rec n) s)) fit
    go m (inr ne) = subst RecSpot (sym (moved-other L (Rec n) s (Rec m) ne)) (x.recs m)

-- who is in hand after a move, and did not move there, was in hand
pub hand_kept : (L : Places) (t : Token) (s : Spot) (u : Token) → s ≢ Hand → moved L t s u ≡ Hand → (L u ≡ Hand) × (t ≢ u)
hand_kept L t s u ne e = go (tok_cases t u)
  where
    go : (t ≡ u) ⊎ (t ≢ u) → (L u ≡ Hand) × (t ≢ u)
    go (inl same) = absurd (ne (sym (moved-same L t s) ∙ ap (moved L t s) same ∙ e))
    go (inr other) = (sym (moved-other L t s u other) ∙ e, other)

-- who is nowhere after a move elsewhere was nowhere
pub lost_kept : (L : Places) (t : Token) (s : Spot) (u : Token) → s ≢ Nowhere → moved L t s u ≡ Nowhere → (L u ≡ Nowhere) × (t ≢ u)
lost_kept L t s u ne e = go (tok_cases t u)
  where
    go : (t ≡ u) ⊎ (t ≢ u) → (L u ≡ Nowhere) × (t ≢ u)
    go (inl same) = absurd (ne (sym (moved-same L t s) ∙ ap (moved L t s) same ∙ e))
    go (inr other) = (sym (moved-other L t s u other) ∙ e, other)

proc_other : (p q : Pid) → q.0 ≢ p.0 → Proc p ≢ Proc q
proc_other p q ne e = let same : q ≡ p = cc in ne (ap (λ (r : Pid). r.0) same)

-- one process moves
pub keeps_proc : (L : Places) (p : Pid) (s : Spot) → ProcSpot s → Keeps (But p) L (moved L (Proc p) s)
keeps_proc L p s fit = record {
  hand = λ q ne e. moved-other L (Proc p) s (Proc q) (proc_other p q ne) ∙ e;
  bags = λ q ne e n h. refl;
  nowhere = λ q ne e. moved-other L (Proc p) s (Proc q) (proc_other p q ne) ∙ e;
  homes = λ n e. e;
  sane = sane_proc L p s fit;
}

-- one process moves that was in a container
pub keeps_inside : (L : Places) (p : Pid) (X : Where) (s : Spot) → ProcSpot s → L (Proc p) ≡ In X → Keeps All L (moved L (Proc p) s)
keeps_inside L p X s fit at = record {
  hand = λ q o e. moved-other L (Proc p) s (Proc q) (λ same. let h : In X ≡ Hand = sym at ∙ ap L same ∙ e in cc) ∙ e;
  bags = λ q o e n h. refl;
  nowhere = λ q o e. moved-other L (Proc p) s (Proc q) (λ same. let h : In X ≡ Nowhere = sym at ∙ ap L same ∙ e in cc) ∙ e;
  homes = λ n e. e;
  sane = sane_proc L p s fit;
}

-- one record moves, into the bag of nobody who counts and out of none
pub keeps_rec : (P : Pid → Type 0) (L : Places) (n : Name) (s : Spot) → RecSpot s → L (Rec n) ≢ AtHome → ((q : Pid) → P q → IsOut L q → (h : Held) → carried_by q s h ≡ carried_by q (L (Rec n)) h) → Keeps P L (moved L (Rec n) s)
keeps_rec P L n s fit away same = record {
  hand = λ q o e. e;
  bags = λ q o e m h. go q o e m h (tok_cases (Rec n) (Rec m));
  nowhere = λ q o e. e;
  homes = λ m e. moved-other L (Rec n) s (Rec m) (λ is. away (ap L is ∙ e)) ∙ e;
  sane = sane_rec L n s fit;
}
  where
    go : (q : Pid) → P q → IsOut L q → (m : Name) (h : Held) → (Rec n ≡ Rec m) ⊎ (Rec n ≢ Rec m) → carried_by q (moved L (Rec n) s (Rec m)) h ≡ carried_by q (L (Rec m)) h
    go q o e m h (inl is) = ap (λ u. carried_by q (moved L (Rec n) s u) h) (sym is) ∙ ap (λ o. carried_by q o h) (moved-same L (Rec n) s) ∙ same q o e h ∙ ap (λ u. carried_by q (L u) h) is
    go q o e m h (inr ne) = ap (λ o. carried_by q o h) (moved-other L (Rec n) s (Rec m) ne)

module _ (world : World) (C : Cluster) (k : ℕ) where
  -- the cluster, whose node k has this state in its turn
  pub record Bench (W : Contents) (L : Places) (s : State) : Type 0 where
    pub id : s.id ≡ k
    pub nodes : s.nodes ≡ world.nodes
    pub serial : s.serial ≡ W.serials k
    pub matches : Matches world W L (items_at world.nodes C k s) (slots_at world.nodes C k s)

  -- after a part of a turn
  pub record After (W : Contents) (P : Pid → Type 0) (Gone : Token → Type 0) (L : Places) (s : State) : Type 0 where
    pub places : Places
    pub bench : Bench W places s
    pub keeps : Keeps P L places
    -- who is then in hand was in hand, and did not go
    pub hands : (t : Token) → places t ≡ Hand → (L t ≡ Hand) × (Gone t → ⊥)
    -- and who is then nowhere was nowhere
    pub lost : (t : Token) → places t ≡ Nowhere → L t ≡ Nowhere

  -- ---- images and couriers that are put down
  pub put_proc : (W : Contents) (L : Places) (s s' : State) (X : Where) (x : Item) (p : Pid) → Bench W L s → token x ≡ Proc p → NotIn world (L (Proc p)) → Adds world (items_at world.nodes C k s) (items_at world.nodes C k s') X x →
      s'.slots ≡ s.slots → s'.id ≡ s.id → s'.nodes ≡ s.nodes → s'.serial ≡ s.serial → ItemFits world W (moved L (Proc p) (In X)) X x → Bench W (moved L (Proc p) (In X)) s'
  put_proc W L s s' X x p b is out adds slots ids nodes serial fit = record {
    id = ids ∙ b.id;
    nodes = nodes ∙ b.nodes;
    serial = serial ∙ b.serial;
    matches = subst (λ t. NotIn world (L t) → Unseen world L t (In X) → ItemFits world W (moved L t (In X)) X x → SlotsFit world W (moved L t (In X)) (slots_at world.nodes C k s') → Matches world W (moved L t (In X)) (items_at world.nodes C k s') (slots_at world.nodes C k s')) is
        (λ o u f sl. put_in world W L (items_at world.nodes C k s) (items_at world.nodes C k s') (slots_at world.nodes C k s) (slots_at world.nodes C k s') X x b.matches o adds u f sl)
        out (unseen_proc world L p (In X)) fit (slots_proc world W L (slots_at world.nodes C k s) (slots_at world.nodes C k s') p (In X) (slots_same world C k s s' slots) b.matches.slots);
  }

  pub queue_image : (W : Contents) (L : Places) (s : State) (i : Image) → Bench W L s → NotIn world (L (Proc i.pid)) → ImageFits W i → Bare W L i.pid → Bench W (moved L (Proc i.pid) (In (Ready k))) (queued s (waiting.Image i))
  queue_image W L s i b out fit bare = put_proc W L s (queued s (waiting.Image i)) (Ready k) (ImageItem i) i.pid b refl out (ready_adds world C k s (waiting.Image i)) refl refl refl refl (moved-same L (Proc i.pid) (In (Ready k)), fit, bare)

  pub courier_on : (W : Contents) (L : Places) (p : Pid) (s : Spot) (c : Courier) → CourierFits world W L c → CourierFits world W (moved L (Proc p) s) c
  courier_on W L p s c f = record { image = f.image; job = f.job; bag = record { holds = f.bag.holds; vprocs = f.bag.vprocs; groups = f.bag.groups }; wants = f.wants; below = f.below }

  pub queue_courier : (W : Contents) (L : Places) (s : State) (c : Courier) → Bench W L s → NotIn world (L (Proc c.image.pid)) → CourierFits world W L c → Bench W (moved L (Proc c.image.pid) (In (Ready k))) (queued s (waiting.Courier c))
  queue_courier W L s c b out fit =
      put_proc W L s (queued s (waiting.Courier c)) (Ready k) (CourierItem c) c.image.pid b refl out (ready_adds world C k s (waiting.Courier c)) refl refl refl refl
      (moved-same L (Proc c.image.pid) (In (Ready k)), courier_on W L c.image.pid (In (Ready k)) c fit, tt)

  pub post_ride : (W : Contents) (L : Places) (s : State) (to : ℕ) (c : Courier) → Bench W L s → NotIn world (L (Proc c.image.pid)) → CourierFits world W L c → Bench W (moved L (Proc c.image.pid) (In (Wire k to))) (posted s to (message.Ride c))
  post_ride W L s to c b out fit =
      put_proc W L s (posted s to (message.Ride c)) (Wire k to) (CourierItem c) c.image.pid b refl out (post_adds world C k s to (message.Ride c) (CourierItem c) refl) refl refl refl refl
      (moved-same L (Proc c.image.pid) (In (Wire k to)), courier_on W L c.image.pid (In (Wire k to)) c fit, tt)

  pub post_back : (W : Contents) (L : Places) (s : State) (to : ℕ) (i : Image) → Bench W L s → NotIn world (L (Proc i.pid)) → ImageFits W i → Bare W L i.pid → Bench W (moved L (Proc i.pid) (In (Wire k to))) (posted s to (message.Back i))
  post_back W L s to i b out fit bare =
      put_proc W L s (posted s to (message.Back i)) (Wire k to) (ImageItem i) i.pid b refl out (post_adds world C k s to (message.Back i) (ImageItem i) refl) refl refl refl refl
      (moved-same L (Proc i.pid) (In (Wire k to)), fit, bare)

  -- ---- nothing is put down
  pub same_bench : (W : Contents) (L : Places) (s s' : State) → Bench W L s → ((Y : Where) → items_at world.nodes C k s' Y ≡ items_at world.nodes C k s Y) → SlotsFit world W L (slots_at world.nodes C k s') → s'.id ≡ s.id → s'.nodes ≡ s.nodes → s'.serial ≡ s.serial → Bench W L s'
  same_bench W L s s' b same slots ids nodes serial = record {
    id = ids ∙ b.id;
    nodes = nodes ∙ b.nodes;
    serial = serial ∙ b.serial;
    matches = record { kinds = b.matches.kinds; slots = slots; items = λ Y. subst (λ l. Fits world W L Y l) (sym (same Y)) (b.matches.items Y); whole = λ t Y at. subst (Occurs t) (sym (same Y)) (b.matches.whole t Y at) };
  }

  pub post_nothing : (W : Contents) (L : Places) (s : State) (to : ℕ) (m : Message) → with_message m [] ≡ [] → Bench W L s → Bench W L (posted s to m)
  post_nothing W L s to m none b = same_bench W L s (posted s to m) b (post_news world C k s to m none) (λ n. subst (λ a. SlotIs (L (Rec n)) (W.what n) a) (sym (slots_same world C k s (posted s to m) refl n)) (b.matches.slots n)) refl refl refl

  pub with_marks : (W : Contents) (L : Places) (s : State) (marks : List (Entry Bool)) → Bench W L s → Bench W L (record s { marks = marks })
  with_marks W L s marks b = same_bench W L s (record s { marks = marks }) b (unchanged world C k s (record s { marks = marks }) local) (λ n. subst (λ a. SlotIs (L (Rec n)) (W.what n) a) (sym (slots_same world C k s (record s { marks = marks }) refl n)) (b.matches.slots n)) refl refl refl
    where
      local : (Y : Where) → stored (record s { marks = marks }) Y ≡ stored s Y
      local (Ready j) = refl
      local (Parked j) = refl
      local (InLine n) = refl
      local (Wire i l) = refl

  -- ---- parked images
  -- nobody in hand is parked here
  pub not_parked : (W : Contents) (L : Places) (s : State) (p : Pid) → Bench W L s → NotIn world (L (Proc p)) → value_at s.parked p ≡ None
  not_parked W L s p b out = go (value_at s.parked p) refl
    where
      go : (o : Option Image) → value_at s.parked p ≡ o → o ≡ None
      go None e = refl
      go (Some i) e =
          let t = parked_there s.parked p i e in
          let less : State = record s { parked = t.before ++ t.after } in
          let adds = parked_adds world C k less s t.before (record { pid = p; value = i }) t.after refl t.is refl refl refl in
          let f = there world W L (items_at world.nodes C k s) (items_at world.nodes C k less) (slots_at world.nodes C k s) (Parked k) (ParkedItem p i) b.matches (adds (Parked k)) in
          absurd (out (Parked k) f.0)

  pub park : (W : Contents) (L : Places) (s : State) (i : Image) → Bench W L s → NotIn world (L (Proc i.pid)) → ImageFits W i → Bare W L i.pid → Bench W (moved L (Proc i.pid) (In (Parked k))) (record s { parked = with_value s.parked i.pid i })
  park W L s i b out fit bare =
      let t = parked_put s.parked i.pid i (not_parked W L s i.pid b out) in
      put_proc W L s (record s { parked = with_value s.parked i.pid i }) (Parked k) (ParkedItem i.pid i) i.pid b refl out
      (parked_adds world C k s (record s { parked = with_value s.parked i.pid i }) t.before (record { pid = i.pid; value = i }) t.after t.is t.more refl refl refl)
      refl refl refl refl (moved-same L (Proc i.pid) (In (Parked k)), refl, fit, bare)

  -- an item is picked up
  pub pick_up : (W : Contents) (L : Places) (s s' : State) (X : Where) (x : Item) (p : Pid) → Bench W L s → token x ≡ Proc p → L (Proc p) ≡ In X → Adds world (items_at world.nodes C k s') (items_at world.nodes C k s) X x →
      SlotsFit world W L (slots_at world.nodes C k s') → s'.id ≡ s.id → s'.nodes ≡ s.nodes → s'.serial ≡ s.serial → Bench W (moved L (Proc p) Hand) s'
  pick_up W L s s' X x p b is at adds slots ids nodes serial = record {
    id = ids ∙ b.id;
    nodes = nodes ∙ b.nodes;
    serial = serial ∙ b.serial;
    matches = subst (λ t. L t ≡ In X → Unseen world L t Hand → SlotsFit world W (moved L t Hand) (slots_at world.nodes C k s') → Matches world W (moved L t Hand) (items_at world.nodes C k s') (slots_at world.nodes C k s')) is
        (λ at u sl. take_out world W L (items_at world.nodes C k s) (items_at world.nodes C k s') (slots_at world.nodes C k s) (slots_at world.nodes C k s') X x Hand b.matches (λ Y e. cc) adds at u sl)
        at (unseen_proc world L p Hand) slots;
  }

  pub slots_still : (W : Contents) (L : Places) (s s' : State) → Bench W L s → s'.slots ≡ s.slots → SlotsFit world W L (slots_at world.nodes C k s')
  slots_still W L s s' b same n = subst (λ a. SlotIs (L (Rec n)) (W.what n) a) (sym (slots_same world C k s s' same n)) (b.matches.slots n)

  pub unpark : (W : Contents) (L : Places) (s : State) (p : Pid) (i : Image) → Bench W L s → value_at s.parked p ≡ Some i → (i.pid ≡ p) × (L (Proc p) ≡ In (Parked k)) × ImageFits W i × Bare W L p × Bench W (moved L (Proc p) Hand) (record s { parked = without s.parked p })
  unpark W L s p i b e =
      let t = parked_there s.parked p i e in
      let less : State = record s { parked = without s.parked p } in
      let adds = parked_adds world C k less s t.before (record { pid = p; value = i }) t.after t.less t.is refl refl refl in
      let f = there world W L (items_at world.nodes C k s) (items_at world.nodes C k less) (slots_at world.nodes C k s) (Parked k) (ParkedItem p i) b.matches (adds (Parked k)) in
      (f.1, f.0, f.2, f.3, pick_up W L s less (Parked k) (ParkedItem p i) p b refl f.0 adds (slots_still W L s less b refl) refl refl refl)

  -- ---- a process is told that it may go on
  pub poked_keeps : (W : Contents) (L : Places) (s : State) (p : Pid) → Bench W L s → After W All None_gone L (poked s p)
  poked_keeps W L s p b = go (value_at s.parked p) refl
    where
      marks_or : (t : Bool) → After W All None_gone L (cond t s (record s { marks = with_value s.marks p true }))
      marks_or true = record { places = L; bench = b; keeps = keeps_same All L; hands = λ t e. (e, λ g. g); lost = λ t e. e }
      marks_or false = record { places = L; bench = with_marks W L s (with_value s.marks p true) b; keeps = keeps_same All L; hands = λ t e. (e, λ g. g); lost = λ t e. e }

      woke : (i : Image) → (i.pid ≡ p) × (L (Proc p) ≡ In (Parked k)) × ImageFits W i × Bare W L p × Bench W (moved L (Proc p) Hand) (record s { parked = without s.parked p }) → After W All None_gone L (poked_by s p (Some i))
      woke i (same, at, fit, bare, taken) =
          let mid = moved L (Proc p) Hand in
          let hand : mid (Proc i.pid) ≡ Hand = ap (λ q. mid (Proc q)) same ∙ moved-same L (Proc p) Hand in
          let k1 = keeps_inside L p (Parked k) Hand tt at in
          record {
            places = moved mid (Proc i.pid) (In (Ready k));
            bench = queue_image W mid (record s { parked = without s.parked p }) (woken i) taken (hand_out mid (Proc i.pid) hand) (fit ∙ ap Some (sym (view_woken i))) (λ n. ap (λ q. carried W L q n) same ∙ bare n);
            keeps = record {
              hand = λ q o e. moved-other mid (Proc i.pid) (In (Ready k)) (Proc q) (λ h. let x : In (Parked k) ≡ Hand = sym at ∙ ap (λ r. L (Proc r)) (sym same) ∙ ap L h ∙ e in cc) ∙ k1.hand q o e;
              bags = λ q o e n h. refl;
              nowhere = λ q o e. moved-other mid (Proc i.pid) (In (Ready k)) (Proc q) (λ h. let x : In (Parked k) ≡ Nowhere = sym at ∙ ap (λ r. L (Proc r)) (sym same) ∙ ap L h ∙ e in cc) ∙ k1.nowhere q o e;
              homes = λ n e. e;
              sane = λ x. sane_proc mid i.pid (In (Ready k)) tt (k1.sane x);
            };
            hands = λ t e.
                let h = hand_kept mid (Proc i.pid) (In (Ready k)) t (λ x. cc) e in
                (sym (moved-other L (Proc p) Hand t (λ x. h.1 (ap Proc same ∙ x))) ∙ h.0, λ g. g);
            lost = λ t e.
                let h = lost_kept mid (Proc i.pid) (In (Ready k)) t (λ x. cc) e in
                sym (moved-other L (Proc p) Hand t (λ x. h.1 (ap Proc same ∙ x))) ∙ h.0;
          }

      go : (o : Option Image) → value_at s.parked p ≡ o → After W All None_gone L (poked_by s p o)
      go None e = marks_or (list_any (is_image_of p) s.ready)
      go (Some i) e = woke i (unpark W L s p i b e)

  pub called_keeps : (W : Contents) (L : Places) (s : State) (p : Pid) (n : Nudged) → Bench W L s → After W All None_gone L (called s p n)
  called_keeps W L s p Marked b = record { places = L; bench = b; keeps = keeps_same All L; hands = λ t e. (e, λ g. g); lost = λ t e. e }
  called_keeps W L s p Nobody b = record { places = L; bench = b; keeps = keeps_same All L; hands = λ t e. (e, λ g. g); lost = λ t e. e }
  called_keeps W L s p (At place) b = go (place.0 == s.id)
    where
      go : (t : Bool) → After W All None_gone L (cond t (poked s p) (posted s place.0 (message.Poke p)))
      go true = poked_keeps W L s p b
      go false = record { places = L; bench = post_nothing W L s place.0 (message.Poke p) refl b; keeps = keeps_same All L; hands = λ t e. (e, λ g. g); lost = λ t e. e }

  pub told_keeps : (W : Contents) (L : Places) (t : Bool) (s : State) (p : Pid) (n : Nudged) → Bench W L s → After W All None_gone L (told_if t s p n)
  told_keeps W L true s p n b = called_keeps W L s p n b
  told_keeps W L false s p n b = record { places = L; bench = b; keeps = keeps_same All L; hands = λ t e. (e, λ g. g); lost = λ t e. e }

  -- an image comes to stand here
  pub placed_keeps : (W : Contents) (L : Places) (s : State) (i : Image) → Bench W L s → NotIn world (L (Proc i.pid)) → ImageFits W i → Bare W L i.pid → After W (But i.pid) (λ t. t ≡ Proc i.pid) L (placed s i)
  placed_keeps W L s i b out fit bare = by (has_value s.marks i.pid)
    where
      rests : (ph : Phase) → After W (But i.pid) (λ t. t ≡ Proc i.pid) L (rested s i ph)
      rests phases.Ready = record { places = moved L (Proc i.pid) (In (Ready k)); bench = queue_image W L s i b out fit bare; keeps = keeps_proc L i.pid (In (Ready k)) tt; hands = λ t e. let h = hand_kept L (Proc i.pid) (In (Ready k)) t (λ x. cc) e in (h.0, λ g. h.1 (sym g)); lost = λ t e. (lost_kept L (Proc i.pid) (In (Ready k)) t (λ x. cc) e).0 }
      rests phases.Asleep = record { places = moved L (Proc i.pid) (In (Parked k)); bench = park W L s i b out fit bare; keeps = keeps_proc L i.pid (In (Parked k)) tt; hands = λ t e. let h = hand_kept L (Proc i.pid) (In (Parked k)) t (λ x. cc) e in (h.0, λ g. h.1 (sym g)); lost = λ t e. (lost_kept L (Proc i.pid) (In (Parked k)) t (λ x. cc) e).0 }
      rests phases.Stopped = record { places = moved L (Proc i.pid) (In (Parked k)); bench = park W L s i b out fit bare; keeps = keeps_proc L i.pid (In (Parked k)) tt; hands = λ t e. let h = hand_kept L (Proc i.pid) (In (Parked k)) t (λ x. cc) e in (h.0, λ g. h.1 (sym g)); lost = λ t e. (lost_kept L (Proc i.pid) (In (Parked k)) t (λ x. cc) e).0 }
      rests phases.Gone = record { places = moved L (Proc i.pid) (In (Parked k)); bench = park W L s i b out fit bare; keeps = keeps_proc L i.pid (In (Parked k)) tt; hands = λ t e. let h = hand_kept L (Proc i.pid) (In (Parked k)) t (λ x. cc) e in (h.0, λ g. h.1 (sym g)); lost = λ t e. (lost_kept L (Proc i.pid) (In (Parked k)) t (λ x. cc) e).0 }

      by : (t : Bool) → After W (But i.pid) (λ t. t ≡ Proc i.pid) L (placed_by s i t)
      by true = record {
        places = moved L (Proc i.pid) (In (Ready k));
        bench = queue_image W L (record s { marks = without s.marks i.pid }) (woken i) (with_marks W L s (without s.marks i.pid) b) out (fit ∙ ap Some (sym (view_woken i))) bare;
        keeps = keeps_proc L i.pid (In (Ready k)) tt;
        hands = λ t e. let h = hand_kept L (Proc i.pid) (In (Ready k)) t (λ x. cc) e in (h.0, λ g. h.1 (sym g));
        lost = λ t e. (lost_kept L (Proc i.pid) (In (Ready k)) t (λ x. cc) e).0;
      }
      by false = rests i.phase

  -- ---- records
  -- a record of the process in hand is put aside
  pub drop : (W : Contents) (L : Places) (s : State) (p : Pid) (n : Name) → Bench W L s → L (Proc p) ≡ Hand → L (Rec n) ≡ With p → Bench W (moved L (Rec n) Hand) s
  drop W L s p n b hand with_p = record {
    id = b.id;
    nodes = b.nodes;
    serial = b.serial;
    matches = shift world W L (items_at world.nodes C k s) (items_at world.nodes C k s) (slots_at world.nodes C k s) (slots_at world.nodes C k s) (Rec n) Hand b.matches
        (λ X e. let h : With p ≡ In X = sym with_p ∙ e in cc)
        (λ X e. cc)
        (λ m is q X at h. sym (ap (λ o. carried_by q o h) with_p ∙ carried_other q p h (apart L p q X hand at)))
        (λ Y. refl)
        (slots_away world W L (slots_at world.nodes C k s) n Hand (λ e. let h : With p ≡ AtHome = sym with_p ∙ e in cc) (λ e. cc) b.matches.slots);
  }

  -- a slot that is written, and no record or process moves
  pub slots_written : (W : Contents) (L : Places) (s s' : State) (n : Name) → Bench W L s → SlotIs (L (Rec n)) (W.what n) (slots_at world.nodes C k s' n) → ((m : Name) → m ≢ n → slots_at world.nodes C k s' m ≡ slots_at world.nodes C k s m) → SlotsFit world W L (slots_at world.nodes C k s')
  slots_written W L s s' n b new others m = go (name_cases m n)
    where
      go : (m ≡ n) ⊎ (m ≢ n) → SlotIs (L (Rec m)) (W.what m) (slots_at world.nodes C k s' m)
      go (inl e) = subst (λ q. SlotIs (L (Rec q)) (W.what q) (slots_at world.nodes C k s' q)) (sym e) new
      go (inr ne) = subst (λ a. SlotIs (L (Rec m)) (W.what m) a) (sym (others m ne)) (b.matches.slots m)

  -- a record in hand comes to rest
  pub rest : (W : Contents) (L : Places) (s : State) (n : Name) (h : Held) → Bench W L s → L (Rec n) ≡ Hand → W.what n ≡ h → home n world.nodes ≡ k → (line_of (slot_at s.slots n)).waiters ≡ [] → Bench W (moved L (Rec n) AtHome) (written world C k s n (Home h))
  rest W L s n h b hand is at none =
      let s' = written world C k s n (Home h) in
      record {
        id = b.id;
        nodes = b.nodes;
        serial = b.serial;
        matches = shift world W L (items_at world.nodes C k s) (items_at world.nodes C k s') (slots_at world.nodes C k s) (slots_at world.nodes C k s') (Rec n) AtHome b.matches
            (hand_out L (Rec n) hand)
            (λ X e. cc)
            (λ m e q X on g. sym (ap (λ o. carried_by q o g) hand))
            (write_same world C k s n (Home h) (ap (λ a. (line_of a).waiters) (slot_at-put_home s.slots n h) ∙ sym none))
            (slot_changes world W L (slots_at world.nodes C k s) (slots_at world.nodes C k s') n AtHome
            (subst (λ a. SlotIs AtHome (W.what n) a) (sym (slot_here world C k s' n at ∙ slot_at-put_home s.slots n h)) (refl, ap (of_kind n) (sym is) ∙ b.matches.kinds n))
            (λ m ne. slot_others world C k s n (Home h) m ne) b.matches.slots);
      }

  -- a record in hand comes to the bag of a process in hand
  pub into_bag : (W : Contents) (L : Places) (s : State) (p : Pid) (n : Name) → Bench W L s → L (Proc p) ≡ Hand → L (Rec n) ≡ Hand → Bench W (moved L (Rec n) (With p)) s
  into_bag W L s p n b hand loose = record {
    id = b.id;
    nodes = b.nodes;
    serial = b.serial;
    matches = shift world W L (items_at world.nodes C k s) (items_at world.nodes C k s) (slots_at world.nodes C k s) (slots_at world.nodes C k s) (Rec n) (With p) b.matches
        (hand_out L (Rec n) loose)
        (λ X e. cc)
        (λ m is q X at h. carried_other q p h (apart L p q X hand at) ∙ sym (ap (λ o. carried_by q o h) loose))
        (λ Y. refl)
        (slots_away world W L (slots_at world.nodes C k s) n (With p) (λ e. let h : Hand ≡ AtHome = sym loose ∙ e in cc) (λ e. cc) b.matches.slots);
  }

  -- the first in line is picked up
  pub step_up : (W : Contents) (L : Places) (s : State) (n : Name) (c : Courier) (cs : List Courier) → Bench W L s → L (Rec n) ≢ AtHome → home n world.nodes ≡ k → (line_of (slot_at s.slots n)).waiters ≡ c ∷ cs →
      let s' = written world C k s n (Out (record { is_marked = (line_of (slot_at s.slots n)).is_marked; waiters = cs })) in
      (L (Proc c.image.pid) ≡ In (InLine n)) × CourierFits world W L c × WaitsFor n c × Bench W (moved L (Proc c.image.pid) Hand) s'
  step_up W L s n c cs b away at line =
      let s' = written world C k s n (Out (record { is_marked = (line_of (slot_at s.slots n)).is_marked; waiters = cs })) in
      let stands = slot_at-put_line s.slots n cs in
      let adds = line_changes world C k s' s n [] c cs at (ap (λ a. (line_of a).waiters) stands) line (λ m ne. sym (slot_at-put_other s.slots n m _ ne)) refl refl refl in
      let f = there world W L (items_at world.nodes C k s) (items_at world.nodes C k s') (slots_at world.nodes C k s) (InLine n) (CourierItem c) b.matches (adds (InLine n)) in (
        f.0,
        f.1,
        f.2,
        pick_up W L s s' (InLine n) (CourierItem c) c.image.pid b refl f.0 adds
            (slots_written W L s s' n b (subst (λ a. SlotIs (L (Rec n)) (W.what n) a) (sym (slot_here world C k s' n at ∙ stands)) away) (λ m ne. slot_others world C k s n _ m ne)) refl refl refl,
      )
