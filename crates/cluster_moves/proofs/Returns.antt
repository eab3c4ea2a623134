-- records that come home, and news
use Rattle.std.proofs.Common.{◌≡◌, ◌≢◌, ◌⊎◌, inl, inr, ◌==◌, ◌≤◌, ℕ, Bool, true, false, cond, List, [], ◌∷◌, ◌++◌, map, nat_lt, refl, sym, ap, ◌∙◌, subst, Option, None, Some, append-nil, arith, if◌then◌else◌}
use Rattle.std.specs.Option.{option_map}
use Rattle.std.proofs.lemmas.Bool.{false_from_ne_true, eqb-true, ne_eqb, ltb-true, le-ltb, ltb-false}
use Rattle.unix_names.specs.declared.Pid.{Pid}
use Rattle.unix_names.specs.declared.Name.{Name}
use Rattle.unix_names.specs.declared.Name.TheVariants as name
use Rattle.unix_names.specs.Names.{home}
use Rattle.unix_calls.specs.declared.World.{World}
use Rattle.ordered_table.specs.declared.Entry.{Entry}
use Rattle.ordered_table.specs.Entries.{value_at, AllAbove, IsRising}
use Rattle.vproc_record.specs.declared.Vproc.{Vproc}
use Rattle.group_record.specs.declared.Group.{Group}
use Rattle.record_bag.specs.declared.Held.{Held}
use Rattle.record_bag.specs.declared.Held.TheVariants as held
use Rattle.record_bag.specs.declared.Bag.{Bag}
use Rattle.std.specs.Prelude.{is_some}
use Rattle.unix_names.specs.Names.{is_before}
use Rattle.record_bag.proofs.BagLaws.{held_at-put, held_at-put_other}
use Rattle.cluster_contents.proofs.Signals.{HeldCase, held_case}
use Rattle.record_bag.specs.Bags.{is_held, held_at, with_held, all_held, named_vproc, named_group}
use Rattle.record_table.specs.declared.slot.Slot.{Slot}
use Rattle.record_table.specs.declared.slot.Slot.TheVariants.{Home, Out}
use Rattle.record_table.specs.declared.slot.Line.{Line}
use Rattle.record_table.specs.Places.{line_of, nobody, joined, marked, poked_at}
use Rattle.record_table.specs.Slots.{slot_at, with_slot}
use Rattle.record_table.proofs.SlotLaws.{slot_at-put_other, slot_at-nobody, slot_at-put_line, slot_at-put}
use Rattle.courier_core.specs.declared.courier.Courier.{Courier}
use Rattle.courier_core.specs.declared.courier.Message.TheVariants as message
use Rattle.courier_core.specs.Wants.{is_name}
use Rattle.courier_core.proofs.Order.{is_name-same, is_name-true}
use Rattle.node_state.specs.declared.State.{State}
use Rattle.node_state.specs.Returns.{pid_named, laid_by, laid, given_back, all_given_back, nudged_by, nudged_here, nudged, all_nudged}
use Rattle.node_state.specs.Wires.{posted}
use Rattle.cluster_state.specs.Cluster.{Cluster}
use Rattle.cluster_contents.specs.Placement.{Where, Ready, InLine, Wire, Spot, In, Hand, AtHome, With, Nowhere, Token, Proc, Rec, Places, moved, Contents, CourierItem, RecordItem, carried_by, carried, BagFits, Below, WaitsFor, CourierFits, SlotIs}
use Rattle.cluster_moves.specs.Benches.{items_at, slots_at}
use Rattle.cluster_moves.proofs.Things.{unseen_proc, moved-same, moved-other, put_in, shift, slots_away, slots_at as slot_changes}
use Rattle.courier_core.proofs.Keeping.{name_cases}
use Rattle.cluster_moves.proofs.Store.{slots_same, post_adds, written, slot_here, slot_others, write_same, line_changes}
use Rattle.cluster_moves.proofs.Moves.{hand_away, with_away, post_nothing, carried_other, apart, hand_out, bag_more, IsOut, None_gone, hand_kept, lost_kept, Keeps, All, But, keeps_same, keeps_then, keeps_less, keeps_proc, keeps_inside, keeps_rec, Bench, After, queue_courier, called_keeps, told_keeps, drop, slots_written, rest, into_bag, step_up, same_bench, courier_on}

-- ---- lists of records by name
abbrev pub listed : List (Name × Held) → Name → Option Held
listed [] n = None
listed (e ∷ es) n = if is_name e.0 n then Some e.1 else listed es n

abbrev pub Once : List (Name × Held) → Type 0
Once [] = Unit {0}
Once (e ∷ es) = (listed es e.0 ≡ None) × Once es

-- what stands behind the first of a list, once the record of the first is in hand
pub listed_rest : (W : Contents) (L M : Places) (p : Pid) (e : Name × Held) (es : List (Name × Held)) → ((n : Name) → listed (e ∷ es) n ≡ carried W L p n) → Once (e ∷ es) → (n : Name) → carried W M p n ≡ carried W (moved L (Rec e.0) Hand) p n → listed es n ≡ carried W M p n
listed_rest W L M p e es has once n kept = go (name_cases n e.0)
  where
    go : (n ≡ e.0) ⊎ (n ≢ e.0) → listed es n ≡ carried W M p n
    go (inl same) =
        ap (listed es) same ∙ once.0
        ∙ sym (kept ∙ ap (λ x. carried W (moved L (Rec e.0) Hand) p x) same ∙ ap (λ o. carried_by p o (W.what e.0)) (moved-same L (Rec e.0) Hand))
    go (inr ne) =
        ap (λ b. cond b (Some e.1) (listed es n)) (sym (false_from_ne_true (is_name e.0 n) (λ t. ne (sym (is_name-true e.0 n t))))) ∙ has n
        ∙ sym (kept ∙ ap (λ o. carried_by p o (W.what n)) (moved-other L (Rec e.0) Hand (Rec n) (λ x. let same : n ≡ e.0 = cc in ne same)))

listed_vprocs : (es : List (Entry (Option Vproc))) (gs : List (Entry (Option Group))) (p : Pid) → IsRising es → listed (map named_vproc es ++ map named_group gs) (name.V p) ≡ option_map held.V (value_at es p)
listed_vprocs [] [] p r = refl
listed_vprocs [] (g ∷ gs) p r = listed_vprocs [] gs p r
listed_vprocs (e ∷ es) gs p r = go (nat_lt e.pid.0 p.0) (e.pid.0 == p.0) refl refl (listed_vprocs es gs p r.1) (none_in es gs r.0)
  where
    none_in : (es : List (Entry (Option Vproc))) (gs : List (Entry (Option Group))) → AllAbove e.pid es → (q : Pid) → q.0 ≤ e.pid.0 → listed (map named_vproc es ++ map named_group gs) (name.V q) ≡ None
    none_in [] [] a q le = refl
    none_in [] (g ∷ gs) a q le = none_in [] gs a q le
    none_in (x ∷ es) gs a q le = let above = a.0 in ap (λ b. cond b (Some (held.V x.value)) (listed (map named_vproc es ++ map named_group gs) (name.V q))) (ne_eqb x.pid.0 q.0 (λ s. omega arith)) ∙ none_in es gs a.1 q le

    go : (b c : Bool) → nat_lt e.pid.0 p.0 ≡ b → (e.pid.0 == p.0) ≡ c → listed (map named_vproc es ++ map named_group gs) (name.V p) ≡ option_map held.V (value_at es p) →
        ((q : Pid) → q.0 ≤ e.pid.0 → listed (map named_vproc es ++ map named_group gs) (name.V q) ≡ None) →
        cond c (Some (held.V e.value)) (listed (map named_vproc es ++ map named_group gs) (name.V p)) ≡ option_map held.V (cond b (value_at es p) (cond c (Some e.value) None))
    go true true less same rest none = let lt = ltb-true e.pid.0 p.0 less in let eq = eqb-true e.pid.0 p.0 same in absurd (omega arith)
    go true false less same rest none = rest
    go false true less same rest none = refl
    go false false less same rest none = none p (let le = ltb-false e.pid.0 p.0 less in omega arith)

listed_only_groups : (gs : List (Entry (Option Group))) (g : Pid) → IsRising gs → listed (map named_group gs) (name.G g) ≡ option_map held.G (value_at gs g)
listed_only_groups [] g r = refl
listed_only_groups (e ∷ es) g r = go (nat_lt e.pid.0 g.0) (e.pid.0 == g.0) refl refl (listed_only_groups es g r.1) (none_in es r.0)
  where
    none_in : (es : List (Entry (Option Group))) → AllAbove e.pid es → (q : Pid) → q.0 ≤ e.pid.0 → listed (map named_group es) (name.G q) ≡ None
    none_in [] a q le = refl
    none_in (x ∷ es) a q le = let above = a.0 in ap (λ b. cond b (Some (held.G x.value)) (listed (map named_group es) (name.G q))) (ne_eqb x.pid.0 q.0 (λ s. omega arith)) ∙ none_in es a.1 q le

    go : (b c : Bool) → nat_lt e.pid.0 g.0 ≡ b → (e.pid.0 == g.0) ≡ c → listed (map named_group es) (name.G g) ≡ option_map held.G (value_at es g) → ((q : Pid) → q.0 ≤ e.pid.0 → listed (map named_group es) (name.G q) ≡ None) →
        cond c (Some (held.G e.value)) (listed (map named_group es) (name.G g)) ≡ option_map held.G (cond b (value_at es g) (cond c (Some e.value) None))
    go true true less same rest none = let lt = ltb-true e.pid.0 g.0 less in let eq = eqb-true e.pid.0 g.0 same in absurd (omega arith)
    go true false less same rest none = rest
    go false true less same rest none = refl
    go false false less same rest none = none g (let le = ltb-false e.pid.0 g.0 less in omega arith)

listed_groups : (es : List (Entry (Option Vproc))) (gs : List (Entry (Option Group))) (g : Pid) → IsRising gs → listed (map named_vproc es ++ map named_group gs) (name.G g) ≡ option_map held.G (value_at gs g)
listed_groups [] gs g r = listed_only_groups gs g r
listed_groups (e ∷ es) gs g r = listed_groups es gs g r

-- what a bag holds is what is listed
pub listed_all : (bag : Bag) → IsRising bag.vprocs → IsRising bag.groups → (n : Name) → listed (all_held bag) n ≡ held_at bag n
listed_all bag vs gs (name.V p) = listed_vprocs bag.vprocs bag.groups p vs
listed_all bag vs gs (name.G g) = listed_groups bag.vprocs bag.groups g gs

-- below the first nothing is found
value_none : {T : Type 0} (es : List (Entry T)) (p : Pid) → AllAbove p es → value_at es p ≡ None
value_none [] p a = refl
value_none (e ∷ es) p a = let above = a.0 in ap (λ b. cond b (value_at es p) (cond (e.pid.0 == p.0) (Some e.value) None)) (le-ltb e.pid.0 p.0 (omega arith)) ∙ ap (λ b. cond b (Some e.value) None) (ne_eqb e.pid.0 p.0 (λ s. omega arith))

once_groups : (gs : List (Entry (Option Group))) → IsRising gs → Once (map named_group gs)
once_groups [] r = tt
once_groups (e ∷ es) r = (listed_only_groups es e.pid r.1 ∙ ap (option_map held.G) (value_none es e.pid r.0), once_groups es r.1)

pub once_all : (es : List (Entry (Option Vproc))) (gs : List (Entry (Option Group))) → IsRising es → IsRising gs → Once (map named_vproc es ++ map named_group gs)
once_all [] gs r s = once_groups gs s
once_all (e ∷ es) gs r s = (listed_vprocs es gs e.pid r.1 ∙ ap (option_map held.V) (value_none es e.pid r.0), once_all es gs r.1 s)

-- ---- what a bag holds once it has one more
pub is_held_some : (bag : Bag) (n : Name) → is_held bag n ≡ is_some (held_at bag n)
is_held_some bag n = go (held_case bag n)
  where
    go : HeldCase bag n → is_held bag n ≡ is_some (held_at bag n)
    go (inl h) = h.2 ∙ sym (ap is_some h.1)
    go (inr h) = h.1 ∙ sym (ap is_some h.0)

pub held_more : (bag : Bag) (x : Name) (h : Held) (n : Name) → is_held bag n ≡ true → is_held (with_held bag x h) n ≡ true
held_more bag x h n e = go (name_cases n x)
  where
    go : (n ≡ x) ⊎ (n ≢ x) → is_held (with_held bag x h) n ≡ true
    go (inl same) = ap (is_held (with_held bag x h)) same ∙ is_held_some (with_held bag x h) x ∙ ap is_some (held_at-put bag x h)
    go (inr ne) = is_held_some (with_held bag x h) n ∙ ap is_some (held_at-put_other bag x n h ne) ∙ sym (is_held_some bag n) ∙ e

-- who waited for a name, and gets it, holds what is below
pub more_below : (c : Courier) (x : Name) (h : Held) → Below c → WaitsFor x c → Below (record c { bag = with_held c.bag x h })
more_below c x h below waits w m wanted has less = held_more c.bag x h w (go (name_cases m x))
  where
    go : (m ≡ x) ⊎ (m ≢ x) → is_held c.bag w ≡ true
    go (inl same) = waits.least w wanted (ap (is_before w) (sym same) ∙ less)
    go (inr ne) = below w m wanted (is_held_some c.bag m ∙ ap is_some (sym (held_at-put_other c.bag x m h ne)) ∙ sym (is_held_some (with_held c.bag x h) m) ∙ has) less

-- ---- who carries
pub carried_some : (p : Pid) (o : Spot) (h x : Held) → carried_by p o h ≡ Some x → (o ≡ With p) × (h ≡ x)
carried_some p (In X) h x e = cc
carried_some p Hand h x e = cc
carried_some p AtHome h x e = cc
carried_some p Nowhere h x e = cc
carried_some p (With q) h x e = go (q.0 == p.0) refl e
  where
    go : (b : Bool) → (q.0 == p.0) ≡ b → cond b (Some h) None ≡ Some x → (With q ≡ With p) × (h ≡ x)
    go true t e = (ap (λ (n : ℕ). With (record { 0 = n })) (eqb-true _ _ t), cc)
    go false t e = cc

-- who was in a container is not who is in hand
keeps_all : (L M : Places) (p : Pid) (X : Where) → L (Proc p) ≡ In X → Keeps (But p) L M → Keeps All L M
keeps_all L M p X at f = record {
  hand = λ q o e. f.hand q (λ s. absurd (apart L q p X e at (sym s))) e;
  bags = λ q o e. f.bags q (λ s. inside q s e) e;
  nowhere = λ q o e. f.nowhere q (λ s. let same : p ≡ q = ap (λ (n : ℕ). record { 0 = n }) (sym s) in let h : Nowhere ≡ In X = sym e ∙ ap (λ r. L (Proc r)) (sym same) ∙ at in cc) e;
  homes = f.homes;
  sane = f.sane;
}
  where
    inside : (q : Pid) → q.0 ≡ p.0 → IsOut L q → ⊥
    inside q s (inl e) = apart L q p X e at (sym s)
    inside q s (inr e) = let same : p ≡ q = ap (λ (n : ℕ). record { 0 = n }) (sym s) in let h : Nowhere ≡ In X = sym e ∙ ap (λ r. L (Proc r)) (sym same) ∙ at in cc

module _ (world : World) (C : Cluster) (k : ℕ) where
  -- a record in hand is laid at its home
  pub laid_keeps : (W : Contents) (L : Places) (s : State) (n : Name) (h : Held) → Bench world C k W L s → L (Rec n) ≡ Hand → W.what n ≡ h → home n world.nodes ≡ k → After world C k W All (λ t. t ≡ Rec n) L (laid s n h)
  laid_keeps W L s n h b hand is at = go (line_of (slot_at s.slots n)).waiters refl
    where
      handed : (c : Courier) (cs : List Courier) → (line_of (slot_at s.slots n)).waiters ≡ c ∷ cs → After world C k W All (λ t. t ≡ Rec n) L (laid_by s n h (line_of (slot_at s.slots n)).is_marked (c ∷ cs))
      handed c cs e =
          let p = c.image.pid in
          let up = step_up world C k W L s n c cs b (λ h. let x : Hand ≡ AtHome = sym hand ∙ h in cc) at e in
          let s1 = written world C k s n (Out (record { is_marked = (line_of (slot_at s.slots n)).is_marked; waiters = cs })) in
          let L1 : Places = moved L (Proc p) Hand in
          let hand1 : L1 (Proc p) ≡ Hand = moved-same L (Proc p) Hand in
          let L2 : Places = moved L1 (Rec n) (With p) in
          let b2 = into_bag world C k W L1 s1 p n up.3 hand1 hand in
          let c2 : Courier = record c { bag = with_held c.bag n h } in
          let fits : CourierFits world W L2 c2 = record { image = up.1.image; job = up.1.job; bag = bag_more W L1 n p c.bag h b.matches.kinds is (courier_on world C k W L p Hand c up.1).bag; wants = up.1.wants; below = more_below c n h up.1.below up.2 } in
          record {
            places = moved L2 (Proc p) (In (Ready k));
            bench = queue_courier world C k W L2 s1 c2 b2 (hand_out L2 (Proc p) hand1) fits;
            keeps = keeps_all L (moved L2 (Proc p) (In (Ready k))) p (InLine n) up.0
                (keeps_then (But p) L L1 (moved L2 (Proc p) (In (Ready k))) (keeps_less All (But p) L L1 (λ q o. tt) (keeps_inside L p (InLine n) Hand tt up.0))
                (keeps_then (But p) L1 L2 (moved L2 (Proc p) (In (Ready k))) (keeps_rec (But p) L1 n (With p) tt (hand_away L1 n hand) (λ q ne e g. carried_other q p g ne ∙ sym (ap (λ o. carried_by q o g) hand)))
                (keeps_proc L2 p (In (Ready k)) tt)));
            hands = λ t e.
                let h = hand_kept L2 (Proc p) (In (Ready k)) t (λ x. cc) e in
                let g = hand_kept L1 (Rec n) (With p) t (λ x. cc) h.0 in
                (sym (moved-other L (Proc p) Hand t h.1) ∙ g.0, λ x. g.1 (sym x));
            lost = λ t e.
                let h = lost_kept L2 (Proc p) (In (Ready k)) t (λ x. cc) e in
                let g = lost_kept L1 (Rec n) (With p) t (λ x. cc) h.0 in
                sym (moved-other L (Proc p) Hand t h.1) ∙ g.0;
          }

      rests : (line_of (slot_at s.slots n)).waiters ≡ [] → After world C k W All (λ t. t ≡ Rec n) L (laid_by s n h (line_of (slot_at s.slots n)).is_marked [])
      rests e =
          let L1 : Places = moved L (Rec n) AtHome in
          let a = told_keeps world C k W L1 (line_of (slot_at s.slots n)).is_marked (written world C k s n (Home h)) (pid_named n) (poked_at h) (rest world C k W L s n h b hand is at e) in
          record {
            places = a.places;
            bench = a.bench;
            keeps = keeps_then All L L1 a.places (keeps_rec All L n AtHome tt (hand_away L n hand) (λ q o e g. sym (ap (λ o. carried_by q o g) hand))) a.keeps;
            hands = λ t e. let h = hand_kept L (Rec n) AtHome t (λ x. cc) (a.hands t e).0 in (h.0, λ x. h.1 (sym x));
            lost = λ t e. (lost_kept L (Rec n) AtHome t (λ x. cc) (a.lost t e)).0;
          }

      go : (ws : List Courier) → (line_of (slot_at s.slots n)).waiters ≡ ws → After world C k W All (λ t. t ≡ Rec n) L (laid_by s n h (line_of (slot_at s.slots n)).is_marked ws)
      go [] e = rests e
      go (c ∷ cs) e = handed c cs e

  post_put : (W : Contents) (L : Places) (s : State) (n : Name) (h : Held) → Bench world C k W L s → L (Rec n) ≡ Hand → W.what n ≡ h → Bench world C k W (moved L (Rec n) (In (Wire k (home n s.nodes)))) (posted s (home n s.nodes) (message.Put n h))
  post_put W L s n h b hand is =
      let X = Wire k (home n s.nodes) in
      let s' = posted s (home n s.nodes) (message.Put n h) in
      record {
        id = b.id;
        nodes = b.nodes;
        serial = b.serial;
        matches = put_in world W L (items_at world.nodes C k s) (items_at world.nodes C k s') (slots_at world.nodes C k s) (slots_at world.nodes C k s') X (RecordItem n h) b.matches (hand_out L (Rec n) hand)
            (post_adds world C k s (home n s.nodes) (message.Put n h) (RecordItem n h) refl)
            (λ m e q Y on g. sym (ap (λ o. carried_by q o g) hand))
            (moved-same L (Rec n) (In X), is, ap (home n) (sym b.nodes))
            (λ m. subst (λ a. SlotIs (moved L (Rec n) (In X) (Rec m)) (W.what m) a) (sym (slots_same world C k s s' refl m))
            (slots_away world W L (slots_at world.nodes C k s) n (In X) (λ e. let x : Hand ≡ AtHome = sym hand ∙ e in cc) (λ e. cc) b.matches.slots m));
      }

  -- a record in hand is returned
  pub given_keeps : (W : Contents) (L : Places) (s : State) (n : Name) (h : Held) → Bench world C k W L s → L (Rec n) ≡ Hand → W.what n ≡ h → After world C k W All (λ t. t ≡ Rec n) L (given_back s n h)
  given_keeps W L s n h b hand is = go (home n s.nodes == s.id) refl
    where
      go : (t : Bool) → (home n s.nodes == s.id) ≡ t → After world C k W All (λ t. t ≡ Rec n) L (cond t (laid s n h) (posted s (home n s.nodes) (message.Put n h)))
      go true t = laid_keeps W L s n h b hand is (ap (home n) (sym b.nodes) ∙ eqb-true _ _ t ∙ b.id)
      go false t = record {
        places = moved L (Rec n) (In (Wire k (home n s.nodes)));
        bench = post_put W L s n h b hand is;
        keeps = keeps_rec All L n (In (Wire k (home n s.nodes))) tt (hand_away L n hand) (λ q o e g. sym (ap (λ o. carried_by q o g) hand));
        hands = λ u e. let h = hand_kept L (Rec n) (In (Wire k (home n s.nodes))) u (λ x. cc) e in (h.0, λ x. h.1 (sym x));
        lost = λ u e. (lost_kept L (Rec n) (In (Wire k (home n s.nodes))) u (λ x. cc) e).0;
      }

  -- all that a process in hand has is returned
  pub record AllGiven (W : Contents) (L : Places) (p : Pid) (s : State) : Type 0 where
    pub places : Places
    pub bench : Bench world C k W places s
    pub keeps : Keeps (But p) L places
    pub hand : places (Proc p) ≡ Hand
    pub none : (n : Name) → carried W places p n ≡ None
    pub hands : (t : Token) → places t ≡ Hand → L t ≡ Hand
    pub lost : (t : Token) → places t ≡ Nowhere → L t ≡ Nowhere

  pub all_given : (W : Contents) (L : Places) (p : Pid) (s : State) (hs : List (Name × Held)) → Bench world C k W L s → L (Proc p) ≡ Hand → ((n : Name) → listed hs n ≡ carried W L p n) → Once hs → AllGiven W L p (all_given_back s hs)
  all_given W L p s [] b hand has once = record { places = L; bench = b; keeps = keeps_same (But p) L; hand = hand; none = λ n. sym (has n); hands = λ t e. e; lost = λ t e. e }
  all_given W L p s (e ∷ es) b hand has once =
      let m = e.0 in
      let mine = carried_some p (L (Rec m)) (W.what m) e.1 (sym (has m) ∙ ap (λ b. cond b (Some e.1) (listed es m)) (is_name-same m)) in
      let L1 : Places = moved L (Rec m) Hand in
      let b1 = drop world C k W L s p m b hand mine.0 in
      let a = given_keeps W L1 s m e.1 b1 (moved-same L (Rec m) Hand) mine.1 in
      let hand2 : a.places (Proc p) ≡ Hand = a.keeps.hand p tt hand in
      let left : (n : Name) → listed es n ≡ carried W a.places p n = λ n. listed_rest W L a.places p e es has once n (a.keeps.bags p tt (inl hand) n (W.what n)) in
      let r = all_given W a.places p (given_back s m e.1) es a.bench hand2 left once.1 in
      record {
        places = r.places;
        bench = r.bench;
        keeps = keeps_then (But p) L L1 r.places (keeps_rec (But p) L m Hand tt (with_away L m p mine.0) (λ q ne o g. sym (ap (λ x. carried_by q x g) mine.0 ∙ carried_other q p g ne)))
            (keeps_then (But p) L1 a.places r.places (keeps_less All (But p) L1 a.places (λ q o. tt) a.keeps) r.keeps);
        hand = r.hand;
        none = r.none;
        lost = λ t e. (lost_kept L (Rec m) Hand t (λ x. cc) (a.lost t (r.lost t e))).0;
        hands = λ t e. let h = a.hands t (r.hands t e) in sym (moved-other L (Rec m) Hand t (λ x. h.1 (sym x))) ∙ h.0;
      }

  -- a bag of a process in hand is returned
  pub bag_given : (W : Contents) (L : Places) (p : Pid) (s : State) (bag : Bag) → Bench world C k W L s → L (Proc p) ≡ Hand → BagFits W L p bag → AllGiven W L p (all_given_back s (all_held bag))
  bag_given W L p s bag b hand f = all_given W L p s (all_held bag) b hand (λ n. listed_all bag f.vprocs f.groups n ∙ f.holds n) (once_all bag.vprocs bag.groups f.vprocs f.groups)

  -- ---- news
  pub nudged_here_keeps : (W : Contents) (L : Places) (s : State) (p : Pid) → Bench world C k W L s → After world C k W All None_gone L (nudged_here s p)
  nudged_here_keeps W L s p b = go (slot_at s.slots (name.V p)) refl
    where
      marks : (line : Line Courier) → slot_at s.slots (name.V p) ≡ Out line → Bench world C k W L (written world C k s (name.V p) (marked (Out line)))
      marks line e =
          let n = name.V p in
          let s' = written world C k s n (marked (Out line)) in
          same_bench world C k W L s s' b
          (write_same world C k s n (marked (Out line)) (ap (λ a. (line_of a).waiters) (slot_at-put s.slots n (marked (Out line))) ∙ sym (ap (λ a. (line_of a).waiters) e)))
          (slots_written world C k W L s s' n b (new (home n world.nodes == k) refl (b.matches.slots n)) (λ m ne. slot_others world C k s n (marked (Out line)) m ne)) refl refl refl
        where
          new : (t : Bool) → (home (name.V p) world.nodes == k) ≡ t → SlotIs (L (Rec (name.V p))) (W.what (name.V p)) (slots_at world.nodes C k s (name.V p)) →
              SlotIs (L (Rec (name.V p))) (W.what (name.V p)) (slots_at world.nodes C k (written world C k s (name.V p) (marked (Out line))) (name.V p))
          new true t f =
              let at = eqb-true _ _ t in
              subst (λ a. SlotIs (L (Rec (name.V p))) (W.what (name.V p)) a) (sym (slot_here world C k (written world C k s (name.V p) (marked (Out line))) (name.V p) at ∙ slot_at-put s.slots (name.V p) (marked (Out line))))
              (subst (λ a. SlotIs (L (Rec (name.V p))) (W.what (name.V p)) a) (slot_here world C k s (name.V p) at ∙ e) f)
          new false t f =
              subst (λ a. SlotIs (L (Rec (name.V p))) (W.what (name.V p)) a)
              (ap (λ b. slot_at (cond b s (C.nodes (home (name.V p) world.nodes))).slots (name.V p)) t ∙ sym (ap (λ b. slot_at (cond b (written world C k s (name.V p) (marked (Out line))) (C.nodes (home (name.V p) world.nodes))).slots (name.V p)) t)) f

      go : (a : Slot Held (Line Courier)) → slot_at s.slots (name.V p) ≡ a → After world C k W All None_gone L (nudged_by s p a)
      go (Home h) e = called_keeps world C k W L s p (poked_at h) b
      go (Out line) e = record { places = L; bench = marks line e; keeps = keeps_same All L; hands = λ t e. (e, λ g. g); lost = λ t e. e }

  pub nudged_keeps : (W : Contents) (L : Places) (s : State) (p : Pid) → Bench world C k W L s → After world C k W All None_gone L (nudged s p)
  nudged_keeps W L s p b = go (home (name.V p) s.nodes == s.id)
    where
      go : (t : Bool) → After world C k W All None_gone L (cond t (nudged_here s p) (posted s (home (name.V p) s.nodes) (message.Nudge p)))
      go true = nudged_here_keeps W L s p b
      go false = record { places = L; bench = post_nothing world C k W L s (home (name.V p) s.nodes) (message.Nudge p) refl b; keeps = keeps_same All L; hands = λ t e. (e, λ g. g); lost = λ t e. e }

  pub all_nudged_keeps : (W : Contents) (L : Places) (s : State) (ps : List Pid) → Bench world C k W L s → After world C k W All None_gone L (all_nudged s ps)
  all_nudged_keeps W L s [] b = record { places = L; bench = b; keeps = keeps_same All L; hands = λ t e. (e, λ g. g); lost = λ t e. e }
  all_nudged_keeps W L s (p ∷ ps) b =
      let a = nudged_keeps W L s p b in
      let r = all_nudged_keeps W a.places (nudged s p) ps a.bench in
      record { places = r.places; bench = r.bench; keeps = keeps_then All L a.places r.places a.keeps r.keeps; hands = λ t e. a.hands t (r.hands t e).0; lost = λ t e. a.lost t (r.lost t e) }

  -- ---- a record is taken, or waited for
  -- the record of a name that is at home here comes to the bag of the process in hand
  pub take : (W : Contents) (L : Places) (s : State) (p : Pid) (x : Name) (h : Held) → Bench world C k W L s → L (Proc p) ≡ Hand → home x world.nodes ≡ k → slot_at s.slots x ≡ Home h →
      (L (Rec x) ≡ AtHome) × (W.what x ≡ h) × Bench world C k W (moved L (Rec x) (With p)) (written world C k s x (Out nobody))
  take W L s p x h b hand at rests =
      let s' = written world C k s x (Out nobody) in
      let f = subst (λ a. SlotIs (L (Rec x)) (W.what x) a) (slot_here world C k s x at ∙ rests) (b.matches.slots x) in (
        f.0,
        sym f.1,
        record {
          id = b.id;
          nodes = b.nodes;
          serial = b.serial;
          matches = shift world W L (items_at world.nodes C k s) (items_at world.nodes C k s') (slots_at world.nodes C k s) (slots_at world.nodes C k s') (Rec x) (With p) b.matches
              (λ X e. let g : AtHome ≡ In X = sym f.0 ∙ e in cc)
              (λ X e. cc)
              (λ m is q X on g. carried_other q p g (apart L p q X hand on) ∙ sym (ap (λ o. carried_by q o g) f.0))
              (write_same world C k s x (Out nobody) (ap (λ a. (line_of a).waiters) (slot_at-nobody s.slots x) ∙ sym (ap (λ a. (line_of a).waiters) rests)))
              (slot_changes world W L (slots_at world.nodes C k s) (slots_at world.nodes C k s') x (With p)
              (subst (λ a. SlotIs (With p) (W.what x) a) (sym (slot_here world C k s' x at ∙ slot_at-nobody s.slots x)) (λ e. cc))
              (λ m ne. slot_others world C k s x (Out nobody) m ne) b.matches.slots);
        },
      )

  -- the courier in hand joins the line of a name that is out
  pub join : (W : Contents) (L : Places) (s : State) (c : Courier) (x : Name) (line : Line Courier) → Bench world C k W L s → L (Proc c.image.pid) ≡ Hand → CourierFits world W L c → WaitsFor x c → home x world.nodes ≡ k → slot_at s.slots x ≡ Out line →
      Bench world C k W (moved L (Proc c.image.pid) (In (InLine x))) (written world C k s x (Out (joined line c)))
  join W L s c x line b hand fit waits at out =
      let s' = written world C k s x (Out (joined line c)) in
      let p = c.image.pid in
      let away : L (Rec x) ≢ AtHome = subst (λ a. SlotIs (L (Rec x)) (W.what x) a) (slot_here world C k s x at ∙ out) (b.matches.slots x) in
      let stands : slot_at s'.slots x ≡ Out (joined line c) = subst (λ a. slot_at (with_slot s.slots x (Out (record { is_marked = (line_of a).is_marked; waiters = line.waiters ++ c ∷ [] }))) x ≡ Out (record { is_marked = (line_of a).is_marked; waiters = line.waiters ++ c ∷ [] })) out (slot_at-put_line s.slots x (line.waiters ++ c ∷ [])) in
      record {
        id = b.id;
        nodes = b.nodes;
        serial = b.serial;
        matches = put_in world W L (items_at world.nodes C k s) (items_at world.nodes C k s') (slots_at world.nodes C k s) (slots_at world.nodes C k s') (InLine x) (CourierItem c) b.matches (hand_out L (Proc p) hand)
            (line_changes world C k s s' x line.waiters c [] at (ap (λ a. (line_of a).waiters) out ∙ sym (append-nil line.waiters)) (ap (λ a. (line_of a).waiters) stands) (λ m ne. slot_at-put_other s.slots x m _ ne) refl refl refl)
            (unseen_proc world L p (In (InLine x)))
            (moved-same L (Proc p) (In (InLine x)), courier_on world C k W L p (In (InLine x)) c fit, waits)
            (slots_written world C k W L s s' x b (subst (λ a. SlotIs (L (Rec x)) (W.what x) a) (sym (slot_here world C k s' x at ∙ stands)) away) (λ m ne. slot_others world C k s x _ m ne));
      }
