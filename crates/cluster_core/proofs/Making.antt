-- a turn of a node whose messages have arrived is one of the cluster
use Rattle.std.proofs.Common.{◌≡◌, ◌≢◌, ◌==◌, ◌&&◌, ◌<◌, ℕ, suc, Bool, true, false, List, [], ◌∷◌, length, refl, sym, ap, ◌∙◌, subst, Option, None, Some}
use Rattle.std.specs.Prelude.{slice_get, slice_set}
use Rattle.std.specs.Option.{option_map, is_some}
use borrow.Author.Tests.{eqb-true, eqb-false}
use Rattle.std.proofs.lemmas.List.{length-set, set-get_or}
use Rattle.std.proofs.lemmas.Option.{slice_get_within, get_or_from_slice_get}
use Rattle.list_laws.proofs.Filters.{some_same}
use Rattle.unix_calls.specs.declared.Entry.{Entry}
use Rattle.unix_calls.specs.declared.Turn.{Turn}
use Rattle.unix_calls.specs.declared.World.{World}
use Rattle.node_state.specs.declared.State.{State}
use Rattle.node_state.specs.declared.Sent.{Sent}
use Rattle.node_core.specs.Advance.{Ask, is_advanced}
use Rattle.node_core.specs.Views.{NodeView}
use Rattle.cluster_state.specs.Cluster.{Cluster, delivered, turned_at, turned}
use Rattle.cluster_state.specs.Possible.{IsInWorld}
use Rattle.cluster_core.specs.declared.cluster.Place.{Place}
use Rattle.cluster_core.specs.MethodShows.{ShowsNode, ShowsArrivals, Shown, Shows, IsMade, with_sends, AreDelivered}
use Rattle.cluster_core.proofs.Sending.{HasWire}
use Rattle.cluster_core.proofs.Placing.{get_set_same, get_set_other, turned_shows, sent_off_rested}

-- ---- as many places
same_many : {X Y : Type 0} (xs : List X) (ys : List Y) → ((l : ℕ) → is_some (slice_get xs l) ≡ is_some (slice_get ys l)) → length xs ≡ length ys
same_many [] [] h = refl
same_many [] (y ∷ ys) h = let e : false ≡ true = h 0 in cc
same_many (x ∷ xs) [] h = let e : true ≡ false = h 0 in cc
same_many (x ∷ xs) (y ∷ ys) h = ap suc (same_many xs ys (λ l. h (suc l)))

mapped_is_some : {X Y : Type 0} (f : X → Y) (o : Option X) → is_some (option_map f o) ≡ is_some o
mapped_is_some f None = refl
mapped_is_some f (Some x) = refl

pub delivered_many : {O : Type 0} (from : ℕ) (sends : List Sent) (a b : List (Place O)) → AreDelivered from sends a b → length b ≡ length a
delivered_many from sends a b d = same_many b a (λ l. ap is_some (d l) ∙ mapped_is_some (with_sends from sends l) (slice_get a l))

-- ---- the turn
module _ {O : Type 0} (answer : O → Ask) (world : World) (shown : Shown O) (k : ℕ) (places new : List (Place O)) (place : Place O) where
  -- the cluster from which node k has its turn: as it is shown, but for what is on its way to the node
  module _ (C : Cluster) (node : NodeView O) (arrived : List (List Sent)) (entry : Option Entry) (sends : List Sent) where
    abbrev stepped_place : Place O
    stepped_place = record { node = node; arrivals = arrived }

    abbrev left : State
    left = record node.state { out = sends }

    -- the nodes are those that are shown, and so is what is on its way to the others
    pub stepped_shows : Shows world.nodes shown places → slice_get places k ≡ Some place →
        ((l : ℕ) → C.nodes l ≡ shown.cluster.nodes l) → ((from l : ℕ) → l ≢ k → C.wires from l ≡ shown.cluster.wires from l) → ShowsArrivals world.nodes C k arrived →
        node.ops ≡ shown.ops → node.has_failed ≡ false → node.state.out ≡ [] →
        AreDelivered k sends (slice_set places k stepped_place) new → Shows world.nodes (record { ops = shown.ops; cluster = delivered C k left }) new
    stepped_shows shows here nodes wires own ops runs out sent =
        turned_shows world.nodes shown.ops C k left (slice_set places k stepped_place) new stepped_place
        many (get_set_same places k stepped_place within)
        (λ l other ne e. subst (λ (s : State). ShowsNode shown.ops s other.node) (sym (nodes l)) (shows.node l other (sym (get_set_other places k l stepped_place ne) ∙ e)))
        (λ l other e. at_arrivals l other e (l == k) refl)
        (record { ops_is = ops; state_is = sym (sent_off_rested node.state out); runs = runs })
        lt (delivered_many k sends (slice_set places k stepped_place) new sent ∙ many) sent
      where
        within : k < length places
        within = slice_get_within places k place here

        many : length (slice_set places k stepped_place) ≡ world.nodes
        many = length-set places k stepped_place ∙ shows.many

        lt : k < world.nodes
        lt = subst (λ (n : ℕ). k < n) shows.many within

        at_arrivals : (l : ℕ) (other : Place O) → slice_get (slice_set places k stepped_place) l ≡ Some other → (b : Bool) → (l == k) ≡ b → ShowsArrivals world.nodes C l other.arrivals
        at_arrivals l other e true t =
            let same : l ≡ k = eqb-true l k t in
            let it : stepped_place ≡ other = some_same _ _ (sym (get_set_same places k stepped_place within) ∙ ap (slice_get (slice_set places k stepped_place)) (sym same) ∙ e) in
            subst (λ (j : ℕ). ShowsArrivals world.nodes C j other.arrivals) (sym same) (subst (λ (x : Place O). ShowsArrivals world.nodes C k x.arrivals) it own)
        at_arrivals l other e false t =
            let ne : l ≢ k = eqb-false l k t in
            let a : ShowsArrivals world.nodes shown.cluster l other.arrivals = shows.arrivals l other (sym (get_set_other places k l stepped_place ne) ∙ e) in
            record { many = a.many; wire = λ from less. a.wire from less ∙ sym (wires from l ne) }

    -- what the node's turn gives is what the cluster's gives
    pub stepped_made : (turn : Turn) (n : ℕ) → IsInWorld world turn → turned world (answer shown.ops) n shown.cluster turn ≡ Some (turned_at C k (is_advanced left entry)) →
        Shows world.nodes (record { ops = shown.ops; cluster = delivered C k left }) new → IsMade answer world turn shown (Some entry) new
    stepped_made turn n inside e shows = (turned_at C k (is_advanced left entry), record { inside = inside; questions = n; is = e }, refl, shows)

    -- there is a wire from the node to each place
    pub has_wire : Shows world.nodes shown places → slice_get places k ≡ Some place → length arrived ≡ world.nodes → HasWire k (slice_set places k stepped_place)
    has_wire shows here many l other e = go (l == k) refl
      where
        within : k < length places
        within = slice_get_within places k place here

        lt : k < world.nodes
        lt = subst (λ (n : ℕ). k < n) shows.many within

        go : (b : Bool) → (l == k) ≡ b → k < length other.arrivals
        go true t =
            let same : l ≡ k = eqb-true l k t in
            let it : stepped_place ≡ other = some_same _ _ (sym (get_set_same places k stepped_place within) ∙ ap (slice_get (slice_set places k stepped_place)) (sym same) ∙ e) in
            subst (λ (x : Place O). k < length x.arrivals) it (subst (λ (n : ℕ). k < n) (sym many) lt)
        go false t =
            let a = shows.arrivals l other (sym (get_set_other places k l stepped_place (eqb-false l k t)) ∙ e) in
            subst (λ (n : ℕ). k < n) (sym a.many) lt

-- a place that is put back as it was
pub put_back_shows : {O : Type 0} (nodes : ℕ) (shown : Shown O) (places : List (Place O)) (k : ℕ) (place same : Place O) → Shows nodes shown places → slice_get places k ≡ Some place → same ≡ place → Shows nodes shown (slice_set places k same)
put_back_shows nodes shown places k place same shows here e =
    subst (Shows nodes shown) (sym (ap (λ (x : Place _). slice_set places k x) (e ∙ sym (get_or_from_slice_get places k place place here)) ∙ set-get_or places k place)) shows

-- ---- what is not offered
pub right_idle : (a b : Bool) → b ≡ false → (a && b) ≡ false
right_idle true b e = e
right_idle false b e = refl
