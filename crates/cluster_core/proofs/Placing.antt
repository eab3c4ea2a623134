-- the places after a turn show the cluster after it
use Rattle.std.proofs.Common.{◌≡◌, ◌≢◌, ◌==◌, ◌<◌, ◌≤◌, ℕ, Bool, true, false, List, [], ◌++◌, length, refl, sym, ap, ◌∙◌, subst, arith, Some, inl, inr}
use Rattle.std.specs.Prelude.{slice_get, slice_set, slice_index_or, if◌then◌else◌}
use borrow.Author.Tests.{eqb-true, eqb-false}
use Rattle.std.proofs.lemmas.List.{get_or-set_same, get_or-set_other, length-set}
use Rattle.std.proofs.lemmas.Option.{slice_get-get_or, slice_get_past, slice_get_cases}
use Rattle.list_laws.proofs.Filters.{some_same, mapped_some}
use Rattle.node_state.specs.declared.State.{State}
use Rattle.node_state.specs.declared.Sent.{Sent}
use Rattle.node_state.specs.Wires.{sent_off}
use Rattle.cluster_state.specs.Cluster.{Cluster, sends_to, delivered}
use Rattle.cluster_core.specs.declared.cluster.Place.{Place}
use Rattle.cluster_core.specs.MethodShows.{ShowsNode, ShowsArrivals, Shown, Shows, with_sends, AreDelivered}

-- ---- lists
pub get_set_same : {X : Type 0} (xs : List X) (i : ℕ) (y : X) → i < length xs → slice_get (slice_set xs i y) i ≡ Some y
get_set_same xs i y lt =
    let within : i < length (slice_set xs i y) = omega (arith, length-set xs i y, lt) in
    slice_get-get_or (slice_set xs i y) i y within ∙ ap Some (get_or-set_same xs i y y lt)

pub get_set_other : {X : Type 0} (xs : List X) (i j : ℕ) (y : X) → j ≢ i → slice_get (slice_set xs i y) j ≡ slice_get xs j
get_set_other xs i j y ne = elim (slice_get_cases xs j).1 [
  | inl here ↦
      let within : j < length (slice_set xs i y) = omega (arith, length-set xs i y, here.1) in
      slice_get-get_or (slice_set xs i y) j here.0 within ∙ ap Some (get_or-set_other xs i j y here.0 ne) ∙ sym (slice_get-get_or xs j here.0 here.1)
  | inr past ↦
      let beyond : length (slice_set xs i y) ≤ j = omega (arith, length-set xs i y, past.0) in
      slice_get_past (slice_set xs i y) j beyond ∙ sym past.1
]

-- ---- what is sent
-- nothing is left to be sent
pub sent_off_rested : (s : State) → s.out ≡ [] → sent_off s ≡ s
sent_off_rested s e = ap (λ (o : List Sent). record s { out = o }) (sym e)

-- ---- the places
module _ {O : Type 0} (nodes : ℕ) (ops : O) where
  abbrev shown : Cluster → Shown O
  shown C = record { ops = ops; cluster = C }

  -- the place of node k after its turn, with what is on its way to it, and what was sent
  module _ (C : Cluster) (k : ℕ) (s : State) (places new : List (Place O)) (place : Place O) where
    pub turned_shows :
        length places ≡ nodes → slice_get places k ≡ Some place →
        ((l : ℕ) (other : Place O) → l ≢ k → slice_get places l ≡ Some other → ShowsNode ops (C.nodes l) other.node) →
        ((l : ℕ) (other : Place O) → slice_get places l ≡ Some other → ShowsArrivals nodes C l other.arrivals) →
        ShowsNode ops (sent_off s) place.node → k < nodes → length new ≡ nodes →
        AreDelivered k s.out places new → Shows nodes (shown (delivered C k s)) new
    turned_shows many here others arrivals own lt many' sent = record {
      many = many';
      node = λ l p e. let it = mapped_some (with_sends k s.out l) (slice_get places l) p (sym (sent l) ∙ e) in at_node l p (it.0, it.1, sym it.2);
      arrivals = λ l p e. let it = mapped_some (with_sends k s.out l) (slice_get places l) p (sym (sent l) ∙ e) in at_arrivals l p (it.0, it.1, sym it.2);
    }
      where
        node_if : (l : ℕ) (q : Place O) → slice_get places l ≡ Some q → (b : Bool) → (l == k) ≡ b → ShowsNode ops (if b then sent_off s else C.nodes l) q.node
        node_if l q e true t =
            let same : l ≡ k = eqb-true l k t in
            let it : place ≡ q = some_same _ _ (sym here ∙ ap (slice_get places) (sym same) ∙ e) in
            subst (λ (x : Place O). ShowsNode ops (sent_off s) x.node) it own
        node_if l q e false t = others l q (eqb-false l k t) e

        at_node : (l : ℕ) (p : Place O) → (q : Place O) × (slice_get places l ≡ Some q) × (with_sends k s.out l q ≡ p) → ShowsNode ops ((delivered C k s).nodes l) p.node
        at_node l p it = subst (λ (x : Place O). ShowsNode ops ((delivered C k s).nodes l) x.node) it.2 (node_if l it.0 it.1 (l == k) refl)

        wire_if : (l from : ℕ) (arrived : List (List Sent)) → ShowsArrivals nodes C l arrived → from < nodes → (b : Bool) → (from == k) ≡ b →
            slice_index_or (slice_set arrived k (slice_index_or arrived k [] ++ sends_to l s.out)) from [] ≡ (if b then C.wires from l ++ sends_to l s.out else C.wires from l)
        wire_if l from arrived a less true t =
            let same : from ≡ k = eqb-true from k t in
            let within : k < length arrived = omega (arith, a.many, lt) in
            ap (λ (i : ℕ). slice_index_or (slice_set arrived k (slice_index_or arrived k [] ++ sends_to l s.out)) i []) same
            ∙ get_or-set_same arrived k (slice_index_or arrived k [] ++ sends_to l s.out) [] within
            ∙ ap (λ (w : List Sent). w ++ sends_to l s.out) (ap (λ (i : ℕ). slice_index_or arrived i []) (sym same) ∙ a.wire from less)
        wire_if l from arrived a less false t = get_or-set_other arrived k from (slice_index_or arrived k [] ++ sends_to l s.out) [] (eqb-false from k t) ∙ a.wire from less

        at_arrivals : (l : ℕ) (p : Place O) → (q : Place O) × (slice_get places l ≡ Some q) × (with_sends k s.out l q ≡ p) → ShowsArrivals nodes (delivered C k s) l p.arrivals
        at_arrivals l p it =
            let q : Place O = it.0 in
            let a : ShowsArrivals nodes C l q.arrivals = arrivals l q it.1 in
            subst (λ (x : Place O). ShowsArrivals nodes (delivered C k s) l x.arrivals) it.2 (record {
              many = length-set q.arrivals k _ ∙ a.many;
              wire = λ from less. wire_if l from q.arrivals a less (from == k) refl;
            })
