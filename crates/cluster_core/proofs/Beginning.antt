-- the places before the first turn, one after another
use Rattle.std.proofs.Common.{◌≡◌, ◌+◌, ◌⊎◌, inl, inr, ℕ, zero, suc, List, [], ◌∷◌, ◌++◌, length, replicate, refl, sym, ap, ◌∙◌, subst, Some, length-append}
use Rattle.std.specs.Prelude.{slice_get}
use Rattle.std.proofs.lemmas.List.{get_or-replicate, length-replicate}
use Rattle.list_laws.proofs.Filters.{some_same}
use Rattle.unix_calls.specs.declared.World.{World}
use Rattle.node_state.specs.declared.Sent.{Sent}
use Rattle.node_core.specs.First.{first_state}
use Rattle.cluster_state.specs.Cluster.{first_cluster}
use Rattle.cluster_core.specs.declared.cluster.Place.{Place}
use Rattle.cluster_core.specs.MethodShows.{ShowsNode, ShowsArrivals, Shows}

-- what is found behind a list is there, or is what was put
pub found_pushed : {X : Type 0} (xs : List X) (y x : X) (i : ℕ) → slice_get (xs ++ y ∷ []) i ≡ Some x → (slice_get xs i ≡ Some x) ⊎ ((i ≡ length xs) × (y ≡ x))
found_pushed [] y x zero e = inr (refl, some_same y x e)
found_pushed [] y x (suc i) e = cc
found_pushed (a ∷ xs) y x zero e = inl e
found_pushed (a ∷ xs) y x (suc i) e = elim (found_pushed xs y x i e) [
  | inl here ↦ inl here
  | inr new ↦ inr (ap suc new.0, new.1)
]

module _ {O : Type 0} (world : World) (ops : O) where
  -- the first so many places
  pub record Begun (k : ℕ) (places : List (Place O)) : Type 0 where
    pub many : length places ≡ k
    pub node : (i : ℕ) (place : Place O) → slice_get places i ≡ Some place → ShowsNode ops (first_state world i) place.node
    pub arrivals : (i : ℕ) (place : Place O) → slice_get places i ≡ Some place → ShowsArrivals world.nodes (first_cluster world) i place.arrivals

  pub none_begun : Begun 0 []
  none_begun = record { many = refl; node = λ i place e. cc; arrivals = λ i place e. cc }

  -- nothing is on its way
  pub silent : (i : ℕ) → ShowsArrivals world.nodes (first_cluster world) i (replicate world.nodes [])
  silent i = record {
    many = length-replicate {A = List Sent} world.nodes [];
    wire = λ from less. get_or-replicate {A = List Sent} world.nodes from [] [] less;
  }

  pub more_begun : (k : ℕ) (places : List (Place O)) (place : Place O) → Begun k places → ShowsNode ops (first_state world k) place.node → place.arrivals ≡ replicate world.nodes [] → Begun (k + 1) (places ++ place ∷ [])
  more_begun k places place b n a = record {
    many = length-append places (place ∷ []) ∙ ap (λ (m : ℕ). m + 1) b.many;
    node = λ i p e. elim (found_pushed places place p i e) [
      | inl here ↦ b.node i p here
      | inr new ↦ subst (λ (x : Place O). ShowsNode ops (first_state world i) x.node) new.1 (subst (λ (j : ℕ). ShowsNode ops (first_state world j) place.node) (sym (new.0 ∙ b.many)) n)
    ];
    arrivals = λ i p e. elim (found_pushed places place p i e) [
      | inl here ↦ b.arrivals i p here
      | inr new ↦ subst (λ (x : Place O). ShowsArrivals world.nodes (first_cluster world) i x.arrivals) new.1 (subst (ShowsArrivals world.nodes (first_cluster world) i) (sym a) (silent i))
    ];
  }

  pub all_begun : (k : ℕ) (places : List (Place O)) → Begun k places → k ≡ world.nodes → Shows world.nodes (record { ops = ops; cluster = first_cluster world }) places
  all_begun k places b e = record { many = b.many ∙ e; node = b.node; arrivals = b.arrivals }
