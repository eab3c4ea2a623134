-- the turn that the places offer first is the one that the rule chooses
use Rattle.std.proofs.Common.{◌≡◌, inl, inr, ◌+◌, ◌-◌, ◌<◌, ◌≤◌, ◌&&◌, nat_lt, ℕ, zero, suc, Bool, true, false, cond, List, [], ◌∷◌, ◌++◌, length, map, refl, sym, ap, ◌∙◌, arith, Option, None, Some, lt-ltb}
use Rattle.std.specs.Prelude.{slice_get, slice_index_or}
use Rattle.std.proofs.lemmas.Option.{slice_get-get_or, slice_get_cases}
use Rattle.unix_calls.specs.declared.Turn.{Turn}
use Rattle.unix_calls.specs.declared.World.{World}
use Rattle.unix_calls.specs.declared.Turn.TheVariants.{Go, Take}
use Rattle.node_core.specs.Advance.{Ask}
use Rattle.node_core.specs.Conditions.{Fit}
use Rattle.node_state.specs.declared.State.{State}
use Rattle.node_state.specs.declared.Sent.{Sent}
use Rattle.cluster_state.specs.Cluster.{Cluster}
use Rattle.cluster_state.specs.Run.{has_any, is_offered, numbers_from, turns_from, first_offered, all_turns}
use Rattle.cluster_core.specs.declared.cluster.Place.{Place}
use Rattle.cluster_core.specs.MethodArrivals.{first_heard}
use Rattle.cluster_core.specs.MethodReached.{IsReached}
use Rattle.cluster_core.specs.MethodShows.{Shown, Shows, take_of, or_else, turn_at}

both_true : (a b : Bool) → a ≡ true → (a && b) ≡ b
both_true true b e = refl
both_true false b e = cc

module _ (nodes : ℕ) (C : Cluster) (k : ℕ) (here : k < nodes) where
  -- a message can be taken from a node of the world exactly where its wire has one
  take_offered : (from : ℕ) → from < nodes → is_offered nodes C (Take k from) ≡ has_any (C.wires from k)
  take_offered from less = both_true (nat_lt k nodes) _ (lt-ltb k nodes here) ∙ both_true (nat_lt from nodes) _ (lt-ltb from nodes less)

  go_offered : is_offered nodes C (Go k) ≡ has_any (C.nodes k).ready
  go_offered = both_true (nat_lt k nodes) _ (lt-ltb k nodes here)

  -- the first turn of a node that is offered is to take the first message
  takes_found : (i : ℕ) (wires : List (List Sent)) (xs : List Turn) → i + length wires ≤ nodes → ((j : ℕ) → j < length wires → slice_index_or wires j [] ≡ C.wires (i + j) k) →
      first_offered nodes C (map (λ from. Take k from) (numbers_from i (length wires)) ++ xs) ≡ or_else (take_of k (first_heard i wires)) (first_offered nodes C xs)
  takes_found i [] xs le shown = refl
  takes_found i (w ∷ wires) xs le shown =
      ap (λ (b : Bool). cond b (Some (Take k i)) (first_offered nodes C (map (λ from. Take k from) (numbers_from (suc i) (length wires)) ++ xs))) (take_offered i (omega (arith, le)) ∙ ap has_any (sym first))
      ∙ ap (λ (o : Option Turn). cond (has_any w) (Some (Take k i)) o) (takes_found (suc i) wires xs (omega (arith, le)) later)
      ∙ go w
    where
      first : w ≡ C.wires i k
      first = let z : i + 0 ≡ i = omega arith in shown 0 (omega arith) ∙ ap (λ (n : ℕ). C.wires n k) z

      later : (j : ℕ) → j < length wires → slice_index_or wires j [] ≡ C.wires (suc i + j) k
      later j lt = let z : i + suc j ≡ suc i + j = omega arith in shown (suc j) (omega (arith, lt)) ∙ ap (λ (n : ℕ). C.wires n k) z

      go : (w : List Sent) → cond (has_any w) (Some (Take k i)) (or_else (take_of k (first_heard (suc i) wires)) (first_offered nodes C xs)) ≡ or_else (take_of k (first_heard i (w ∷ wires))) (first_offered nodes C xs)
      go [] = refl
      go (m ∷ ms) = refl

or_else_join : (a b c : Option Turn) → or_else a (or_else b c) ≡ or_else (or_else a b) c
or_else_join None b c = refl
or_else_join (Some x) b c = refl

module _ {O : Type 0} (nodes : ℕ) (shown : Shown O) (places : List (Place O)) (shows : Shows nodes shown places) where
  -- the turns of node k and of those after it
  pub found_at : (k : ℕ) (place : Place O) (ks : List ℕ) → slice_get places k ≡ Some place → k < nodes → first_offered nodes shown.cluster (turns_from nodes (k ∷ ks)) ≡ or_else (turn_at k place) (first_offered nodes shown.cluster (turns_from nodes ks))
  found_at k place ks here lt =
      let n = shows.node k place here in
      let a = shows.arrivals k place here in
      ap (λ (m : ℕ). first_offered nodes shown.cluster (map (λ from. Take k from) (numbers_from 0 m) ++ Go k ∷ turns_from nodes ks)) (sym a.many)
      ∙ takes_found nodes shown.cluster k lt 0 place.arrivals (Go k ∷ turns_from nodes ks) (let z = a.many in omega (arith, z)) (λ j less. let z = a.many in let w : 0 + j ≡ j = omega arith in a.wire j (omega (arith, less, z)) ∙ ap (λ (n : ℕ). shown.cluster.wires n k) (sym w))
      ∙ ap (λ (o : Option Turn). or_else (take_of k (first_heard 0 place.arrivals)) o)
      (ap (λ (b : Bool). cond b (Some (Go k)) (first_offered nodes shown.cluster (turns_from nodes ks))) (go_offered nodes shown.cluster k lt ∙ ap (λ (s : State). has_any s.ready) (sym n.state_is)) ∙ split (has_any place.node.state.ready))
      ∙ or_else_join (take_of k (first_heard 0 place.arrivals)) (cond (has_any place.node.state.ready) (Some (Go k)) None) (first_offered nodes shown.cluster (turns_from nodes ks))
    where
      split : (b : Bool) → cond b (Some (Go k)) (first_offered nodes shown.cluster (turns_from nodes ks)) ≡ or_else (cond b (Some (Go k)) None) (first_offered nodes shown.cluster (turns_from nodes ks))
      split true = refl
      split false = refl

-- the nodes from k on
numbers_rest : (k nodes : ℕ) → k < nodes → numbers_from k (nodes - k) ≡ k ∷ numbers_from (k + 1) (nodes - (k + 1))
numbers_rest k nodes lt = let z : nodes - k ≡ suc (nodes - (k + 1)) = omega (arith, lt) in let w : suc k ≡ k + 1 = omega arith in ap (numbers_from k) z ∙ ap (λ (n : ℕ). k ∷ numbers_from n (nodes - (k + 1))) w

there : {X : Type 0} (xs : List X) (k : ℕ) → k < length xs → (x : X) × (slice_get xs k ≡ Some x)
there xs k lt = elim (slice_get_cases xs k).1 [
  | inl here ↦ (slice_index_or xs k here.0, slice_get-get_or xs k here.0 here.1)
  | inr past ↦ absurd (let z = past.0 in omega (arith, lt, z))
]

-- what the place of node k offers comes before what the places after it offer
pub found_next : {O : Type 0} {fits : O → Fit} {answer : O → Ask} {world : World} {places : List (Place O)} (at : IsReached fits answer world places) (k : ℕ) (o : Option Turn) → k < world.nodes →
    ((place : Place O) → slice_get places k ≡ Some place → place.node.has_failed ≡ false → o ≡ turn_at k place) →
    first_offered world.nodes at.shown.cluster (turns_from world.nodes (numbers_from k (world.nodes - k))) ≡ or_else o (first_offered world.nodes at.shown.cluster (turns_from world.nodes (numbers_from (k + 1) (world.nodes - (k + 1)))))
found_next {O} {fits} {answer} {world} {places} at k o lt is =
    let p = there places k (let z = at.shows.many in omega (arith, lt, z)) in
    ap (λ ks. first_offered world.nodes at.shown.cluster (turns_from world.nodes ks)) (numbers_rest k world.nodes lt)
    ∙ found_at world.nodes at.shown places at.shows k p.0 (numbers_from (k + 1) (world.nodes - (k + 1))) p.1 lt
    ∙ ap (λ (t : Option Turn). or_else t (first_offered world.nodes at.shown.cluster (turns_from world.nodes (numbers_from (k + 1) (world.nodes - (k + 1)))))) (sym (is p.0 p.1 (at.shows.node k p.0 p.1).runs))
