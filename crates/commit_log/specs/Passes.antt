-- what passes and notes know of the one list of all steps by place
use Rattle.std.specs.Prelude.{◌≡◌, ℕ, zero, suc, ◌<◌, List, [], ◌∷◌, length, Option}
use mathlib.Core.Option.{some}
use lib.ListN.{get_elem?}
use Rattle.atomic_table.specs.Seated.{TableId}
use Rattle.pasts.specs.Pasts.{Knows, Stands, union, HasAll, IsLawfulPast}

-- which log it is, and for how many nodes
pub record Opened : Type 0 where
  pub log : TableId
  pub nodes : ℕ

-- of a pass its log, its node, and at each place the step, where the pass has seen it
pub record Known (S : Type 0) : Type 0 where
  pub log : TableId
  pub node : ℕ
  pub seen : List (Option S)

-- of a note its log and what it has seen
pub record Heard (S : Type 0) : Type 0 where
  pub log : TableId
  pub seen : List (Option S)

-- a pass for each of so many nodes from the k-th on, in order, which have seen nothing
abbrev pub first_passes : {S : Type 0} → TableId → ℕ → ℕ → List (Known S)
first_passes log k zero = []
first_passes log k (suc n) = record { log = log; node = k; seen = [] } ∷ first_passes log (suc k) n

module _ {S : Type 0} (node_of : S → ℕ) where
  -- the k-th pass has a step of its own node at the place j
  pub record HasDrawn (passes : List (Known S)) (k j : ℕ) : Type 0 where
    pub pass : Known S
    pub stands : get_elem? passes k ≡ some pass
    pub step : S
    pub knows : Knows pass.seen j step
    pub own : node_of step ≡ pass.node

  module _ (lawful : List S → Type 0) where
    -- the pass has seen a past of the list, and in it all steps of its node
    pub record IsPassOf (log : List S) (p : Known S) : Type 0 where
      pub past : IsLawfulPast node_of lawful log p.seen
      pub whole : HasAll node_of log p.seen p.node

    -- a pass and a note have seen pasts of one lawful list, and what one of them has seen is a past of it too
    pub record MeetIn (log : List S) (p : Known S) (heard : List (Option S)) : Type 0 where
      pub legal : lawful log
      pub pass : IsPassOf log p
      pub note : IsLawfulPast node_of lawful log heard
      pub both : IsLawfulPast node_of lawful log (union p.seen heard)

    -- the passes are those of all nodes, and the places of their steps are those of the list, each once
    pub record AreAllOf (log : List S) (nodes : ℕ) (passes : List (Known S)) : Type 0 where
      pub legal : lawful log
      pub own_steps : (k : ℕ) (p : Known S) → get_elem? passes k ≡ some p → IsPassOf log p
      pub apart : (k l : ℕ) (p q : Known S) → get_elem? passes k ≡ some p → get_elem? passes l ≡ some q → p.node ≡ q.node → k ≡ l
      pub each : (n : ℕ) → n < nodes → (k : ℕ) × (p : Known S) × (get_elem? passes k ≡ some p) × (p.node ≡ n)
      pub inside : (j : ℕ) (x : S) → Stands log j x → node_of x < nodes
      pub drawn : (j : ℕ) → j < length log → (k : ℕ) × HasDrawn passes k j
      pub once : (j k l : ℕ) → HasDrawn passes k j → HasDrawn passes l j → k ≡ l
      pub below : (j k : ℕ) → HasDrawn passes k j → j < length log
