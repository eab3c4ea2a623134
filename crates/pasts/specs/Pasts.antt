-- what one who has heard of some steps of a list knows of it, for any machine whose steps are each of one node
use Rattle.std.specs.Prelude.{ℕ, ◌≡◌, ◌<◌, ◌≤◌, List, [], ◌∷◌, ◌++◌, length, Option, Some, None}
use mathlib.Core.Option.{some}
use lib.ListN.{get_elem?}

module _ {S : Type 0} where
  -- ---- parts of a list: at each place the step that stands there, where it is known
  -- the known steps, in order of place
  abbrev pub steps_of : List (Option S) → List S
  steps_of [] = []
  steps_of (None ∷ part) = steps_of part
  steps_of (Some x ∷ part) = x ∷ steps_of part

  -- the step at place j is known to be x
  abbrev pub Knows : List (Option S) → ℕ → S → Type 0
  Knows part j x = get_elem? part j ≡ some (Some x)

  -- the step at place j is x
  abbrev pub Stands : List S → ℕ → S → Type 0
  Stands log j x = get_elem? log j ≡ some x

  abbrev pub first_of : Option S → Option S → Option S
  first_of (Some x) y = Some x
  first_of None y = y

  -- what is known of one part or of the other
  abbrev pub union : List (Option S) → List (Option S) → List (Option S)
  union [] q = q
  union (x ∷ p) [] = x ∷ p
  union (x ∷ p) (y ∷ q) = first_of x y ∷ union p q

  module _ (node_of : S → ℕ) where
    -- ---- pasts
    -- of each node's steps a beginning
    pub record IsPast (log : List S) (past : List (Option S)) : Type 0 where
      pub short : length past ≤ length log
      pub part : (j : ℕ) (x : S) → Knows past j x → Stands log j x
      pub closed : (j k : ℕ) (x y : S) → j < k → Stands log j x → Knows past k y → node_of x ≡ node_of y → Knows past j x

    -- all steps of a node are known
    abbrev pub HasAll : List S → List (Option S) → ℕ → Type 0
    HasAll log past n = (j : ℕ) (x : S) → Stands log j x → node_of x ≡ n → Knows past j x

    -- ---- what a machine must keep, of which some lists of steps are lawful
    module _ (lawful : List S → Type 0) where
      -- a past whose steps are lawful by themselves
      pub record IsLawfulPast (log : List S) (part : List (Option S)) : Type 0 where
        pub past : IsPast log part
        pub lawful_here : lawful (steps_of part)

      -- what is known of one of two lawful pasts or of the other is lawful
      abbrev pub MergeLaw : Type 0
      MergeLaw = (log : List S) (p q : List (Option S)) → lawful log → IsLawfulPast log p → IsLawfulPast log q → lawful (steps_of (union p q))

      -- a step that is lawful after a past with all steps of its node is lawful after the whole list
      abbrev pub CausalLaw : Type 0
      CausalLaw = (log : List S) (p : List (Option S)) (x : S) → lawful log → IsLawfulPast log p → HasAll log p (node_of x) → lawful (steps_of p ++ x ∷ []) → lawful (log ++ x ∷ [])
