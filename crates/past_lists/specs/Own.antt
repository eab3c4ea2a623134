-- the steps of one node, and a part that knows one step more
use Rattle.std.specs.Prelude.{ℕ, zero, suc, ◌+◌, ◌==◌, Bool, true, false, List, [], ◌∷◌, Option, Some, None}
use Rattle.list_laws.specs.Keyed.{one_if}

module _ {S : Type 0} where
  -- a part that knows the step x too, at the place n behind all that it knew
  abbrev pub added : List (Option S) → ℕ → S → List (Option S)
  added [] zero x = Some x ∷ []
  added [] (suc n) x = None ∷ added [] n x
  added (a ∷ part) zero x = a ∷ part
  added (a ∷ part) (suc n) x = a ∷ added part n x

  -- with the pair in front, where it belongs there
  abbrev pub pick : Bool → ℕ × S → List (ℕ × S) → List (ℕ × S)
  pick true e l = e ∷ l
  pick false e l = l

  module _ (node_of : S → ℕ) where
    -- how many steps of the list are the node's
    abbrev pub count : ℕ → List S → ℕ
    count n [] = 0
    count n (x ∷ xs) = one_if (node_of x == n) + count n xs

    -- the node's steps of a part, each with its place, where the part begins with the place i
    abbrev pub own_list : ℕ → ℕ → List (Option S) → List (ℕ × S)
    own_list n i [] = []
    own_list n i (None ∷ xs) = own_list n (suc i) xs
    own_list n i (Some x ∷ xs) = pick (node_of x == n) (i, x) (own_list n (suc i) xs)

    -- the node's steps of a whole list, each with its place
    abbrev pub own_of : ℕ → ℕ → List S → List (ℕ × S)
    own_of n i [] = []
    own_of n i (x ∷ xs) = pick (node_of x == n) (i, x) (own_of n (suc i) xs)
