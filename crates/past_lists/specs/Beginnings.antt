-- a past has of each node's steps a beginning
use Rattle.std.specs.Prelude.{ℕ, ◌≡◌, List, Option, ◌⊎◌}
use mathlib.Core.List.{IsPrefix}
use Rattle.pasts.specs.Pasts.{union, IsPast, HasAll}
use Rattle.past_lists.specs.Own.{own_list, own_of}

-- the last list is the longer of two lists, of which one begins with the other
abbrev pub IsLonger : {A : Type 0} → List A → List A → List A → Type 0
IsLonger xs ys longer = (IsPrefix xs ys × (longer ≡ ys)) ⊎ (IsPrefix ys xs × (longer ≡ xs))

module _ {S : Type 0} (node_of : S → ℕ) where
  -- a past's list of a node begins that of the whole list, and is that of the whole list where the past has all steps of the node
  pub record PastsBegin (log : List S) (past : List (Option S)) : Type 0 where
    pub begins : (n : ℕ) → IsPrefix (own_list node_of n 0 past) (own_of node_of n 0 log)
    pub all : (n : ℕ) → HasAll node_of log past n → own_list node_of n 0 past ≡ own_of node_of n 0 log

  -- what is known of one of two pasts or of the other is a past, and of each node it has the longer of their two lists
  pub record PastsJoin (log : List S) (p q : List (Option S)) : Type 0 where
    pub past : IsPast node_of log (union p q)
    pub longer : (n : ℕ) → IsLonger (own_list node_of n 0 p) (own_list node_of n 0 q) (own_list node_of n 0 (union p q))
