-- method: the rule of the word, and what a step on it tells
use Rattle.std.specs.Prelude.{◌≡◌, ℕ, zero, suc, ◌+◌, ◌^◌, ◌==◌, ◌<◌, ◌≤◌, List, [], ◌∷◌, ◌++◌, length, Option, Some, None}
use mathlib.Core.Option.{some}
use lib.ListN.{get_elem?}
use Rattle.atomic_table.specs.Table.{State, Me, Step}
use Rattle.commit_log.specs.declared.word.Knower.{Knower}
use Rattle.list_laws.specs.Keyed.{one_if}
use Rattle.pasts.specs.Pasts.{Stands, union, HasAll, IsLawfulPast}
use Rattle.past_lists.specs.Own.{added, count}
use Rattle.commit_log.specs.Passes.{Known, MeetIn}

abbrev pub Each : {A : Type 0} → (A → Type 0) → List A → Type 0
Each P [] = Unit {0}
Each P (x ∷ xs) = P x × Each P xs

abbrev pub or_zero : Option ℕ → ℕ
or_zero None = 0
or_zero (Some n) = n

-- 1 where it is the node n
abbrev pub is_at : ℕ → Option ℕ → ℕ
is_at n None = 0
is_at n (Some m) = one_if (m == n)

-- what a seat knows, and that it holds no slot
abbrev Sat : Type 0 → Type 0
Sat S = Me (Unit {0}) (List (Knower S))

module _ {S : Type 0} where
  abbrev pub knower : Option ℕ → List (Option S) → Knower S
  knower node seen = record { node = node; seen = seen }

  -- ---- a seat's view is the list of the passes and notes that sit there: one, or several while passes are dealt out or taken in
  -- one for each of n nodes from the k-th on, which know nothing
  abbrev pub fresh : ℕ → ℕ → List (Knower S)
  fresh k zero = []
  fresh k (suc n) = knower (Some k) [] ∷ fresh (suc k) n

  -- what the first one knows, and which node's pass it is
  abbrev pub seen_of : List (Knower S) → List (Option S)
  seen_of [] = []
  seen_of (p ∷ ps) = p.seen

  abbrev pub owner : List (Knower S) → Option ℕ
  owner [] = None
  owner (p ∷ ps) = p.node

  abbrev pub node_at : List (Knower S) → ℕ
  node_at [] = 0
  node_at (p ∷ ps) = or_zero p.node

  -- what the second one knows
  abbrev pub heard_of : List (Knower S) → List (Option S)
  heard_of [] = []
  heard_of (p ∷ ps) = seen_of ps

  -- the first one alone, and the others
  abbrev pub head_knower : List (Knower S) → List (Knower S)
  head_knower [] = []
  head_knower (p ∷ ps) = p ∷ []

  abbrev pub rest_knowers : List (Knower S) → List (Knower S)
  rest_knowers [] = []
  rest_knowers (p ∷ ps) = ps

  -- a note of what the first one knows
  abbrev pub told : List (Knower S) → List (Knower S)
  told [] = []
  told (p ∷ ps) = knower None p.seen ∷ []

  -- the passes taken in by a seat, the last one first
  abbrev pub gathered : List (Known S) → List (Knower S)
  gathered [] = []
  gathered (p ∷ ps) = gathered ps ++ knower (Some p.node) p.seen ∷ []

  -- how many of a view, and of all views, are the node's passes
  abbrev pub own : ℕ → List (Knower S) → ℕ
  own n [] = 0
  own n (p ∷ ps) = is_at n p.node + own n ps

  abbrev pub tally : ℕ → List (List (Knower S)) → ℕ
  tally n [] = 0
  tally n (v ∷ vs) = own n v + tally n vs

  module _ (node_of : S → ℕ) (lawful : List S → Type 0) where
    module _ (nodes : ℕ) where
      -- who knows has seen a lawful past of the list, and a pass of its node all steps of it
      pub record Fits (log : List S) (p : Knower S) : Type 0 where
        pub past : IsLawfulPast node_of lawful log p.seen
        pub whole : (n : ℕ) → p.node ≡ Some n → HasAll node_of log p.seen n
        pub there : (n : ℕ) → p.node ≡ Some n → n < nodes

      -- the rule: between any two steps there is one lawful list, as long as the word, of which all views are right, and no node has two passes
      pub record IsKept (s : State (Unit {0}) (List (Knower S))) : Type 0 where
        pub log : List S
        pub word : s.words ≡ length log ∷ []
        pub legal : lawful log
        pub inside : (j : ℕ) (x : S) → Stands log j x → node_of x < nodes
        pub bound : (n : ℕ) → count node_of n log ≤ 2 ^ 40
        pub knowers : (i : ℕ) (v : List (Knower S)) → get_elem? s.views i ≡ some v → Each (Fits log) v
        pub once : (n : ℕ) → tally n s.views ≤ 1

    -- a pass has taken in a note
    abbrev pub IsUnited : Step (Unit {0}) → Sat S → ℕ → Sat S → Type 0
    IsUnited st me found me' =
        (me' ≡ (knower (owner me.0) (union (seen_of me.0) (heard_of me.0)) ∷ [], []))
        × ((log : List S) × lawful log × IsLawfulPast node_of lawful log (seen_of me.0) × IsLawfulPast node_of lawful log (heard_of me.0) × IsLawfulPast node_of lawful log (union (seen_of me.0) (heard_of me.0)) × ((n : ℕ) → owner me.0 ≡ Some n → HasAll node_of log (seen_of me.0) n))

  -- the step stands at the place found, behind all that was known
  abbrev pub IsCommitted : Option S → Step (Unit {0}) → Sat S → ℕ → Sat S → Type 0
  IsCommitted None st me found me' = Unit {0}
  IsCommitted (Some x) st me found me' = (length (seen_of me.0) ≤ found) × (me' ≡ (knower (owner me.0) (added (seen_of me.0) found x) ∷ [], []))
