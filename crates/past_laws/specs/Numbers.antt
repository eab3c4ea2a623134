-- pasts by one number a node: of each node's steps the first so many
use Rattle.std.specs.Prelude.{ℕ, zero, suc, ◌≡◌, ◌-◌, ◌≤◌, ◌==◌, ◌↔◌, max, List, [], ◌∷◌, ◌++◌, filter, length, Option, None, Some, if◌then◌else◌}
use Rattle.unix_calls.specs.declared.Turn.{Turn}
use Rattle.unix_calls.specs.declared.World.{World}
use Rattle.pasts.specs.Pasts.{steps_of, Knows, union, IsPast, HasAll}
use Rattle.node_core.specs.Advance.{Ask}
use Rattle.cluster_state.specs.Possible.{node_of, Possible}

-- ---- for any machine
-- the step, where one is left to choose
abbrev pub if_any : {S : Type 0} → ℕ → S → Option S
if_any zero x = None
if_any (suc n) x = Some x

-- one fewer of this node
abbrev pub one_fewer : ℕ → (ℕ → ℕ) → ℕ → ℕ
one_fewer k numbers n = if n == k then numbers n - 1 else numbers n

module _ {S : Type 0} (node : S → ℕ) where
  -- how many of the steps are a node's
  abbrev pub count : ℕ → List S → ℕ
  count n steps = length (filter (λ x. node x == n) steps)

  -- of each node's steps the first so many, each at its place
  abbrev pub first_steps : (ℕ → ℕ) → List S → List (Option S)
  first_steps numbers [] = []
  first_steps numbers (x ∷ xs) = if_any (numbers (node x)) x ∷ first_steps (one_fewer (node x) numbers) xs

  -- one number a node chooses a past; what one choice or another knows is the choice by the larger numbers; and each past knows what the numbers of its own steps choose
  pub record NumbersChoose (log : List S) : Type 0 where
    pub past : (numbers : ℕ → ℕ) → IsPast node log (first_steps numbers log)
    pub all : (numbers : ℕ → ℕ) (n : ℕ) → count n log ≤ numbers n → HasAll node log (first_steps numbers log) n
    pub larger : (a b : ℕ → ℕ) → union (first_steps a log) (first_steps b log) ≡ first_steps (λ n. max (a n) (b n)) log
    pub each : (p : List (Option S)) → IsPast node log p → (j : ℕ) (x : S) → Knows p j x ↔ Knows (first_steps (λ n. count n (steps_of p)) log) j x

-- ---- for the machine of nodes
-- the turns of a past by numbers
abbrev pub first_turns : (ℕ → ℕ) → List Turn → List Turn
first_turns numbers log = steps_of (first_steps node_of numbers log)

-- where two choices are possible by themselves, so is the choice by the larger numbers
abbrev pub LargerIsPossible : Type 0
LargerIsPossible = (world : World) (ask : Ask) (log : List Turn) (a b : ℕ → ℕ) → Possible world ask log → Possible world ask (first_turns a log) → Possible world ask (first_turns b log) → Possible world ask (first_turns (λ n. max (a n) (b n)) log)

-- a choice that is possible by itself gives each node of which it has all turns the state that the whole list gives it, and a turn of that node that is possible after it is possible after the whole list
pub record IsEnough (world : World) (ask : Ask) (log : List Turn) (whole : Possible world ask log) (numbers : ℕ → ℕ) (here : Possible world ask (first_turns numbers log)) (n : ℕ) : Type 0 where
  pub state : here.cluster.nodes n ≡ whole.cluster.nodes n
  pub turn : (x : Turn) → node_of x ≡ n → Possible world ask (first_turns numbers log ++ x ∷ []) → Possible world ask (log ++ x ∷ [])

abbrev pub OwnTurnsAreEnough : Type 0
OwnTurnsAreEnough = (world : World) (ask : Ask) (log : List Turn) (whole : Possible world ask log) (numbers : ℕ → ℕ) (here : Possible world ask (first_turns numbers log)) (n : ℕ) → count node_of n log ≤ numbers n → IsEnough world ask log whole numbers here n
