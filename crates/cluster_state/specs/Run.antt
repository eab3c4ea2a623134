-- the run of a schedule: a turn that isn't possible does nothing, and `auto` finds its turns by a rule
use Rattle.std.specs.Prelude.{ℕ, zero, suc, Bool, true, false, ◌≡◌, ◌&&◌, nat_lt, List, [], ◌∷◌, ◌++◌, map, replicate, Option, None, Some, is_some, if◌then◌else◌}
use Rattle.unix_calls.specs.declared.Entry.{Entry}
use Rattle.unix_calls.specs.declared.Turn.{Turn}
use Rattle.unix_calls.specs.declared.Turn.TheVariants.{Go, Push, Take, Auto}
use Rattle.unix_calls.specs.declared.World.{World}
use Rattle.node_state.specs.Ready.{first_movable}
use Rattle.node_core.specs.Advance.{Ask}
use Rattle.cluster_state.specs.Cluster.{Cluster, first_cluster, Turned}
use Rattle.cluster_state.specs.Possible.{Does}

-- ---- which turns are offered
abbrev pub has_any : {A : Type 0} → List A → Bool
has_any [] = false
has_any (x ∷ xs) = true

-- a turn can be made: somebody is ready, or can be moved, or the wire has a message
abbrev pub is_offered : ℕ → Cluster → Turn → Bool
is_offered nodes C (Go k) = nat_lt k nodes && has_any (C.nodes k).ready
is_offered nodes C (Push k to) = nat_lt k nodes && (nat_lt to nodes && is_some (first_movable (C.nodes k).ready))
is_offered nodes C (Take k from) = nat_lt k nodes && (nat_lt from nodes && has_any (C.wires from k))
is_offered nodes C (Auto count) = false

-- ---- the rule of auto
abbrev pub numbers_from : ℕ → ℕ → List ℕ
numbers_from k zero = []
numbers_from k (suc n) = k ∷ numbers_from (suc k) n

abbrev pub turns_from : ℕ → List ℕ → List Turn
turns_from nodes [] = []
turns_from nodes (k ∷ ks) = map (λ from. Take k from) (numbers_from 0 nodes) ++ Go k ∷ turns_from nodes ks

-- the turns in the order of `auto`: for each node in order, to take from each node in order, and then to go
abbrev pub all_turns : ℕ → List Turn
all_turns nodes = turns_from nodes (numbers_from 0 nodes)

-- the first of these turns that is offered
abbrev pub first_offered : ℕ → Cluster → List Turn → Option Turn
first_offered nodes C [] = None
first_offered nodes C (x ∷ xs) = if is_offered nodes C x then Some x else first_offered nodes C xs

-- ---- orders
-- what a schedule says for one turn
pub data Order : Type 0 where
  This : Turn → Order
  ByRule : Order

abbrev pub orders : List Turn → List Order
orders [] = []
orders (Auto count ∷ s) = replicate count ByRule ++ orders s
orders (Go k ∷ s) = This (Go k) ∷ orders s
orders (Push k to ∷ s) = This (Push k to) ∷ orders s
orders (Take k from ∷ s) = This (Take k from) ∷ orders s

-- the turn that is made
abbrev pub chosen : ℕ → Cluster → Order → Option Turn
chosen nodes C (This x) = if is_offered nodes C x then Some x else None
chosen nodes C ByRule = first_offered nodes C (all_turns nodes)

-- ---- runs
module _ (world : World) (ask : Ask) where
  -- what is to be true of the cluster, the turns made and their entries after the rest
  abbrev pub Rest : Type 1
  Rest = Cluster → List Turn → List (Option Entry) → Type 0

  abbrev pub Makes : Cluster → Option Turn → Rest → List Turn → List (Option Entry) → Type 0
  Makes C None rest made entries = rest C made entries
  Makes C (Some x) rest made entries =
      (r : Turned) × Does world ask C x r × (others : List Turn) × (more : List (Option Entry)) × (made ≡ x ∷ others) × (entries ≡ r.entry ∷ more) × rest r.cluster others more

  -- the orders make these turns, which give these entries
  abbrev pub Plays : Cluster → List Order → Cluster → List Turn → List (Option Entry) → Type 0
  Plays C [] C' made entries = (C' ≡ C) × (made ≡ []) × (entries ≡ [])
  Plays C (o ∷ os) C' made entries = Makes C (chosen world.nodes C o) (λ D others more. Plays D os C' others more) made entries

  -- the run of a schedule: its last cluster, the turns that were possible and their entries
  abbrev pub Run : List Turn → Cluster → List Turn → List (Option Entry) → Type 0
  Run s C made entries = Plays (first_cluster world) (orders s) C made entries
