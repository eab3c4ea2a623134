-- lists of turns that are possible one after the other, and what they give
use Rattle.std.specs.Prelude.{ℕ, ◌≡◌, ◌<◌, List, [], ◌∷◌, Option, None, Some}
use Rattle.unix_calls.specs.declared.Entry.{Entry}
use Rattle.unix_calls.specs.declared.Turn.{Turn}
use Rattle.unix_calls.specs.declared.Turn.TheVariants.{Go, Push, Take, Auto}
use Rattle.unix_calls.specs.declared.World.{World}
use Rattle.node_core.specs.Advance.{Ask}
use Rattle.cluster_state.specs.Cluster.{Cluster, first_cluster, Turned, turned}

-- whose turn it is
abbrev pub node_of : Turn → ℕ
node_of (Go k) = k
node_of (Push k to) = k
node_of (Take k from) = k
node_of (Auto count) = 0

-- a turn of nodes of the world
abbrev pub IsInWorld : World → Turn → Type 0
IsInWorld world (Go k) = k < world.nodes
IsInWorld world (Push k to) = (k < world.nodes) × (to < world.nodes)
IsInWorld world (Take k from) = (k < world.nodes) × (from < world.nodes)
IsInWorld world (Auto count) = ⊥

-- what is there of a list of places
abbrev pub somes : {A : Type 0} → List (Option A) → List A
somes [] = []
somes (None ∷ xs) = somes xs
somes (Some x ∷ xs) = x ∷ somes xs

-- the history of turns, of which each adds a line or none
abbrev pub history_of : List (Option Entry) → List Entry
history_of entries = somes entries

module _ (world : World) (ask : Ask) where
  -- the turn is possible, and this comes of it; with some number of questions
  pub record Does (C : Cluster) (turn : Turn) (r : Turned) : Type 0 where
    pub inside : IsInWorld world turn
    pub questions : ℕ
    pub is : turned world ask questions C turn ≡ Some r

  -- each turn is possible at its place; at each place stands the line that its turn adds, if it adds one
  abbrev pub Ran : Cluster → List Turn → Cluster → List (Option Entry) → Type 0
  Ran C [] C' entries = (C' ≡ C) × (entries ≡ [])
  Ran C (turn ∷ turns) C' entries = (r : Turned) × Does C turn r × (rest : List (Option Entry)) × (entries ≡ r.entry ∷ rest) × Ran r.cluster turns C' rest

  -- what a list of turns gives
  pub record Given (C : Cluster) (turns : List Turn) : Type 0 where
    pub cluster : Cluster
    pub entries : List (Option Entry)
    pub ran : Ran C turns cluster entries

  -- each turn is possible at its place, from the cluster before its first turn
  abbrev pub Possible : List Turn → Type 0
  Possible turns = Given (first_cluster world) turns
