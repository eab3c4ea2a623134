-- clusters in which nothing is left to do
use Rattle.std.specs.Prelude.{ℕ, ◌≡◌, ◌<◌, []}
use Rattle.cluster_state.specs.Cluster.{Cluster}

-- no node has anybody ready, and no wire between nodes has a message
pub record IsQuiet (nodes : ℕ) (C : Cluster) : Type 0 where
  pub ready : (k : ℕ) → k < nodes → (C.nodes k).ready ≡ []
  pub wires : (from k : ℕ) → from < nodes → k < nodes → C.wires from k ≡ []
