-- method: how a cluster is compared with one in which some nodes are further on
use Rattle.std.specs.Prelude.{ℕ, ◌≡◌, List, [], ◌++◌, length}
use Rattle.node_state.specs.declared.Sent.{Sent}
use Rattle.cluster_state.specs.Cluster.{Cluster}
use Rattle.turn_laws.specs.MethodNumbers.{Counts}

-- the wire from i to k in both clusters: of the first's messages some are gone from the second, and some of the second's are new; none is gone where k is not further on, and none is new where i is not
pub record Outrun (K : ℕ → Type 0) (i k taken : ℕ) (v w : List Sent) : Type 0 where
  pub gone : List Sent
  pub new : List Sent
  pub is : v ++ new ≡ gone ++ w
  pub many : length gone ≡ taken
  pub none_gone : K k → gone ≡ []
  pub none_new : K i → new ≡ []

-- the nodes K are in the same state in both, and others may be further on in the second; from each wire so many more messages were taken there
pub record Behind (K : ℕ → Type 0) (taken : Counts) (A B : Cluster) : Type 0 where
  pub nodes : (k : ℕ) → K k → A.nodes k ≡ B.nodes k
  pub wires : (i k : ℕ) → Outrun K i k (taken i k) (A.wires i k) (B.wires i k)
