-- the numbers of messages
use Rattle.std.specs.Prelude.{ℕ, suc, ◌≡◌, ◌<◌, slice_index, List, [], ◌∷◌, Option, length}
use Rattle.unix_calls.specs.declared.Entry.{Entry}
use Rattle.unix_calls.specs.declared.Turn.{Turn}
use Rattle.unix_calls.specs.declared.World.{World}
use Rattle.node_state.specs.declared.Sent.{Sent}
use Rattle.node_core.specs.Advance.{Ask}
use Rattle.cluster_state.specs.Cluster.{Cluster, first_cluster}
use Rattle.cluster_state.specs.Possible.{Ran}

-- the messages have the numbers from n on
abbrev pub AreNumbered : ℕ → List Sent → Type 0
AreNumbered n [] = Unit {0}
AreNumbered n (m ∷ ms) = (m.number ≡ n) × AreNumbered (suc n) ms

-- the messages on the wire from one node to another have the numbers from the one on that its taker expects
pub record AreExpected (C : Cluster) (from k : ℕ) : Type 0 where
  pub numbers : AreNumbered (slice_index (C.nodes k).taken from) (C.wires from k)
  -- the taker counts what it took of each node, and the sender what it sent to each
  pub counts_taken : from < length (C.nodes k).taken
  pub counts_sent : k < length (C.nodes from).sent

-- after all possible turns, by whatever decisions
abbrev pub NumbersFit : Type 0
NumbersFit = (world : World) (ask : Ask) (turns : List Turn) (C : Cluster) (entries : List (Option Entry)) → Ran world ask (first_cluster world) turns C entries → (from k : ℕ) → from < world.nodes → k < world.nodes → AreExpected C from k

-- and each node of the world has taken in all that it was to send
abbrev pub NodesSendAll : Type 0
NodesSendAll = (world : World) (ask : Ask) (turns : List Turn) (C : Cluster) (entries : List (Option Entry)) → Ran world ask (first_cluster world) turns C entries → (k : ℕ) → (C.nodes k).out ≡ []
