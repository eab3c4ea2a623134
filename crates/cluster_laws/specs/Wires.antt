-- where messages go
use Rattle.std.specs.Prelude.{ℕ, ◌≡◌, ◌≤◌, List, [], Option}
use Rattle.unix_calls.specs.declared.Entry.{Entry}
use Rattle.unix_calls.specs.declared.Turn.{Turn}
use Rattle.unix_calls.specs.declared.World.{World}
use Rattle.node_core.specs.Advance.{Ask}
use Rattle.cluster_state.specs.Cluster.{Cluster}
use Rattle.cluster_laws.specs.Runs.{IsRun}

-- no message is on a wire from or to a number that is no node's
pub record StaysInside (nodes : ℕ) (C : Cluster) : Type 0 where
  pub from_outside : (from k : ℕ) → nodes ≤ from → C.wires from k ≡ []
  pub to_outside : (from k : ℕ) → nodes ≤ k → C.wires from k ≡ []

-- after every run each message is on its way from a node of the world to a node of the world
abbrev pub MessagesStayInside : Type 0
MessagesStayInside = (world : World) (ask : Ask) (turns : List Turn) (C : Cluster) (entries : List (Option Entry)) → IsRun world ask turns C entries → StaysInside world.nodes C
