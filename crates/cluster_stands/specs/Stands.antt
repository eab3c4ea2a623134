-- that a cluster between two turns stands for the table of the one kernel and the scripts
use Rattle.std.specs.Prelude.{ℕ, ◌≡◌, ◌≢◌, ◌<◌, ◌≤◌, List, [], None, Some}
use Rattle.unix_names.specs.declared.Pid.{Pid}
use Rattle.unix_calls.specs.declared.World.{World}
use Rattle.proc_image.specs.Follows.{Running}
use Rattle.process_table.specs.declared.Row.{Row}
use Rattle.cluster_state.specs.Cluster.{Cluster}
use Rattle.cluster_contents.specs.Placement.{View, Places, Contents, Bare, Token, Hand, Sane, Proc, Nowhere, Matches}
use Rattle.cluster_contents.specs.Standing.{Standing, Knows}
use Rattle.cluster_moves.specs.Benches.{items, slots}

-- each node of the world is itself, and nobody is ready at any other
pub record AreNodes (world : World) (W : Contents) (C : Cluster) : Type 0 where
  pub id : (j : ℕ) → j < world.nodes → (C.nodes j).id ≡ j
  pub nodes : (j : ℕ) → j < world.nodes → (C.nodes j).nodes ≡ world.nodes
  pub serial : (j : ℕ) → j < world.nodes → (C.nodes j).serial ≡ W.serials j
  pub outside : (j : ℕ) → world.nodes ≤ j → (C.nodes j).ready ≡ []
  -- between turns nothing waits to be sent
  pub out : (j : ℕ) → (C.nodes j).out ≡ []

-- the cluster stands for the table and the scripts, by this placement; at most m processes were made at each node
pub record StandsBy (world : World) (m : ℕ) (rows : List Row) (running : Running) (C : Cluster) (W : Contents) (L : Places) : Type 0 where
  pub nodes : AreNodes world W C
  pub matches : Matches world W L (items world.nodes C) (slots world.nodes C)
  pub standing : Standing world rows running W
  pub missing : (q : Pid) → W.proc q ≡ None → (L (Proc q) ≡ Nowhere) × Bare W L q
  pub knows : Knows world m rows W L
  -- nothing is in hand, so each process is in one container or nowhere, and each record at home, in a bag or on a wire
  pub idle : (u : Token) → L u ≢ Hand
  pub present : (q : Pid) (x : View) → W.proc q ≡ Some x → L (Proc q) ≢ Nowhere
  pub sane : Sane L
