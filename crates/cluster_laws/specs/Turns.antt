-- that each next turn of a run can be made: what the code of a node asks of its caller
use Rattle.std.specs.Prelude.{ℕ, ◌≡◌, ◌<◌, All, List, ◌∷◌, Option, Some}
use Rattle.unix_names.specs.declared.NodeId.{NodeId}
use Rattle.unix_calls.specs.declared.Entry.{Entry}
use Rattle.unix_calls.specs.declared.Turn.{Turn}
use Rattle.unix_calls.specs.declared.World.{World}
use Rattle.decide_law.specs.Vector.{Fits}
use Rattle.node_state.specs.declared.Sent.{Sent}
use Rattle.node_state.specs.Wires.{one_taken}
use Rattle.node_core.specs.Advance.{Ask, Advanced}
use Rattle.node_core.specs.Turns.{led, going, pushed, arriving, came}
use Rattle.node_core.specs.Conditions.{Fit, CanSetOut}
use Rattle.cluster_state.specs.Cluster.{Cluster}
use Rattle.cluster_laws.specs.Runs.{IsRun}

-- a question fits
abbrev pub question_fits : Fit
question_fits p job own bag site = Fits p job own bag site

-- whoever sets out at a node by a turn may: the first of the queue, the first that a push can move, and who rides in by the first message of a wire
pub record CanTurn (world : World) (ask : Ask) (C : Cluster) : Type 0 where
  pub goes : (k : ℕ) → k < world.nodes → CanSetOut question_fits world ask (going world (C.nodes k))
  pub pushes : (k : ℕ) (to : NodeId) → k < world.nodes → to.0 < world.nodes → CanSetOut question_fits world ask (pushed (C.nodes k) to)
  pub takes : (k from : ℕ) (m : Sent) (ms : List Sent) → k < world.nodes → from < world.nodes → C.wires from k ≡ m ∷ ms → CanSetOut question_fits world ask (arriving (one_taken (C.nodes k) from) m.message)

-- after every run each turn of nodes of the world may be made
abbrev pub TurnsCanBeMade : Type 0
TurnsCanBeMade = (world : World) (ask : Ask) (turns : List Turn) (C : Cluster) (entries : List (Option Entry)) → IsRun world ask turns C entries → CanTurn world ask C

-- ---- what a turn sends
abbrev pub GoesToANode : World → Sent → Type 0
GoesToANode world m = m.to < world.nodes

-- each message that a turn sends goes to a node of the world
pub record SendsToNodes (world : World) (ask : Ask) (C : Cluster) : Type 0 where
  pub going_sends : (n k : ℕ) (a : Advanced) → k < world.nodes → led world ask n (going world (C.nodes k)) ≡ Some a → All (GoesToANode world) a.state.out
  pub pushed_sends : (n k : ℕ) (to : NodeId) (a : Advanced) → k < world.nodes → to.0 < world.nodes → led world ask n (pushed (C.nodes k) to) ≡ Some a → All (GoesToANode world) a.state.out
  pub taken_sends : (n k from : ℕ) (m : Sent) (ms : List Sent) (a : Advanced) → k < world.nodes → from < world.nodes → C.wires from k ≡ m ∷ ms → came world ask n (one_taken (C.nodes k) from) m.message ≡ Some a → All (GoesToANode world) a.state.out

abbrev pub TurnsSendToNodes : Type 0
TurnsSendToNodes = (world : World) (ask : Ask) (turns : List Turn) (C : Cluster) (entries : List (Option Entry)) → IsRun world ask turns C entries → SendsToNodes world ask C
