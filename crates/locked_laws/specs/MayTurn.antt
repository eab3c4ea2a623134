-- that a locked node may make its next turn: what the code of a node asks of its caller, and where its messages go
use Rattle.std.specs.Prelude.{ℕ, ◌≡◌, ◌<◌, All, List, Option, Some, slice_index}
use Rattle.unix_names.specs.declared.NodeId.{NodeId}
use Rattle.unix_calls.specs.declared.Turn.{Turn}
use Rattle.unix_calls.specs.declared.World.{World}
use Rattle.unix_calls.specs.Valid.{IsValid}
use Rattle.decide_law.specs.Vector.{IsVector}
use Rattle.node_state.specs.declared.State.{State}
use Rattle.node_state.specs.declared.Sent.{Sent}
use Rattle.node_state.specs.Wires.{one_taken}
use Rattle.node_core.specs.Advance.{Ask, Advanced}
use Rattle.node_core.specs.Turns.{led, going, pushed, arriving, came}
use Rattle.node_core.specs.Conditions.{CanSetOut}
use Rattle.cluster_laws.specs.Turns.{question_fits, GoesToANode}
use Rattle.locked_laws.specs.declared.PlacedTurn.{PlacedTurn}
use Rattle.locked_laws.specs.Locked.{IsNode, IsLetter}

module _ (world : World) (ask : Ask) (seen : List (Option Turn)) (k : ℕ) (s : State) where
  -- the first of the ready queue may set out, and the first that a push can move, and who rides in by the next message of a wire; and what each turn sends goes to nodes of the world
  pub record NodeMayTurn : Type 0 where
    pub goes : CanSetOut question_fits world ask (going world s)
    pub pushes : (to : NodeId) → to.0 < world.nodes → CanSetOut question_fits world ask (pushed s to)
    pub takes : (from : ℕ) (m : Sent) → from < world.nodes → IsLetter world ask seen from k (slice_index s.taken from) m → CanSetOut question_fits world ask (arriving (one_taken s from) m.message)
    pub going_sends : (n : ℕ) (a : Advanced) → led world ask n (going world s) ≡ Some a → All (GoesToANode world) a.state.out
    pub taken_sends : (n from : ℕ) (m : Sent) (a : Advanced) → from < world.nodes → IsLetter world ask seen from k (slice_index s.taken from) m → came world ask n (one_taken s from) m.message ≡ Some a → All (GoesToANode world) a.state.out

abbrev pub NodesMayTurn : Type 0
NodesMayTurn = (world : World) (ask : Ask) (seen : List (Option Turn)) (k : ℕ) (s : State) (list : List PlacedTurn) → IsValid world → IsVector world.nodes ask → k < world.nodes → IsNode world ask seen k s list → NodeMayTurn world ask seen k s
