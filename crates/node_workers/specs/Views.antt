-- what contracts see of locked nodes and of letters, and what both keep
use Rattle.std.specs.Prelude.{ℕ, Bool, false, ◌≡◌, ◌<◌, ◌≤◌, ◌^◌, List, length, Option, slice_index}
use Rattle.atomic_table.specs.Seated.{TableId}
use Rattle.unix_names.specs.declared.NodeId.{NodeId}
use Rattle.unix_calls.specs.declared.Turn.{Turn}
use Rattle.unix_calls.specs.declared.World.{World}
use Rattle.node_state.specs.declared.State.{State}
use Rattle.node_state.specs.declared.Sent.{Sent}
use Rattle.node_core.specs.Views.{NodeView}
use Rattle.unix_ops.specs.declared.UnixOps.{UnixOps}
use Rattle.ops_vector.specs.Answer.{unix_answer}
use Rattle.commit_log.specs.Passes.{Known, Heard}
use Rattle.locked_laws.specs.declared.PlacedTurn.{PlacedTurn}
use Rattle.locked_laws.specs.Locked.{IsNode, IsLetter}

-- ---- letters
-- who sent a message, the message, and the turns that its sender knew
pub record LetterView : Type 0 where
  pub from : NodeId
  pub sent : Sent
  pub seen : List (Option Turn)

abbrev pub letter_of : ℕ → List (Option Turn) → Sent → LetterView
letter_of from seen sent = record { from = record { 0 = from }; sent = sent; seen = seen }

-- after the turns that the note knows, the message is on its wire with its number
pub record IsLetterOf (world : World) (log : TableId) (from : NodeId) (sent : Sent) (note : Heard Turn) : Type 0 where
  pub log_is : note.log ≡ log
  pub inside : from.0 < world.nodes
  pub flies : IsLetter world unix_answer note.seen from.0 sent.to sent.number sent

-- ---- nodes
-- the number of a node, its state, whether it has failed, what its pass knows, and the turns that it has made
pub record LockedView : Type 0 where
  pub id : ℕ
  pub state : State
  pub has_failed : Bool
  pub pass : Known Turn
  pub list : List PlacedTurn

-- unless it has failed, the node has the state that the turns give it which its pass knows, and its list has its own turns; it has made at most 2^40
pub record IsLockedNode (world : World) (log : TableId) (id : ℕ) (has_failed : Bool) (node : NodeView UnixOps) (pass : Known Turn) (list : List PlacedTurn) : Type 0 where
  pub log_is : pass.log ≡ log
  pub node_is : pass.node ≡ id
  pub inside : id < world.nodes
  pub few : length list ≤ 2 ^ 40
  pub runs : has_failed ≡ false → node.has_failed ≡ false
  pub is : has_failed ≡ false → IsNode world unix_answer pass.seen id node.state list

-- the same, as a contract sees the node
pub record IsKept (world : World) (log : TableId) (node : LockedView) : Type 0 where
  pub log_is : node.pass.log ≡ log
  pub node_is : node.pass.node ≡ node.id
  pub inside : node.id < world.nodes
  pub few : length node.list ≤ 2 ^ 40
  pub is : node.has_failed ≡ false → IsNode world unix_answer node.pass.seen node.id node.state node.list

-- the letter is for the node, and its message is the next of its wire
abbrev pub IsNext : LockedView → LetterView → Type 0
IsNext node letter = (letter.sent.to ≡ node.id) × (letter.sent.number ≡ slice_index node.state.taken letter.from.0)
