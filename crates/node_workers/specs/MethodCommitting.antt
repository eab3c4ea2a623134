-- method: what a turn that a node has made brings to the commit word, and what it gets
use Rattle.std.specs.Prelude.{ℕ, ◌≡◌, ◌≤◌, All, List, [], ◌∷◌, ◌++◌, length, map}
use Rattle.unix_calls.specs.declared.Turn.{Turn}
use Rattle.unix_calls.specs.declared.World.{World}
use Rattle.past_lists.specs.Own.{added}
use Rattle.node_state.specs.declared.State.{State}
use Rattle.node_core.specs.declared.node.StepOut.{StepOut}
use Rattle.node_core.specs.Advance.{Advanced}
use Rattle.cluster_state.specs.Possible.{node_of}
use Rattle.cluster_laws.specs.Turns.{GoesToANode}
use Rattle.ops_vector.specs.Answer.{unix_answer}
use Rattle.commit_log.specs.Passes.{Known}
use Rattle.locked_laws.specs.declared.PlacedTurn.{PlacedTurn}
use Rattle.locked_laws.specs.Locked.{IsNode, MayTurn}
use Rattle.node_workers.specs.Views.{LetterView, letter_of}

-- the pass's node may make this turn after what is known, and this comes out of it
pub record CanCommit (world : World) (pass : Known Turn) (list : List PlacedTurn) (turn : Turn) (out : StepOut) : Type 0 where
  pub before : State
  pub is : IsNode world unix_answer pass.seen pass.node before list
  pub advanced : Advanced
  pub may : MayTurn world unix_answer pass.seen pass.node before list turn advanced
  pub own : node_of turn ≡ pass.node
  pub line_is : advanced.entry ≡ out.entry
  pub sends_is : advanced.state.out ≡ out.sends
  pub inside : All (GoesToANode world) out.sends

-- the turn has its place, stands last in the list, and its messages are letters
pub record IsCommitted (old : Known Turn) (list : List PlacedTurn) (turn : Turn) (out : StepOut) (new : Known Turn) (later : List PlacedTurn) (letters : List LetterView) : Type 0 where
  pub place : ℕ
  pub above : length old.seen ≤ place
  pub same : (new.log ≡ old.log) × (new.node ≡ old.node)
  pub seen : new.seen ≡ added old.seen place turn
  pub list_is : later ≡ list ++ record { place = place; turn = turn; line = out.entry } ∷ []
  pub letters_are : letters ≡ map (letter_of old.node new.seen) out.sends
