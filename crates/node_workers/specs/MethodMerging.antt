-- method: how the lists of all nodes are put together
use Rattle.std.specs.Prelude.{ℕ, ◌≡◌, ◌≤◌, ◌^◌, List, [], ◌∷◌, length, slice_set}
use mathlib.Core.Option.{some}
use lib.ListN.{get_elem?}
use Rattle.atomic_table.specs.Seated.{TableId}
use Rattle.unix_calls.specs.declared.Turn.{Turn}
use Rattle.unix_calls.specs.declared.World.{World}
use Rattle.node_state.specs.declared.State.{State}
use Rattle.ops_vector.specs.Answer.{unix_answer}
use Rattle.commit_log.specs.Passes.{Known}
use Rattle.locked_laws.specs.declared.PlacedTurn.{PlacedTurn}
use Rattle.locked_laws.specs.Locked.{IsNode}

-- the turns of a list, one after the other, each at its place
abbrev pub laid_out : List PlacedTurn → List Turn → List Turn
laid_out [] steps = steps
laid_out (t ∷ list) steps = laid_out list (slice_set steps t.place t.turn)

-- those of all lists, the last list first
abbrev pub all_laid_out : List (List PlacedTurn) → List Turn → List Turn
all_laid_out [] steps = steps
all_laid_out (list ∷ lists) steps = laid_out list (all_laid_out lists steps)

-- what a node that has not failed leaves
pub record IsPart (world : World) (log : TableId) (pass : Known Turn) (list : List PlacedTurn) : Type 0 where
  pub log_is : pass.log ≡ log
  pub few : length list ≤ 2 ^ 40
  pub state : State
  pub is : IsNode world unix_answer pass.seen pass.node state list

-- what so many nodes leave
pub record AreParts (world : World) (log : TableId) (many : ℕ) (passes : List (Known Turn)) (lists : List (List PlacedTurn)) : Type 0 where
  pub many_passes : length passes ≡ many
  pub many_lists : length lists ≡ many
  pub each : (k : ℕ) (pass : Known Turn) (list : List PlacedTurn) → get_elem? passes k ≡ some pass → get_elem? lists k ≡ some list → IsPart world log pass list
