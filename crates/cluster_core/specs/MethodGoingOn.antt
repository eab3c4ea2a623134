-- method: where the code of a run stands between two turns by the rule, and how it counts the turns of each node
use Rattle.std.specs.Prelude.{ℕ, ◌≡◌, ◌<◌, Bool, true, false, slice_index, List, ◌∷◌, length, replicate, None}
use mathlib.Core.Option.{some}
use lib.ListN.{get_elem?}
use Rattle.unix_calls.specs.declared.Turn.{Turn}
use Rattle.unix_calls.specs.declared.World.{World}
use Rattle.node_core.specs.Advance.{Ask}
use Rattle.cluster_state.specs.Cluster.{Cluster}
use Rattle.cluster_state.specs.Possible.{node_of}
use Rattle.cluster_state.specs.Run.{ByRule, chosen}
use Rattle.cluster_core.specs.declared.cluster.Place.{Place}
use Rattle.cluster_core.specs.declared.playing.Log.{Log}
use Rattle.cluster_core.specs.MethodShows.{Shown}
use Rattle.cluster_core.specs.MethodReached.{PlaysOn}
use Rattle.cluster_core.specs.RunOn.{turns_of, AreFew, IsFullAt}

-- each turn is one of a node of the world
abbrev pub AreInside : ℕ → List Turn → Type 0
AreInside nodes turns = (j : ℕ) (x : Turn) → get_elem? turns j ≡ some x → node_of x < nodes

-- for each node of the world how many of the turns it made
pub record IsTally (nodes : ℕ) (turns : List Turn) (made : List ℕ) : Type 0 where
  pub many : length made ≡ nodes
  pub count : (k : ℕ) → k < nodes → slice_index made k ≡ turns_of k turns

-- the rule finds nothing, or the next turn may not be made
abbrev pub IsOver : ℕ → Cluster → List Turn → Bool → Type 0
IsOver nodes C made true = chosen nodes C ByRule ≡ None
IsOver nodes C made false = IsFullAt nodes C made

-- so many turns were made by the rule, and no node has made too many
pub record IsGoing {O : Type 0} (answer : O → Ask) (world : World) (shown : Shown O) (old new : Log) (places : List (Place O)) : Type 0 where
  pub count : ℕ
  pub plays : PlaysOn answer world shown (replicate count ByRule) old new places
  pub few : AreFew new.steps.items

-- and there it is over
pub record GoesOn {O : Type 0} (answer : O → Ask) (world : World) (shown : Shown O) (quiet : Bool) (old new : Log) (places : List (Place O)) : Type 0 where
  pub going : IsGoing answer world shown old new places
  pub over : IsOver world.nodes going.plays.cluster new.steps.items quiet
