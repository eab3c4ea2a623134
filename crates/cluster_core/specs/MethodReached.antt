-- method: where the code of a run stands between two turns
use Rattle.std.specs.Prelude.{ℕ, ◌≡◌, ◌++◌, ◌∷◌, [], length, List, Option}
use Rattle.unix_calls.specs.declared.Entry.{Entry}
use Rattle.unix_calls.specs.declared.Turn.{Turn}
use Rattle.unix_calls.specs.declared.World.{World}
use Rattle.unix_calls.specs.Valid.{IsValid}
use Rattle.node_core.specs.Advance.{Ask}
use Rattle.node_core.specs.Conditions.{Fit}
use Rattle.cluster_state.specs.Cluster.{Cluster, first_cluster}
use Rattle.cluster_state.specs.Possible.{Ran, history_of}
use Rattle.cluster_state.specs.Run.{Order, Plays}
use Rattle.cluster_core.specs.declared.cluster.Place.{Place}
use Rattle.cluster_core.specs.declared.playing.Log.{Log}
use Rattle.cluster_core.specs.Deciding.{MayDecide}
use Rattle.cluster_core.specs.MethodShows.{Shown, Shows}
use Rattle.cluster_core.specs.Played.{numbers_of}

-- the places show a cluster that some turns lead to, in a valid world, and whoever decides there may
pub record IsReached {O : Type 0} (fits : O → Fit) (answer : O → Ask) (world : World) (places : List (Place O)) : Type 0 where
  pub shown : Shown O
  pub turns : List Turn
  pub lines : List (Option Entry)
  pub valid : IsValid world
  pub decides : MayDecide world (fits shown.ops) (answer shown.ops)
  pub ran : Ran world (answer shown.ops) (first_cluster world) turns shown.cluster lines
  pub shows : Shows world.nodes shown places

-- a turn that was made, and the line that it adds, if it adds one
pub record IsNoted (turn : Turn) (line : Option Entry) (old new : Log) : Type 0 where
  pub steps : new.steps.items ≡ old.steps.items ++ turn ∷ []
  pub entries : new.entries.items ≡ old.entries.items ++ history_of (line ∷ [])
  pub numbers : new.numbers.items ≡ old.numbers.items ++ numbers_of (length old.steps.items) (line ∷ [])

-- from the cluster that was shown these orders were played, what was made stands in the log, and the places show what the orders lead to
pub record PlaysOn {O : Type 0} (answer : O → Ask) (world : World) (shown : Shown O) (orders : List Order) (old new : Log) (places : List (Place O)) : Type 0 where
  pub cluster : Cluster
  pub made : List Turn
  pub lines : List (Option Entry)
  pub plays : Plays world (answer shown.ops) shown.cluster orders cluster made lines
  pub steps : new.steps.items ≡ old.steps.items ++ made
  pub entries : new.entries.items ≡ old.entries.items ++ history_of lines
  pub numbers : new.numbers.items ≡ old.numbers.items ++ numbers_of (length old.steps.items) lines
  pub shows : Shows world.nodes (record shown { cluster = cluster }) places
