-- the lists of all nodes, put together by place
use Rattle.std.specs.Prelude.{ℕ, ◌≡◌, ◌<◌, List, length, Option}
use mathlib.Core.Option.{some}
use lib.ListN.{get_elem?}
use Rattle.unix_calls.specs.declared.Entry.{Entry}
use Rattle.unix_calls.specs.declared.Turn.{Turn}
use Rattle.unix_calls.specs.declared.World.{World}
use Rattle.pasts.specs.Pasts.{Stands, IsPast, HasAll}
use Rattle.node_state.specs.declared.State.{State}
use Rattle.node_core.specs.Advance.{Ask}
use Rattle.cluster_state.specs.Cluster.{Cluster, first_cluster}
use Rattle.cluster_state.specs.Possible.{node_of, Ran}
use Rattle.locked_laws.specs.declared.PlacedTurn.{PlacedTurn}
use Rattle.locked_laws.specs.Locked.{IsNode}

module _ (world : World) (ask : Ask) (log : List Turn) where
  -- a turn in the list of a node that knows all its turns
  pub record IsListed (t : PlacedTurn) : Type 0 where
    pub node : ℕ
    pub seen : List (Option Turn)
    pub state : State
    pub list : List PlacedTurn
    pub index : ℕ
    pub past : IsPast node_of log seen
    pub all : HasAll node_of log seen node
    pub is : IsNode world ask seen node state list
    pub there : get_elem? list index ≡ some t

  -- at each place stands the turn of a node's list that has this place
  pub record AreMerged (turns : List Turn) : Type 0 where
    pub many : length turns ≡ length log
    pub each : (j : ℕ) → j < length log → (t : PlacedTurn) × IsListed t × (t.place ≡ j) × Stands turns j t.turn

-- what is put together by place is the list of all turns
abbrev pub MergedAreRight : Type 0
MergedAreRight = (world : World) (ask : Ask) (log turns : List Turn) (C : Cluster) (lines : List (Option Entry)) → Ran world ask (first_cluster world) log C lines → AreMerged world ask log turns → turns ≡ log
