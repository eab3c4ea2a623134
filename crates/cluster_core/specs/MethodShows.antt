-- method: how the code keeps the nodes of a cluster, each with what is on its way to it
use Rattle.std.specs.Prelude.{ℕ, ◌≡◌, ◌<◌, ◌++◌, false, List, [], length, slice_get, slice_set, slice_index_or, Option, None, Some, option_map, if◌then◌else◌}
use Rattle.unix_calls.specs.declared.Entry.{Entry}
use Rattle.unix_calls.specs.declared.Turn.{Turn}
use Rattle.unix_calls.specs.declared.Turn.TheVariants.{Go, Take}
use Rattle.unix_calls.specs.declared.World.{World}
use Rattle.node_state.specs.declared.State.{State}
use Rattle.node_state.specs.declared.Sent.{Sent}
use Rattle.node_core.specs.Advance.{Ask}
use Rattle.node_core.specs.Conditions.{Fit}
use Rattle.node_core.specs.Views.{NodeView}
use Rattle.cluster_state.specs.Cluster.{Cluster, sends_to, Turned}
use Rattle.cluster_state.specs.Possible.{Does}
use Rattle.cluster_state.specs.Run.{has_any, is_offered}
use Rattle.cluster_laws.specs.Turns.{CanTurn}
use Rattle.turn_laws.specs.Numbers.{AreExpected}
use Rattle.cluster_core.specs.Deciding.{MayDecide}
use Rattle.cluster_core.specs.MethodArrivals.{first_heard}
use Rattle.cluster_core.specs.declared.cluster.Place.{Place}

-- ---- one place
-- the node has not failed, and has this state and these decisions
pub record ShowsNode {O : Type 0} (ops : O) (s : State) (node : NodeView O) : Type 0 where
  pub ops_is : node.ops ≡ ops
  pub state_is : node.state ≡ s
  pub runs : node.has_failed ≡ false

-- what is on its way to node k, from each of so many nodes
pub record ShowsArrivals (nodes : ℕ) (C : Cluster) (k : ℕ) (arrivals : List (List Sent)) : Type 0 where
  pub many : length arrivals ≡ nodes
  pub wire : (from : ℕ) → from < nodes → slice_index_or arrivals from [] ≡ C.wires from k

-- ---- the cluster
-- what a caller knows of the places beside them: the cluster that they show, and who decides
pub record Shown (O : Type 0) : Type 0 where
  pub ops : O
  pub cluster : Cluster

-- the places show the nodes of the world and what is on their wires
pub record Shows {O : Type 0} (nodes : ℕ) (shown : Shown O) (places : List (Place O)) : Type 0 where
  pub many : length places ≡ nodes
  pub node : (k : ℕ) (place : Place O) → slice_get places k ≡ Some place → ShowsNode shown.ops (shown.cluster.nodes k) place.node
  pub arrivals : (k : ℕ) (place : Place O) → slice_get places k ≡ Some place → ShowsArrivals nodes shown.cluster k place.arrivals

-- ---- a turn
-- whoever decides may, and each turn of nodes of the world may be made of the cluster that is shown, whose messages are those that their takers expect
pub record CanBeMade {O : Type 0} (fits : O → Fit) (answer : O → Ask) (world : World) (shown : Shown O) : Type 0 where
  pub decides : MayDecide world (fits shown.ops) (answer shown.ops)
  pub turns : CanTurn world (answer shown.ops) shown.cluster
  pub expected : (from k : ℕ) → from < world.nodes → k < world.nodes → AreExpected shown.cluster from k

-- a turn was made, which added this line or none, and the places show what it leaves; or it was not offered, and they show what they showed
abbrev pub IsMade : {O : Type 0} → (O → Ask) → World → Turn → Shown O → Option (Option Entry) → List (Place O) → Type 0
IsMade answer world turn shown None places = (is_offered world.nodes shown.cluster turn ≡ false) × Shows world.nodes shown places
IsMade answer world turn shown (Some entry) places =
    (r : Turned) × Does world (answer shown.ops) shown.cluster turn r × (r.entry ≡ entry) × Shows world.nodes (record shown { cluster = r.cluster }) places

-- ---- what is sent
-- at node l these messages of a node have arrived
abbrev pub with_sends : {O : Type 0} → ℕ → List Sent → ℕ → Place O → Place O
with_sends from sends l place = record place { arrivals = slice_set place.arrivals from (slice_index_or place.arrivals from [] ++ sends_to l sends) }

-- at each place these messages have arrived
abbrev pub AreDelivered : {O : Type 0} → ℕ → List Sent → List (Place O) → List (Place O) → Type 0
AreDelivered from sends old new = (l : ℕ) → slice_get new l ≡ option_map (with_sends from sends l) (slice_get old l)

-- ---- the rule of auto
abbrev pub take_of : ℕ → Option ℕ → Option Turn
take_of k None = None
take_of k (Some from) = Some (Take k from)

abbrev pub or_else : Option Turn → Option Turn → Option Turn
or_else None later = later
or_else (Some x) later = Some x

-- the turn that `auto` finds at one place: to take the first message, or else to go
abbrev pub turn_at : {O : Type 0} → ℕ → Place O → Option Turn
turn_at k place = or_else (take_of k (first_heard 0 place.arrivals)) (if has_any place.node.state.ready then Some (Go k) else None)
