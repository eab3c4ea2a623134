-- nodes and the wires between them, and what a turn of a node does to both
use Rattle.std.specs.Prelude.{ℕ, ◌==◌, ◌&&◌, List, [], ◌∷◌, ◌++◌, filter, Option, None, Some, option_map, if◌then◌else◌}
use Rattle.unix_names.specs.declared.NodeId.{NodeId}
use Rattle.unix_calls.specs.declared.Entry.{Entry}
use Rattle.unix_calls.specs.declared.Turn.{Turn}
use Rattle.unix_calls.specs.declared.Turn.TheVariants.{Go, Push, Take, Auto}
use Rattle.unix_calls.specs.declared.World.{World}
use Rattle.node_state.specs.declared.State.{State}
use Rattle.node_state.specs.declared.Sent.{Sent}
use Rattle.node_state.specs.Wires.{one_taken, sent_off}
use Rattle.node_core.specs.Advance.{Ask, Advanced}
use Rattle.node_core.specs.First.{first_state}
use Rattle.node_core.specs.Turns.{led, going, pushed, came}

-- ---- the cluster between two turns
-- the nodes by number, and what is on the wire from one node to another, the oldest message first
pub record Cluster : Type 0 where
  pub nodes : ℕ → State
  pub wires : ℕ → ℕ → List Sent

-- before the first turn each node has its starts, and nothing is on a wire
abbrev pub first_cluster : World → Cluster
first_cluster world = record { nodes = λ k. first_state world k; wires = λ from k. [] }

-- ---- what a turn sends
-- of the messages those to one node, in order
abbrev pub sends_to : ℕ → List Sent → List Sent
sends_to k sends = filter (λ m. m.to == k) sends

-- node k has this state, and what it sends goes to the end of its wires
abbrev pub delivered : Cluster → ℕ → State → Cluster
delivered C k s = record {
  nodes = λ j. if j == k then sent_off s else C.nodes j;
  wires = λ i l. if i == k then C.wires i l ++ sends_to l s.out else C.wires i l;
}

-- this is what is on the wire from one node to another
abbrev pub with_wire : Cluster → ℕ → ℕ → List Sent → Cluster
with_wire C from k messages = record { nodes = C.nodes; wires = λ i l. if (i == from) && (l == k) then messages else C.wires i l }

-- ---- turns
-- the cluster after a turn, and the line that it adds to the history, if it adds one
pub record Turned : Type 0 where
  pub cluster : Cluster
  pub entry : Option Entry

abbrev pub turned_at : Cluster → ℕ → Advanced → Turned
turned_at C k a = record { cluster = delivered C k a.state; entry = a.entry }

-- node k takes the first message of the wire from another node
abbrev pub took : World → Ask → ℕ → Cluster → ℕ → ℕ → List Sent → Option Turned
took world ask n C k from [] = None
took world ask n C k from (m ∷ ms) = option_map (turned_at (with_wire C from k ms) k) (came world ask n (one_taken (C.nodes k) from) m.message)

-- one turn of a node, with so many questions to who decides; none where the turn is not possible, or needs more
abbrev pub turned : World → Ask → ℕ → Cluster → Turn → Option Turned
turned world ask n C (Go k) = option_map (turned_at C k) (led world ask n (going world (C.nodes k)))
turned world ask n C (Push k to) = option_map (turned_at C k) (led world ask n (pushed (C.nodes k) (record { 0 = to })))
turned world ask n C (Take k from) = took world ask n C k from (C.wires from k)
turned world ask n C (Auto count) = None
