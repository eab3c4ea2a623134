-- what a locked node keeps beside its state, and what a letter keeps beside its message
use Rattle.std.specs.Prelude.{ℕ, ◌≡◌, ◌<◌, ◌≤◌, List, [], ◌∷◌, ◌++◌, length, map, slice_index, Option, Some}
use mathlib.Core.Option.{some}
use lib.ListN.{get_elem?}
use Rattle.unix_calls.specs.declared.Entry.{Entry}
use Rattle.unix_calls.specs.declared.Turn.{Turn}
use Rattle.unix_calls.specs.declared.Turn.TheVariants.{Go, Push, Take}
use Rattle.unix_calls.specs.declared.World.{World}
use Rattle.pasts.specs.Pasts.{steps_of, Knows, Stands, union, IsPast, HasAll, IsLawfulPast}
use Rattle.past_lists.specs.Own.{added, count, own_list, own_of}
use Rattle.past_laws.specs.Laws.{spread, Flies}
use Rattle.node_state.specs.declared.State.{State}
use Rattle.node_state.specs.declared.Sent.{Sent}
use Rattle.node_state.specs.Wires.{one_taken, sent_off}
use Rattle.node_core.specs.Advance.{Ask, Advanced}
use Rattle.node_core.specs.First.{first_state}
use Rattle.node_core.specs.Turns.{led, going, pushed, came}
use Rattle.cluster_state.specs.Cluster.{Cluster, first_cluster}
use Rattle.cluster_state.specs.Possible.{node_of, Ran, Possible}
use Rattle.locked_laws.specs.declared.PlacedTurn.{PlacedTurn}

-- the place and the turn, without the line
abbrev pub step_of : PlacedTurn → ℕ × Turn
step_of p = (p.place, p.turn)

module _ (world : World) (ask : Ask) where
  -- node k has this state after the known turns, and these are its own turns, with their places and lines
  pub record IsNode (seen : List (Option Turn)) (k : ℕ) (s : State) (list : List PlacedTurn) : Type 0 where
    pub cluster : Cluster
    pub lines : List (Option Entry)
    pub ran : Ran world ask (first_cluster world) (steps_of seen) cluster lines
    pub state : cluster.nodes k ≡ s
    pub own : map step_of list ≡ own_list node_of k 0 seen
    pub told : (i : ℕ) (p : PlacedTurn) → get_elem? list i ≡ some p → Knows (spread seen lines) p.place p.line

  -- after the known turns the message with the number n is on the wire from i to k
  pub record IsLetter (seen : List (Option Turn)) (i k n : ℕ) (m : Sent) : Type 0 where
    pub cluster : Cluster
    pub lines : List (Option Entry)
    pub ran : Ran world ask (first_cluster world) (steps_of seen) cluster lines
    pub flies : Flies cluster (steps_of seen) i k n m

  -- a turn that is possible after the known ones; what the node is after it, and its letters
  pub record MayTurn (seen : List (Option Turn)) (k : ℕ) (s : State) (list : List PlacedTurn) (x : Turn) (a : Advanced) : Type 0 where
    pub lawful : Possible world ask (steps_of seen ++ x ∷ [])
    pub after : (place : ℕ) → length seen ≤ place → IsNode (added seen place x) k (sent_off a.state) (list ++ record { place = place; turn = x; line = a.entry } ∷ [])
    pub letters : (place : ℕ) → length seen ≤ place → (j : ℕ) (m : Sent) → get_elem? a.state.out j ≡ some m → m.to < world.nodes → IsLetter (added seen place x) k m.to m.number m

  -- a node's state, its list and the number that it expects stand in what it knows; a letter stays true for who learns its note
  pub record NodesKeep : Type 0 where
    pub first : (k : ℕ) → IsNode [] k (first_state world k) []
    pub learns : (log : List Turn) (p q : List (Option Turn)) (k : ℕ) (s : State) (list : List PlacedTurn) → IsLawfulPast node_of (Possible world ask) log p → IsLawfulPast node_of (Possible world ask) log q → Possible world ask (steps_of (union p q)) → HasAll node_of log p k →
        IsNode p k s list → IsNode (union p q) k s list
    pub reads : (log : List Turn) (p q : List (Option Turn)) (i k n : ℕ) (m : Sent) (s : State) (list : List PlacedTurn) → i < world.nodes → k < world.nodes → IsLawfulPast node_of (Possible world ask) log p → IsLawfulPast node_of (Possible world ask) log q → Possible world ask (steps_of (union p q)) →
        IsNode (union p q) k s list → slice_index s.taken i ≤ n → IsLetter q i k n m → IsLetter (union p q) i k n m
    pub goes : (seen : List (Option Turn)) (k : ℕ) (s : State) (list : List PlacedTurn) (questions : ℕ) (a : Advanced) → k < world.nodes → IsNode seen k s list → led world ask questions (going world s) ≡ Some a → MayTurn seen k s list (Go k) a
    pub pushes : (seen : List (Option Turn)) (k to : ℕ) (s : State) (list : List PlacedTurn) (questions : ℕ) (a : Advanced) → k < world.nodes → to < world.nodes → IsNode seen k s list → led world ask questions (pushed s (record { 0 = to })) ≡ Some a → MayTurn seen k s list (Push k to) a
    pub takes : (seen : List (Option Turn)) (k from : ℕ) (s : State) (list : List PlacedTurn) (questions : ℕ) (m : Sent) (a : Advanced) → k < world.nodes → from < world.nodes → IsNode seen k s list → IsLetter seen from k (slice_index s.taken from) m →
        came world ask questions (one_taken s from) m.message ≡ Some a → MayTurn seen k s list (Take k from) a
    pub ends : (log : List Turn) (p : List (Option Turn)) (k : ℕ) (s : State) (list : List PlacedTurn) (C : Cluster) (lines : List (Option Entry)) → IsPast node_of log p → HasAll node_of log p k → Ran world ask (first_cluster world) log C lines → IsNode p k s list →
        (C.nodes k ≡ s) × (map step_of list ≡ own_of node_of k 0 log) × ((i : ℕ) (t : PlacedTurn) → get_elem? list i ≡ some t → Stands lines t.place t.line)
    pub room : (seen : List (Option Turn)) (k most : ℕ) (s : State) (list : List PlacedTurn) → IsNode seen k s list → length list < most → count node_of k (steps_of seen) < most
