-- method: how the numbers of messages are followed through the parts of a turn
use Rattle.std.specs.Prelude.{ℕ, Bool, true, false, ◌≡◌, ◌+◌, ◌<◌, ◌==◌, ◌&&◌, slice_index, List, [], ◌++◌, length}
use Rattle.unix_calls.specs.declared.Turn.{Turn}
use Rattle.unix_calls.specs.declared.Turn.TheVariants.{Take}
use Rattle.node_state.specs.declared.State.{State}
use Rattle.node_state.specs.declared.Sent.{Sent}
use Rattle.cluster_state.specs.Cluster.{sends_to}
use Rattle.turn_laws.specs.Numbers.{AreNumbered}

abbrev pub one_if : Bool → ℕ
one_if true = 1
one_if false = 0

-- how many messages of the wire from i to k a turn takes
abbrev pub takes_one : ℕ → ℕ → Turn → ℕ
takes_one i k (Take to from) = one_if ((i == from) && (k == to))
takes_one i k _ = 0

-- how many messages were taken from the wire from one node to another
abbrev pub Counts : Type 0
Counts = ℕ → ℕ → ℕ

-- the same after one turn more
abbrev pub with_turn : Turn → Counts → Counts
with_turn x d = λ i k. d i k + takes_one i k x

-- what is new in the outbox has the next numbers of its wires
pub record Posts (s t : State) : Type 0 where
  pub taken : t.taken ≡ s.taken
  pub room : length t.sent ≡ length s.sent
  pub news : (k : ℕ) → k < length s.sent → (xs : List Sent) × (sends_to k t.out ≡ sends_to k s.out ++ xs) × AreNumbered (slice_index s.sent k) xs × (slice_index t.sent k ≡ slice_index s.sent k + length xs)

-- the nodes' numbers fit the wires, where so many messages were taken from each
pub record Fit (nodes : ℕ) (T : Counts) (N : ℕ → State) (W : ℕ → ℕ → List Sent) : Type 0 where
  pub room_sent : (j : ℕ) → j < nodes → length (N j).sent ≡ nodes
  pub room_taken : (j : ℕ) → j < nodes → length (N j).taken ≡ nodes
  pub out : (j : ℕ) → j < nodes → (N j).out ≡ []
  pub taken : (i k : ℕ) → i < nodes → k < nodes → slice_index (N k).taken i ≡ T i k
  pub sent : (i k : ℕ) → i < nodes → k < nodes → slice_index (N i).sent k ≡ T i k + length (W i k)
  pub numbers : (i k : ℕ) → i < nodes → k < nodes → AreNumbered (T i k) (W i k)
