-- the laws of the pasts of lists of possible turns, by whatever decisions
use Rattle.std.specs.Prelude.{ℕ, ◌≡◌, ◌+◌, ◌<◌, ◌≤◌, List, [], ◌∷◌, Option, None, Some}
use mathlib.Core.Option.{some}
use lib.ListN.{get_elem?}
use Rattle.unix_calls.specs.declared.Entry.{Entry}
use Rattle.unix_calls.specs.declared.Turn.{Turn}
use Rattle.unix_calls.specs.declared.World.{World}
use Rattle.pasts.specs.Pasts.{steps_of, Knows, Stands, IsPast, HasAll, MergeLaw, CausalLaw}
use Rattle.node_state.specs.declared.Sent.{Sent}
use Rattle.node_core.specs.Advance.{Ask}
use Rattle.cluster_state.specs.Cluster.{Cluster}
use Rattle.cluster_state.specs.Possible.{node_of, Ran, Possible}
use Rattle.turn_laws.specs.MethodNumbers.{takes_one}

-- ---- of the whole list
-- what is known of one of two pasts or of the other is a past
abbrev pub MergesPasts : Type 0
MergesPasts = (world : World) (ask : Ask) → MergeLaw node_of (Possible world ask)

-- a turn that is possible after a past with all turns of its node is possible after the whole list
abbrev pub TurnsAreCausal : Type 0
TurnsAreCausal = (world : World) (ask : Ask) → CausalLaw node_of (Possible world ask)

-- no turn is possible before the first
abbrev pub NothingIsPossible : Type 0
NothingIsPossible = (world : World) (ask : Ask) → Possible world ask []

-- what stands at the known places, each at its place
abbrev pub spread : {S E : Type 0} → List (Option S) → List E → List (Option E)
spread [] es = []
spread (None ∷ p) es = None ∷ spread p es
spread (Some x ∷ p) [] = None ∷ spread p []
spread (Some x ∷ p) (e ∷ es) = Some e ∷ spread p es

-- a past gives each node of which it has all turns the state that the whole gives it, and each of its turns the line that it has in the whole
pub record IsTrue (log : List Turn) (p : List (Option Turn)) (A B : Cluster) (known entries : List (Option Entry)) : Type 0 where
  pub states : (k : ℕ) → HasAll node_of log p k → A.nodes k ≡ B.nodes k
  pub entry_is : (j : ℕ) (e : Option Entry) → Knows (spread p known) j e → Stands entries j e

abbrev pub PastsAreTrue : Type 0
PastsAreTrue = (world : World) (ask : Ask) (C : Cluster) (log : List Turn) (p : List (Option Turn)) (A B : Cluster) (known entries : List (Option Entry)) →
    IsPast node_of log p → Ran world ask C (steps_of p) A known → Ran world ask C log B entries → IsTrue log p A B known entries

-- ---- of a past in a larger one
-- of each node's turns that are known to u a beginning
pub record IsWithin (u p : List (Option Turn)) : Type 0 where
  pub part : (j : ℕ) (x : Turn) → Knows p j x → Knows u j x
  pub closed : (j k : ℕ) (x y : Turn) → j < k → Knows u j x → Knows p k y → node_of x ≡ node_of y → Knows p j x

-- all turns of the node that are known to u
abbrev pub KnowsAll : List (Option Turn) → List (Option Turn) → ℕ → Type 0
KnowsAll u p n = (j : ℕ) (x : Turn) → Knows u j x → node_of x ≡ n → Knows p j x

-- how many of the turns take from the wire from i to k
abbrev pub takes : ℕ → ℕ → List Turn → ℕ
takes i k [] = 0
takes i k (x ∷ xs) = takes_one i k x + takes i k xs

-- the message with the number n on the wire from i to k was sent, and is not taken yet
pub record Flies (C : Cluster) (turns : List Turn) (i k n : ℕ) (m : Sent) : Type 0 where
  pub place : ℕ
  pub is_number : place + takes i k turns ≡ n
  pub there : get_elem? (C.wires i k) place ≡ some m

-- what a past tells is still so in a larger one: states, lines, and messages that the larger one has not taken
pub record StaysTrue (u p : List (Option Turn)) (A B : Cluster) (known entries : List (Option Entry)) : Type 0 where
  pub states : (k : ℕ) → KnowsAll u p k → A.nodes k ≡ B.nodes k
  pub entry_is : (j : ℕ) (e : Option Entry) → Knows (spread p known) j e → Knows (spread u entries) j e
  pub messages : (i k n : ℕ) (m : Sent) → Flies A (steps_of p) i k n m → takes i k (steps_of u) ≤ n → Flies B (steps_of u) i k n m

abbrev pub PastsStayTrue : Type 0
PastsStayTrue = (world : World) (ask : Ask) (C : Cluster) (u p : List (Option Turn)) (A B : Cluster) (known entries : List (Option Entry)) →
    IsWithin u p → Ran world ask C (steps_of p) A known → Ran world ask C (steps_of u) B entries → StaysTrue u p A B known entries
