-- what turns that are given come to, when turns by the rule follow them
use Rattle.std.specs.Prelude.{ℕ, ◌≡◌, ◌^◌, ◌≤◌, ◌==◌, false, List, [], ◌∷◌, ◌++◌, filter, length, Option, Some}
use Rattle.unix_calls.specs.declared.Turn.{Turn}
use Rattle.unix_calls.specs.declared.Turn.TheVariants.{Auto}
use Rattle.unix_calls.specs.declared.World.{World}
use Rattle.node_core.specs.Advance.{Ask}
use Rattle.cluster_state.specs.Cluster.{Cluster}
use Rattle.cluster_state.specs.Possible.{node_of}
use Rattle.cluster_state.specs.Run.{ByRule, chosen}
use Rattle.cluster_core.specs.declared.playing.Played.{Played}
use Rattle.cluster_core.specs.Played.{IsRunOf}

-- how many of the turns are a node's
abbrev pub turns_of : ℕ → List Turn → ℕ
turns_of k turns = length (filter (λ x. node_of x == k) turns)

-- no node makes more turns
abbrev pub most_turns : ℕ
most_turns = 2 ^ 40

-- no node has more of the turns than it may make
abbrev pub AreFew : List Turn → Type 0
AreFew turns = (k : ℕ) → turns_of k turns ≤ most_turns

-- the next turn by the rule is one of a node that has made as many turns as it may
pub record IsFullAt (nodes : ℕ) (C : Cluster) (made : List Turn) : Type 0 where
  pub next : Turn
  pub found : chosen nodes C ByRule ≡ Some next
  pub most : turns_of (node_of next) made ≡ most_turns

-- the run of the given turns and then of so many by the rule, which is the run of all turns that were made; it goes on until the cluster is quiet, or a node would make too many turns
pub record IsRunOn (world : World) (ask : Ask) (steps : List Turn) (played : Played) : Type 0 where
  pub count : ℕ
  pub by_rule : IsRunOf world ask (steps ++ Auto count ∷ []) played
  pub whole : IsRunOf world ask played.steps.items played
  pub added : List Turn
  pub begins : played.steps.items ≡ steps ++ added
  pub few : AreFew played.steps.items
  pub ends : played.is_quiet ≡ false → IsFullAt world.nodes by_rule.cluster played.steps.items
