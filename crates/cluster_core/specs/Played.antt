-- what the run of a schedule comes to
use Rattle.std.specs.Prelude.{ℕ, suc, ◌≡◌, ◌↔◌, IsTrue, List, [], ◌∷◌, Option, None, Some}
use Rattle.unix_calls.specs.declared.Entry.{Entry}
use Rattle.unix_calls.specs.declared.Turn.{Turn}
use Rattle.unix_calls.specs.declared.World.{World}
use Rattle.node_core.specs.Advance.{Ask}
use Rattle.cluster_state.specs.Cluster.{Cluster}
use Rattle.cluster_state.specs.Possible.{history_of}
use Rattle.cluster_state.specs.Quiet.{IsQuiet}
use Rattle.cluster_state.specs.Run.{Run}
use Rattle.cluster_core.specs.declared.playing.Played.{Played}

-- for each line of a history the number of its turn, where the first turn has this number
abbrev pub numbers_of : ℕ → List (Option Entry) → List ℕ
numbers_of n [] = []
numbers_of n (None ∷ lines) = numbers_of (suc n) lines
numbers_of n (Some entry ∷ lines) = n ∷ numbers_of (suc n) lines

-- the history of a schedule's run with the number of each line's turn, the turns that were made, and whether the run ends in a quiet cluster
pub record IsRunOf (world : World) (ask : Ask) (schedule : List Turn) (played : Played) : Type 0 where
  pub cluster : Cluster
  pub lines : List (Option Entry)
  pub run : Run world ask schedule cluster played.steps.items lines
  pub entries : played.entries.items ≡ history_of lines
  pub numbers : played.numbers.items ≡ numbers_of 0 lines
  pub quiet : IsTrue played.is_quiet ↔ IsQuiet world.nodes cluster
