-- The words of the command line.
use Rattle.std.specs.Prelude.{◌≡◌, ◌≤◌, ℕ, List, [], ◌∷◌, codes}
use Rattle.std.specs.Str.Parse.{digits_value}
use Rattle.byte_ends.specs.Text.{IsNumber}
use Rattle.cluster_cli.specs.declared.commands.Command.{Command}
use Rattle.cluster_cli.specs.declared.commands.Command.TheVariants.{Replay, ReplayTwo, Run, Audit, Table, Why, Compile, Jobs, Make, Load as LoadCommand}
use Rattle.cluster_cli.specs.declared.commands.Load.{Load}
use Rattle.cluster_cli.specs.declared.commands.TheConstants.{MOST_WORKERS}
use Rattle.run_shell.specs.Load.{IsWithin}

-- a word is 1 to 10 decimal digits of this number, which is below 2^32
abbrev pub Spells : List ℕ → ℕ → Type 0
Spells word n = IsNumber word × (n ≡ digits_value 10 word)

-- the words are the numbers of a load
pub record IsLoad (seed_word nodes_word size_word : List ℕ) (load : Load) : Type 0 where
  pub seed : Spells seed_word load.seed
  pub nodes : Spells nodes_word load.nodes
  pub size : Spells size_word load.size
  pub within : IsWithin load.nodes load.size

-- the words are the numbers of some load
abbrev pub NamesLoad : List ℕ → List ℕ → List ℕ → Type 0
NamesLoad seed nodes size = (load : Load) × IsLoad seed nodes size load

-- 1 to 8 threads for each node
abbrev pub AreWorkers : ℕ → Type 0
AreWorkers workers = (1 ≤ workers) × (workers ≤ MOST_WORKERS)

-- the words say the command
abbrev pub Says : List (List ℕ) → Command → Type 0
Says (word ∷ []) Replay = word ≡ codes "replay"
Says (word ∷ []) Audit = word ≡ codes "audit"
Says (word ∷ []) Compile = word ≡ codes "compile"
Says (word ∷ []) Jobs = word ≡ codes "jobs"
Says (word ∷ format ∷ []) ReplayTwo = (word ≡ codes "replay") × (format ≡ codes "2")
Says (word ∷ number ∷ []) (Run workers) = (word ≡ codes "run") × Spells number workers × AreWorkers workers
Says (word ∷ number ∷ []) (Table at) = (word ≡ codes "table") × Spells number at
Says (word ∷ number ∷ []) (Why at) = (word ≡ codes "why") × Spells number at
Says (word ∷ seed ∷ nodes ∷ size ∷ []) (Make load) = (word ≡ codes "make") × IsLoad seed nodes size load
Says (word ∷ seed ∷ nodes ∷ size ∷ []) (LoadCommand load) = (word ≡ codes "load") × IsLoad seed nodes size load
Says _ _ = ⊥

-- the words are no command
abbrev pub SaysNothing : List (List ℕ) → Type 0
SaysNothing words = (command : Command) → ¬ Says words command
