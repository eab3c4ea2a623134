-- what `make` and `load` write
use Rattle.std.specs.Prelude.{◌≡◌, ◌+◌, ◌≤◌, ℕ, Bool, true, false, List, [], ◌∷◌, ◌++◌, length, filter, codes}
use Rattle.std.specs.Fmt.{decimal}
use Rattle.byte_ends.specs.Text.{lines}
use Rattle.unix_calls.specs.declared.limits.TheConstants.{MOST_NODES, MOST_TURNS}
use Rattle.unix_calls.specs.declared.Call.TheVariants.{Fork}
use Rattle.unix_calls.specs.declared.Reply.TheVariants.{Number}
use Rattle.unix_calls.specs.declared.Entry.{Entry}
use Rattle.unix_calls.specs.declared.Entry.TheVariants.{Called}
use Rattle.unix_calls.specs.declared.Turn.{Turn}
use Rattle.unix_calls.specs.declared.Turn.TheVariants.{Auto}
use Rattle.unix_calls.specs.declared.World.{World}
use Rattle.script_laws.specs.Grammar.{IsFile}
use Rattle.load_maker.specs.declared.limits.TheConstants.{LARGEST_LOAD}
use Rattle.load_maker.specs.Made.{made}
use Rattle.histories.specs.History.{last_line}
use Rattle.cluster_state.specs.Possible.{history_of}
use Rattle.run_shell.specs.declared.loads.Counts.{Counts}
use Rattle.run_shell.specs.RunOf.{RunOf, IsOfOneKernel}

-- 1 to 64 nodes, 1 to 200 processes
pub record IsWithin (nodes size : ℕ) : Type 0 where
  pub some_node : 1 ≤ nodes
  pub few_nodes : nodes ≤ MOST_NODES
  pub some : 1 ≤ size
  pub few : size ≤ LARGEST_LOAD

-- ---- what is counted
-- a fork that made a process
abbrev pub is_fork : Entry → Bool
is_fork (Called caller Fork (Number n)) = true
is_fork _ = false

-- how many forks of a history made a process
abbrev pub fork_count : List Entry → ℕ
fork_count history = length (filter is_fork history)

-- how many entries a history of this world has, and how many processes were started or forked
abbrev pub counts : World → List Entry → Bool → Counts
counts world history is_quiet = record {
  entries = length history;
  processes = length world.starts + fork_count history;
  is_quiet = is_quiet;
}

-- both numbers, and whether nothing was left to do
abbrev pub counts_text : Counts → List ℕ
counts_text c =
    codes "entries " ++ (decimal c.entries
    ++ (codes "\nprocesses " ++ (decimal c.processes
    ++ (codes "\n" ++ last_line c.is_quiet))))

-- ---- loads
-- how a made file is run: 200,000 turns by the rule of `auto`
unfoldable pub load_turns : List Turn
load_turns = Auto MOST_TURNS ∷ []

-- the run of a schedule on its nodes is one of the one kernel, and is counted
pub record CountsRun (world : World) (schedule : List Turn) (output : List ℕ) : Type 0 where
  pub run : RunOf world schedule
  pub one_kernel : IsOfOneKernel run
  pub writes : output ≡ counts_text (counts world (history_of run.lines) run.is_quiet)

-- the world of the made file, on as many nodes as were asked for, is run and counted
pub record Loads (seed nodes size : ℕ) (output : List ℕ) : Type 0 where
  pub world : World
  pub reads : IsFile (lines (made seed nodes size)) world
  pub on : world.nodes ≡ nodes
  pub writes : CountsRun world load_turns output

-- a load has one text
abbrev pub LoadIsOne : Type 0
LoadIsOne = (seed nodes size : ℕ) (text text' : List ℕ) → Loads seed nodes size text → Loads seed nodes size text' → text ≡ text'
