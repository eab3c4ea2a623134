-- what `run` writes
use Rattle.std.specs.Prelude.{◌≡◌, ℕ, Bool, false, List, [], ◌∷◌, ◌++◌, codes, Some}
use Rattle.byte_ends.specs.Text.{lines, words}
use Rattle.unix_calls.specs.declared.Entry.{Entry}
use Rattle.unix_calls.specs.declared.Turn.{Turn}
use Rattle.unix_calls.specs.declared.World.{World}
use Rattle.file_parts.specs.Parts.{schedule_lines}
use Rattle.run_text.specs.Faults.{SaysTurn}
use Rattle.run_text.specs.Schedule.{schedule_text}
use Rattle.histories.specs.History.{text}
use Rattle.cluster_state.specs.Possible.{history_of}
use Rattle.cluster_core.specs.RunOn.{turns_of, most_turns}
use Rattle.command_ends.specs.declared.Status.TheVariants.{Done, BadFile}
use Rattle.command_ends.specs.Ends.{Texts}
use Rattle.given_files.specs.declared.Given.{Given}
use Rattle.given_files.specs.Input.{IsRun, IsFaultOfRun, Refuses}
use Rattle.run_shell.specs.RunOf.{RunOf, IsOfOneKernel}

-- each line says its turn
abbrev pub SayTurns : List (List ℕ) → List Turn → Type 0
SayTurns [] [] = Unit {0}
SayTurns (line ∷ lines) (turn ∷ turns) = SaysTurn (words line) turn × SayTurns lines turns
SayTurns _ _ = ⊥

-- a history, and behind it the turns that gave it
abbrev pub served_text : List Entry → Bool → List Turn → List ℕ
served_text history is_quiet steps = text history is_quiet ++ (codes "schedule" ++ 10 ∷ schedule_text steps)

-- a node has made as many turns as it may
pub record IsFull (steps : List Turn) : Type 0 where
  pub node : ℕ
  pub most : turns_of node steps ≡ most_turns

-- The turns that were done are read from the text's own schedule part; each was possible at its place; their run on the nodes is one of the one kernel, and its history stands before them. Where something is left to do, a node has made 2^40 turns.
pub record WritesServed (world : World) (output : List ℕ) : Type 0 where
  pub part : List (List ℕ)
  -- the very rule by which a file's schedule part is found
  pub there : schedule_lines (lines output) ≡ Some part
  pub steps : List Turn
  pub says : SayTurns part steps
  pub run : RunOf world steps
  pub possible : run.made ≡ steps
  pub one_kernel : IsOfOneKernel run
  pub writes : output ≡ served_text (history_of run.lines) run.is_quiet steps
  pub ends : run.is_quiet ≡ false → IsFull steps

-- the input is run, and what the nodes did is written
pub record Serves (input output : List ℕ) : Type 0 where
  pub given : Given
  pub reads : IsRun input given
  pub writes : WritesServed given.world output

-- what the nodes did, or what is said of the least fault
abbrev pub RunsByThreads : Texts
RunsByThreads Done input output = Serves input output
RunsByThreads BadFile input output = Refuses IsFaultOfRun input output
RunsByThreads _ input output = ⊥
