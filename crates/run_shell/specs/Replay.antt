-- what `replay` and `replay 2` write
use Rattle.std.specs.Prelude.{◌≡◌, Bool, List, ℕ}
use Rattle.unix_calls.specs.declared.Entry.{Entry}
use Rattle.unix_calls.specs.declared.Turn.{Turn}
use Rattle.unix_calls.specs.declared.World.{World}
use Rattle.histories.specs.History.{text}
use Rattle.histories.specs.Stamped.{text_two}
use Rattle.audit_core.specs.Stamped.{stamped_entries}
use Rattle.cluster_state.specs.Possible.{history_of}
use Rattle.cluster_core.specs.Played.{numbers_of}
use Rattle.command_ends.specs.declared.Status.TheVariants.{Done, BadFile}
use Rattle.command_ends.specs.Ends.{Texts}
use Rattle.given_files.specs.declared.Given.{Given}
use Rattle.given_files.specs.Input.{IsRun, IsFaultOfRun, Refuses}
use Rattle.run_shell.specs.declared.replays.Format.{Format}
use Rattle.run_shell.specs.declared.replays.Format.TheVariants.{One, Two}
use Rattle.run_shell.specs.RunOf.{RunOf, IsOfOneKernel}

-- the text of a history and whether nothing was left to do; in format 2 before each line the number of its turn and the user of its process
abbrev pub written : Format → World → List Entry → List ℕ → Bool → List ℕ
written One world history numbers is_quiet = text history is_quiet
written Two world history numbers is_quiet = text_two (stamped_entries world history numbers) is_quiet

-- the run of a schedule on its nodes is one of the one kernel, and its history is written, with the numbers that the turns of its lines have among the turns that were made, counted from 0
pub record WritesRun (format : Format) (world : World) (schedule : List Turn) (output : List ℕ) : Type 0 where
  pub run : RunOf world schedule
  pub one_kernel : IsOfOneKernel run
  pub writes : output ≡ written format world (history_of run.lines) (numbers_of 0 run.lines) run.is_quiet

-- an input that is run: the history of its schedule's run is written
pub record Runs (format : Format) (input output : List ℕ) : Type 0 where
  pub given : Given
  pub reads : IsRun input given
  pub writes : WritesRun format given.world given.turns output

-- the history of the run, or what is said of the least fault
abbrev pub ReplaysAs : Format → Texts
ReplaysAs format Done input output = Runs format input output
ReplaysAs format BadFile input output = Refuses IsFaultOfRun input output
ReplaysAs format _ input output = ⊥

abbrev pub Replays : Texts
Replays = ReplaysAs One

abbrev pub ReplaysTwo : Texts
ReplaysTwo = ReplaysAs Two
