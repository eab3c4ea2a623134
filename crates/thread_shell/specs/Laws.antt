-- what was run by threads can be run again
use Rattle.std.specs.Prelude.{◌≡◌, ◌≤◌, ℕ, List, ◌∷◌, ◌++◌, codes, None}
use Rattle.byte_ends.specs.Text.{lines}
use Rattle.unix_calls.specs.declared.limits.TheConstants.{MOST_TURNS}
use Rattle.file_parts.specs.Parts.{world_lines, schedule_lines, history_lines}
use Rattle.run_text.specs.Schedule.{schedule_text}
use Rattle.unix_calls.specs.Turns.{turns_total}
use Rattle.given_files.specs.Input.{IsRun}
use Rattle.run_shell.specs.declared.replays.Format.TheVariants.{One}
use Rattle.run_shell.specs.Replay.{Runs}
use Rattle.thread_shell.specs.Served.{Serves}

-- a file with the same world part and the written schedule part, of at most 200,000 turns, means the same world and these turns
abbrev pub WrittenSchedulesAreRead : Type 0
WrittenSchedulesAreRead = (input output file : List ℕ) (s : Serves input output) → turns_total s.writes.steps ≤ MOST_TURNS
    → world_lines (lines file) ≡ world_lines (lines input) → schedule_lines (lines file) ≡ schedule_lines (lines output) → history_lines (lines file) ≡ None
    → IsRun file (record { world = s.given.world; turns = s.writes.steps })

-- and what is replayed of such a file is the history that stands before the schedule
abbrev pub WrittenSchedulesReplay : Type 0
WrittenSchedulesReplay = (input output file history : List ℕ) (s : Serves input output) → IsRun file (record { world = s.given.world; turns = s.writes.steps })
    → Runs One file history → output ≡ history ++ (codes "schedule" ++ 10 ∷ schedule_text s.writes.steps)
