-- method: what the code of a reading goes through, a world and turns, or a fault
use Rattle.std.specs.Prelude.{ℕ, ◌+◌, List, length, Result, Ok, Err}
use Rattle.byte_ends.specs.Text.{lines}
use Rattle.unix_calls.specs.declared.Turn.{Turn}
use Rattle.unix_calls.specs.declared.World.{World}
use Rattle.file_parts.specs.Parts.{Lines, world_lines, schedule_lines}
use Rattle.script_words.specs.declared.faults.Fault.{Fault}
use Rattle.script_reader.specs.Files.{read_part}
use Rattle.given_files.specs.declared.input.Given.{Given}
use Rattle.given_files.specs.Input.{turns_given}

abbrev pub with_turns : World → Result (List Turn) Fault → Result Given Fault
with_turns world (Ok turns) = Ok (record { world = world; turns = turns })
with_turns world (Err fault) = Err fault

abbrev pub with_schedule : Lines → Result World Fault → Result Given Fault
with_schedule ls (Ok world) = with_turns world (turns_given world.nodes (2 + length (world_lines ls)) (schedule_lines ls))
with_schedule ls (Err fault) = Err fault

-- the world and the schedule of an input, or its least fault
abbrev pub meaning : List ℕ → Result Given Fault
meaning input = with_schedule (lines input) (read_part 1 (world_lines (lines input)))
