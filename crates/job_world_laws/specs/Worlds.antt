-- What is true of the world that a job file becomes.
use Rattle.std.specs.Prelude.{◌≡◌, ℕ, ◌≤◌, List, length, None, Ok}
use Rattle.byte_ends.specs.Text.{lines}
use Rattle.byte_ends.specs.declared.limits.TheConstants.{LONGEST_INPUT}
use Rattle.unix_calls.specs.declared.Entry.{Entry}
use Rattle.unix_calls.specs.Valid.{IsValid}
use Rattle.kernel_model.specs.Legal.{IsLegal}
use Rattle.proc_image.specs.Follows.{Follows}
use Rattle.file_parts.specs.Parts.{world_lines, schedule_lines, history_lines}
use Rattle.script_reader.specs.Files.{read_part}
use Rattle.script_writer.specs.Written.{file_text}
use Rattle.script_laws.specs.Grammar.{IsFile}
use Rattle.script_laws.specs.Writable.{IsWritable}
use Rattle.job_plans.specs.declared.JobFile.{JobFile}
use Rattle.job_plans.specs.Plans.{plan_of, IsAccepted}
use Rattle.job_plans.specs.Worlds.{world_of}
use Rattle.job_reading_laws.specs.Grammar.{IsJobFile}
use Rattle.job_laws.specs.Means.{Means}

-- the world of an accepted file can be run
abbrev pub AcceptedIsValid : Type 0
AcceptedIsValid = (file : JobFile) → IsAccepted file → IsValid (world_of file)

-- it is a world that files describe
abbrev pub AcceptedIsWritable : Type 0
AcceptedIsWritable = (file : JobFile) → IsAccepted file → IsWritable (world_of file)

-- its text is a file of the grammar, which spells it
abbrev pub CompiledIsFile : Type 0
CompiledIsFile = (file : JobFile) → IsAccepted file → IsFile (lines (file_text (world_of file))) (world_of file)

-- the text is read back as the world; its first line has a number, which is any
abbrev pub CompiledIsRead : Type 0
CompiledIsRead = (first : ℕ) (file : JobFile) → IsAccepted file → read_part first (lines (file_text (world_of file))) ≡ Ok (world_of file)

-- the text is one part: it has neither a schedule nor a history
abbrev pub CompiledIsOnePart : Type 0
CompiledIsOnePart = (file : JobFile) → IsAccepted file → (world_lines (lines (file_text (world_of file))) ≡ lines (file_text (world_of file)))
    × (schedule_lines (lines (file_text (world_of file))) ≡ None) × (history_lines (lines (file_text (world_of file))) ≡ None)

-- it is no longer than an input may be
abbrev pub CompiledIsShort : Type 0
CompiledIsShort = (file : JobFile) → IsAccepted file → length (file_text (world_of file)) ≤ LONGEST_INPUT

-- each legal history that follows the scripts of a job file's world means what the file says
abbrev pub JobFilesMean : Type 0
JobFilesMean = (lines : List (List ℕ)) (file : JobFile) (history : List Entry) → IsJobFile lines file → IsLegal (world_of file) history → Follows (world_of file) history → Means (world_of file) (plan_of file) history
