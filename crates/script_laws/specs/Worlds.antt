-- What is true of each world that a part of a file means.
use Rattle.std.specs.Prelude.{◌≡◌, ℕ, List, Ok}
use Rattle.byte_ends.specs.Text.{lines}
use Rattle.unix_calls.specs.declared.World.{World}
use Rattle.unix_calls.specs.Valid.{IsValid}
use Rattle.script_reader.specs.Files.{read_part}
use Rattle.script_writer.specs.Written.{file_text}
use Rattle.script_laws.specs.Grammar.{IsFile}
use Rattle.script_laws.specs.Writable.{IsWritable}

-- a world that is read can be run; the first line of the part has a number, which is any
abbrev pub ReadIsValid : Type 0
ReadIsValid = (first : ℕ) (lines : List (List ℕ)) (world : World) → read_part first lines ≡ Ok world → IsValid world

-- a world that is read is one that files describe
abbrev pub ReadIsWritable : Type 0
ReadIsWritable = (first : ℕ) (lines : List (List ℕ)) (world : World) → read_part first lines ≡ Ok world → IsWritable world

-- a part of the grammar is read, and means the world that it spells
abbrev pub FileIsRead : Type 0
FileIsRead = (first : ℕ) (lines : List (List ℕ)) (world : World) → IsFile lines world → read_part first lines ≡ Ok world

-- a part that is read is one of the grammar, which spells the world that it means
abbrev pub ReadIsFile : Type 0
ReadIsFile = (first : ℕ) (lines : List (List ℕ)) (world : World) → read_part first lines ≡ Ok world → IsFile lines world

-- a world of files that is written is read back as itself
abbrev pub WrittenIsRead : Type 0
WrittenIsRead = (first : ℕ) (world : World) → IsWritable world → read_part first (lines (file_text world)) ≡ Ok world
