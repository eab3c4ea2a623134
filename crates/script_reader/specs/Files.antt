-- what a whole world part means, or its least fault
use Rattle.std.specs.Prelude.{ℕ, ◌+◌, ◌-◌, ◌==◌, Bool, false, if◌then◌else◌, List, [], ◌∷◌, ◌++◌, length, map, filter, codes, Option, Some, None, Result, Ok, Err}
use Rattle.std.specs.Str.{is_utf8}
use Rattle.byte_ends.specs.Text.{words}
use Rattle.unix_calls.specs.declared.Script.{Script}
use Rattle.unix_calls.specs.declared.Start.{Start}
use Rattle.unix_calls.specs.declared.Statement.{Statement}
use Rattle.unix_calls.specs.declared.Work.{Work}
use Rattle.unix_calls.specs.declared.World.{World}
use Rattle.unix_calls.specs.Valid.{start_pid}
use Rattle.unix_calls.specs.Work.{works, total_work, is_little}
use Rattle.script_words.specs.declared.faults.Fault.{Fault}
use Rattle.script_words.specs.declared.faults.Kind.{Kind}
use Rattle.script_words.specs.declared.faults.Kind.TheVariants.{NotUtf8, NoClusterLine, UnknownWord, TooMuchWork, NoStart}
use Rattle.script_reader.specs.declared.names.Names.{Names}
use Rattle.script_reader.specs.declared.places.Place.{Place}
use Rattle.script_reader.specs.declared.lines.Item.{Item}
use Rattle.script_reader.specs.declared.lines.Item.TheVariants as item
use Rattle.script_reader.specs.declared.lines.StartLine.{StartLine}
use Rattle.script_words.specs.Words.{Word, Row, is_same, word_at}
use Rattle.script_reader.specs.Names.{Table, noted}
use Rattle.script_reader.specs.Lines.{read_line, place_after}
use Rattle.script_words.specs.Kinds.{fault_at}

-- whether a line's first word is this one
unfoldable pub begins_with : Word → Row → Bool
begins_with first row = is_same (word_at row 0) first

-- the words at a place of the lines that begin with a word
unfoldable pub words_behind : Word → ℕ → List Row → List Word
words_behind first at rows = map (λ row. word_at row at) (filter (begins_with first) rows)

-- a table and some words more, numbered on from a number; the first number of a word stands
unfoldable pub numbered : Table → ℕ → List Word → Table
numbered table n [] = table
numbered table n (word ∷ words) = numbered (noted table word n) (n + 1) words

-- a table and the words that it lacks, each with the next number
unfoldable pub listed : Table → List Word → Table
listed table [] = table
listed table (word ∷ words) = listed (noted table word (length table)) words

-- the names of a file: a script goes by the number of its first `script` line, a start by that of its first `start` line;
-- of the variables those of forks come first, then the others of starts. A line gives its name also where it has a fault.
unfoldable pub gather : List Row → Names
gather rows = record {
  scripts = numbered [] 0 (words_behind (codes "script") 1 rows);
  starts = numbered [] 0 (words_behind (codes "start") 3 rows);
  variables = listed (listed [] (words_behind (codes "fork") 1 rows)) (words_behind (codes "start") 3 rows);
}

-- a line's words, and what it says where it stands or its fault
abbrev pub Told : Type 0
Told = Row × Result Item Kind

-- where a file's first line stands
abbrev pub first_place : Place
first_place = record { begun = false; nodes = 0; is_open = false; scripts = 0; statements = 0; starts = 0 }

-- what each line says, one after the other
unfoldable pub tells : Names → Place → List (List ℕ) → List Told
tells names place [] = []
tells names place (line ∷ lines) = (words line, read_line names place line) ∷ tells names (place_after place (words line) (read_line names place line)) lines

-- where the line behind some lines would stand
unfoldable pub place_behind : Place → List Told → Place
place_behind place [] = place
place_behind place (told ∷ rest) = place_behind (place_after place told.0 told.1) rest

-- the statement that a line says; a line with a fault says none
abbrev pub said : Result Item Kind → Option Statement
said (Ok (item.Says s)) = Some s
said _ = None

-- a statement, where there is one, before others
abbrev pub with_said : Option Statement → List Statement → List Statement
with_said (Some s) statements = s ∷ statements
with_said None statements = statements

-- the statements of lines up to the next line that begins a script
unfoldable pub body : List Told → List Statement
body [] = []
body (told ∷ rest) = if begins_with (codes "script") told.0 then [] else with_said (said told.1) (body rest)

-- the scripts of lines: one for each line that begins with `script`
unfoldable pub scripts_of : List Told → List Script
scripts_of [] = []
scripts_of (told ∷ rest) = if begins_with (codes "script") told.0 then record { statements = body rest } ∷ scripts_of rest else scripts_of rest

-- a start behind earlier ones, with its pid
unfoldable pub start_of : List Start → StartLine → Start
start_of earlier s = record {
  node = record { 0 = s.node };
  script = s.script;
  var = s.var;
  pid = record { 0 = start_pid (record { 0 = s.node }) earlier };
  uid = s.uid;
  joined = s.joined;
}

-- earlier starts, and one more
abbrev pub with_start : List Start → StartLine → List Start
with_start earlier s = earlier ++ start_of earlier s ∷ []

-- earlier starts and those of lines from a line's number on, or the least line with a fault of its own: one of its words,
-- or a start with which there is too much work. works has the work of each script.
unfoldable pub judged : List Work → List Start → ℕ → List Told → Result (List Start) Fault
judged works earlier line [] = Ok earlier
judged works earlier line ((row, Err kind) ∷ rest) = Err (fault_at line kind)
judged works earlier line ((row, Ok (item.Starts s)) ∷ rest) =
    if is_little (total_work works (with_start earlier s))
    then judged works (with_start earlier s) (line + 1) rest
    else Err (fault_at line TooMuchWork)
judged works earlier line ((row, Ok _) ∷ rest) = judged works earlier (line + 1) rest

-- what is wrong with a whole part behind its last line: a script is open, or nothing is started
abbrev pub end_kind : Place → Option Kind
end_kind place = if place.is_open then Some UnknownWord else (if place.starts == 0 then Some NoStart else None)

-- what is wrong with a part in which no line says anything: its first line may be no text
abbrev pub silent_kind : List (List ℕ) → Kind
silent_kind [] = NoClusterLine
silent_kind (line ∷ lines) = if is_utf8 line then NoClusterLine else NotUtf8

-- a world, where nothing is wrong behind the last line
abbrev pub ended_world : ℕ → Option Kind → World → Result World Fault
ended_world last (Some kind) world = Err (fault_at last kind)
ended_world last None world = Ok world

-- a world of these starts, or their fault
abbrev pub whole_world : Names → ℕ → List Told → Place → Result (List Start) Fault → Result World Fault
whole_world names last told place (Err fault) = Err fault
whole_world names last told place (Ok starts) = ended_world last (end_kind place) (record {
  nodes = place.nodes;
  vars = length names.variables;
  scripts = scripts_of told;
  starts = starts;
})

-- what lines mean that are told with the names of their file; first is the number of the first of them
unfoldable pub told_part : Names → ℕ → List (List ℕ) → List Told → Result World Fault
told_part names first lines told =
    if (place_behind first_place told).begun
    then whole_world names (first + length lines - 1) told (place_behind first_place told) (judged (works (scripts_of told)) [] first told)
    else Err (fault_at first (silent_kind lines))

-- what a world part means whose first line has this number: a world, or the least fault
unfoldable pub read_part : ℕ → List (List ℕ) → Result World Fault
read_part first lines = told_part (gather (map words lines)) first lines (tells (gather (map words lines)) first_place lines)
