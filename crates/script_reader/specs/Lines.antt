-- lines of a file, each read where it stands
use Rattle.std.specs.Prelude.{ℕ, ◌+◌, ◌==◌, Bool, true, false, ◌&&◌, nat_lt, nat_le, if◌then◌else◌, List, length, codes, Option, Some, None, Result, Ok, Err}
use Rattle.std.specs.Str.{is_utf8}
use Rattle.byte_ends.specs.Text.{words}
use Rattle.script_words.specs.declared.faults.Kind.{Kind}
use Rattle.script_words.specs.declared.faults.Kind.TheVariants.{NotUtf8, NoClusterLine, UnknownWord, TooManyNodes, TooManyScripts, TooManyStatements, TooManyStarts, DoubleName}
use Rattle.script_reader.specs.declared.names.Names.{Names}
use Rattle.script_reader.specs.declared.places.Place.{Place}
use Rattle.script_words.specs.declared.table.Verb.{Verb}
use Rattle.script_reader.specs.declared.lines.Head.{Head}
use Rattle.script_reader.specs.declared.lines.Head.TheVariants as head
use Rattle.script_reader.specs.declared.lines.Item.{Item}
use Rattle.script_reader.specs.declared.lines.Item.TheVariants as item
use Rattle.script_words.specs.Words.{Word, Row, ◌>>=◌, found, is_same, word_at, name, number, ended, node, is_skipped}
use Rattle.script_reader.specs.Names.{Table, number_in}
use Rattle.script_reader.specs.Statements.{script, statement_of}
use Rattle.script_words.specs.Table.{verb_named}
use Rattle.unix_calls.specs.declared.limits.TheConstants.{MOST_NODES, MOST_SCRIPTS, MOST_STATEMENTS, MOST_STARTS}

-- what a line begins with
unfoldable pub head_of : Word → Head
head_of word =
    if is_same word (codes "script") then head.Script
    else (if is_same word (codes "end") then head.End
    else (if is_same word (codes "start") then head.Start
    else other (verb_named word))) where
      other : Option Verb → Head
      other (Some v) = head.Says v
      other None = head.Unknown

-- whether a word has this number: whether it stands at no earlier line
unfoldable pub is_numbered : Table → Word → ℕ → Bool
is_numbered table word at = is_at (number_in table word) where
  is_at : Option ℕ → Bool
  is_at (Some n) = n == at
  is_at None = false

unfoldable pub cluster_line : Row → Result Item Kind
cluster_line row =
    if is_same (word_at row 0) (codes "cluster")
    then (number (word_at row 1) >>= λ n. (if nat_lt 0 n && nat_le n MOST_NODES then (ended {A = Unit {0}} row 2 tt >>= λ _. Ok (item.Nodes n)) else Err TooManyNodes))
    else Err NoClusterLine

unfoldable pub script_line : Names → Place → Row → Result Item Kind
script_line names place row =
    if place.scripts == MOST_SCRIPTS then Err TooManyScripts
    else (if place.is_open then Err UnknownWord
    else (name (word_at row 1) >>= λ _. (if is_numbered names.scripts (word_at row 1) place.scripts then (ended {A = Unit {0}} row 2 tt >>= λ _. Ok item.ScriptBegins) else Err DoubleName)))

unfoldable pub end_line : Place → Row → Result Item Kind
end_line place row = if place.is_open then (ended {A = Unit {0}} row 1 tt >>= λ _. Ok item.ScriptEnds) else Err UnknownWord

unfoldable pub statement_line : Names → Place → Verb → Row → Result Item Kind
statement_line names place verb row =
    if place.is_open
    then (if place.statements == MOST_STATEMENTS then Err TooManyStatements else (statement_of names place verb row >>= λ s. Ok (item.Says s)))
    else Err UnknownWord

-- the variable of a start, which no earlier start has
unfoldable pub start_variable : Names → Place → Word → Result ℕ Kind
start_variable names place word = name word >>= λ _. (if is_numbered names.starts word place.starts then found (number_in names.variables word) UnknownWord else Err DoubleName)

-- the user of a start, and how many words the line has so far
unfoldable pub user : Row → Result (ℕ × ℕ) Kind
user row = if is_same (word_at row 4) (codes "uid") then (number (word_at row 5) >>= λ n. Ok (n, 6)) else Ok (0, 4)

-- a start on an earlier line
unfoldable pub earlier_start : Names → Place → Word → Result ℕ Kind
earlier_start names place word = name word >>= λ _. found (number_in names.starts word) UnknownWord >>= λ n. (if nat_lt n place.starts then Ok n else Err UnknownWord)

-- the start that a start joins, behind so many words
unfoldable pub joined : Names → Place → ℕ → Row → Result (Option ℕ) Kind
joined names place count row =
    if nat_le (length row) count then Ok None
    else (if is_same (word_at row count) (codes "with")
    then (earlier_start names place (word_at row (count + 1)) >>= λ n. ended row (count + 2) (Some n))
    else Err UnknownWord)

unfoldable pub start_words : Names → Place → Row → Result Item Kind
start_words names place row = do
  site ← node place.nodes (word_at row 1)
  runs ← script names.scripts (word_at row 2)
  variable ← start_variable names place (word_at row 3)
  uid ← user row
  other ← joined names place uid.1 row
  Ok (item.Starts (record { node = site; script = runs; var = variable; uid = uid.0; joined = other }))

unfoldable pub start_line : Names → Place → Row → Result Item Kind
start_line names place row =
    if place.starts == MOST_STARTS then Err TooManyStarts
    else (if place.is_open then Err UnknownWord
    else start_words names place row)

-- a line behind the first one that says something, by its first word
unfoldable pub later_line : Names → Place → Head → Row → Result Item Kind
later_line names place head.Script row = script_line names place row
later_line names place head.End row = end_line place row
later_line names place head.Start row = start_line names place row
later_line names place (head.Says verb) row = statement_line names place verb row
later_line names place head.Unknown row = Err UnknownWord

-- what the words of a line say where they stand
unfoldable pub read_row : Names → Place → Row → Result Item Kind
read_row names place row =
    if is_skipped row then Ok item.Nothing
    else (if place.begun then later_line names place (head_of (word_at row 0)) row else cluster_line row)

-- what a line says where it stands, or its first fault
unfoldable pub read_line : Names → Place → List ℕ → Result Item Kind
read_line names place line = if is_utf8 line then read_row names place (words line) else Err NotUtf8

-- the nodes of the cluster behind a line
abbrev pub nodes_after : ℕ → Result Item Kind → ℕ
nodes_after nodes (Ok (item.Nodes n)) = n
nodes_after nodes _ = nodes

-- where the next line stands: a line's first word counts also where the line has a fault
abbrev pub placed_after : Place → ℕ → Head → Place
placed_after place nodes head.Script = record { begun = true; nodes = nodes; is_open = true; scripts = place.scripts + 1; statements = 0; starts = place.starts }
placed_after place nodes head.End = record { begun = true; nodes = nodes; is_open = false; scripts = place.scripts; statements = place.statements; starts = place.starts }
placed_after place nodes head.Start = record { begun = true; nodes = nodes; is_open = place.is_open; scripts = place.scripts; statements = place.statements; starts = place.starts + 1 }
placed_after place nodes (head.Says verb) = record { begun = true; nodes = nodes; is_open = place.is_open; scripts = place.scripts; statements = if place.is_open then place.statements + 1 else place.statements; starts = place.starts }
placed_after place nodes head.Unknown = record { begun = true; nodes = nodes; is_open = place.is_open; scripts = place.scripts; statements = place.statements; starts = place.starts }

unfoldable pub place_after : Place → Row → Result Item Kind → Place
place_after place row read = if is_skipped row then place else placed_after place (nodes_after place.nodes read) (head_of (word_at row 0))
