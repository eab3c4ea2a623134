-- What stands around a line of a part: by the words of all its lines, or of those before the line.
use Rattle.std.specs.Prelude.{ℕ, ◌+◌, ◌-◌, Bool, true, false, not, if◌then◌else◌, List, ◌++◌, length, take, fold, find, codes, Option, Some, None, is_some}
use Rattle.std.specs.List.{list_any}
use Rattle.std.specs.Str.Parse.{digits_value}
use Rattle.script_words.specs.Words.{Word, Row, word_at, is_skipped}
use Rattle.script_words.specs.Table.{verb_named}
use Rattle.script_reader.specs.Files.{begins_with, words_behind}

-- a line that says something: it has words, and the first does not begin with `#`
abbrev pub says_something : Row → Bool
says_something row = not (is_skipped row)

-- some line says something
abbrev pub is_begun : List Row → Bool
is_begun rows = list_any says_something rows

abbrev pub number_behind : Option Row → ℕ
number_behind (Some row) = digits_value 10 (word_at row 1)
number_behind None = 0

-- how many nodes the cluster has: the number on the first line that says something
abbrev pub nodes_in : List Row → ℕ
nodes_in rows = number_behind (find says_something rows)

-- the names that lines give to scripts, to starts and to variables, whether or not those lines have faults
abbrev pub script_names : List Row → List Word
script_names rows = words_behind (codes "script") 1 rows

abbrev pub start_names : List Row → List Word
start_names rows = words_behind (codes "start") 3 rows

abbrev pub variable_names : List Row → List Word
variable_names rows = words_behind (codes "fork") 1 rows ++ start_names rows

-- all but the last of some names: those of the scripts before the one that is open
abbrev pub earlier_names : List Row → List Word
earlier_names rows = take (length (script_names rows) - 1) (script_names rows)

-- a line that begins with `script` opens a script, and one that begins with `end` closes it
abbrev pub opened : Bool → Row → Bool
opened was_open row = if begins_with (codes "script") row then true else (if begins_with (codes "end") row then false else was_open)

-- a script is open behind these lines
unfoldable pub is_open : List Row → Bool
is_open rows = fold opened false rows

-- the line begins with a statement's word
abbrev pub is_statement : Row → Bool
is_statement row = is_some (verb_named (word_at row 0))

abbrev pub counted : ℕ → Row → ℕ
counted count row = if begins_with (codes "script") row then 0 else (if is_statement row then count + 1 else count)

-- how many lines begin with a statement's word since the last that begins with `script`
unfoldable pub statement_count : List Row → ℕ
statement_count rows = fold counted 0 rows
