-- a world written as a file. Scripts go by s0, s1, .. and variables by v0, v1, ..: so the file gives a variable the number that it
-- has, where variables are numbered as files number them: by their first fork lines, then the others by their start lines.
use Rattle.std.specs.Prelude.{ℕ, ◌+◌, ◌==◌, Bool, true, false, if◌then◌else◌, Option, None, Some, List, [], ◌∷◌, ◌++◌, map, filter, codes, slice_get}
use Rattle.std.specs.List.{flat_map}
use Rattle.std.specs.Fmt.{decimal}
use Rattle.unix_names.specs.declared.NodeId.{NodeId}
use Rattle.unix_calls.specs.declared.Arg.{Arg}
use Rattle.unix_calls.specs.declared.Arg.TheVariants.{Zero, One, Nobody, Own, Maker, Var}
use Rattle.unix_calls.specs.declared.Script.{Script}
use Rattle.unix_calls.specs.declared.Start.{Start}
use Rattle.unix_calls.specs.declared.Statement.{Statement}
use Rattle.unix_calls.specs.declared.Statement.TheVariants as statement
use Rattle.unix_calls.specs.declared.World.{World}
use Rattle.script_words.specs.declared.Verb.TheVariants as verb
use Rattle.script_words.specs.Words.{Word, Row}
use Rattle.script_words.specs.Table.{verb_word, act_word, change_words}
use Rattle.script_words.specs.Writing.{spaced, signal_word, member_words}

abbrev pub script_name : ℕ → Word
script_name n = codes "s" ++ decimal n

abbrev pub variable_name : ℕ → Word
variable_name n = codes "v" ++ decimal n

-- a process
abbrev pub arg_word : Arg → Word
arg_word Zero = codes "0"
arg_word One = codes "1"
arg_word Nobody = codes "none"
arg_word Own = codes "self"
arg_word Maker = codes "maker"
arg_word (Var n) = variable_name n

-- a process, or a group behind a minus
abbrev pub target_word : Bool → Arg → Word
target_word true arg = codes "-" ++ arg_word arg
target_word false arg = arg_word arg

abbrev pub selector_word : Bool → Bool → Arg → Word
selector_word true minus arg = codes "any"
selector_word false minus arg = target_word minus arg

abbrev pub site_words : Option NodeId → Row
site_words None = []
site_words (Some node) = codes "at" ∷ decimal node.0 ∷ []

-- a statement that waits begins with `wait`, one that doesn't with `poll`
abbrev pub wait_word : Bool → Word
wait_word true = verb_word verb.Wait
wait_word false = verb_word verb.Poll

-- the words of a statement's line
abbrev pub statement_words : Statement → Row
statement_words statement.Getpid = verb_word verb.Getpid ∷ []
statement_words statement.Getppid = verb_word verb.Getppid ∷ []
statement_words (statement.Getpgid arg) = verb_word verb.Getpgid ∷ arg_word arg ∷ []
statement_words (statement.Getsid arg) = verb_word verb.Getsid ∷ arg_word arg ∷ []
statement_words (statement.Fork var script at) = verb_word verb.Fork ∷ variable_name var ∷ script_name script ∷ site_words at
statement_words (statement.Exec script) = verb_word verb.Exec ∷ script_name script ∷ []
statement_words (statement.Exit n) = verb_word verb.Exit ∷ decimal n ∷ []
statement_words (statement.Wait sleeps any minus arg stopped continued) = wait_word sleeps ∷ selector_word any minus arg ∷ change_words stopped continued
statement_words (statement.Kill minus arg sig) = verb_word verb.Kill ∷ target_word minus arg ∷ signal_word sig ∷ []
statement_words (statement.Setpgid pid minus pgid) = verb_word verb.Setpgid ∷ arg_word pid ∷ target_word minus pgid ∷ []
statement_words statement.Setsid = verb_word verb.Setsid ∷ []
statement_words (statement.Action sig act) = verb_word verb.Action ∷ signal_word sig ∷ act_word act ∷ []
statement_words (statement.Mask set) = verb_word verb.Mask ∷ member_words set
statement_words statement.Pending = verb_word verb.Pending ∷ []
statement_words (statement.Migrate node) = verb_word verb.Migrate ∷ decimal node.0 ∷ []

-- a script with its number: its first line, its statements and its end
abbrev pub script_rows : ℕ → Script → List Row
script_rows n script = (codes "script" ∷ script_name n ∷ []) ∷ map statement_words script.statements ++ (codes "end" ∷ []) ∷ []

-- scripts, numbered on from a number
abbrev pub scripts_rows : ℕ → List Script → List Row
scripts_rows n [] = []
scripts_rows n (script ∷ scripts) = script_rows n script ++ scripts_rows (n + 1) scripts

-- the user of a start where it is another than 0
abbrev pub uid_words : ℕ → Row
uid_words uid = if uid == 0 then [] else codes "uid" ∷ decimal uid ∷ []

-- the start that a start joins, by its variable
abbrev pub with_words : Option Start → Row
with_words None = []
with_words (Some other) = codes "with" ∷ variable_name other.var ∷ []

abbrev pub joined_words : List Start → Option ℕ → Row
joined_words starts None = []
joined_words starts (Some j) = with_words (slice_get starts j)

-- the words of a start's line
abbrev pub start_row : List Start → Start → Row
start_row starts s = codes "start" ∷ decimal s.node.0 ∷ script_name s.script ∷ variable_name s.var ∷ uid_words s.uid ++ joined_words starts s.joined

-- the lines of a world, by their words: the cluster, the scripts, the starts
abbrev pub file_rows : World → List Row
file_rows world = (codes "cluster" ∷ decimal world.nodes ∷ []) ∷ scripts_rows 0 world.scripts ++ map (start_row world.starts) world.starts

-- words, one space apart
abbrev pub spelled : Row → List ℕ
spelled [] = []
spelled (word ∷ words) = word ++ spaced words

-- a line with its newline
abbrev pub line_text : Row → List ℕ
line_text row = spelled row ++ 10 ∷ []

-- the file of a world
abbrev pub file_text : World → List ℕ
file_text world = flat_map line_text (file_rows world)
