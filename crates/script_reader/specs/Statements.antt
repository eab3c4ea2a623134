-- statements of a script, read from their words
use Rattle.std.specs.Prelude.{ℕ, ◌-◌, ◌==◌, Bool, true, false, nat_lt, nat_le, if◌then◌else◌, [], ◌∷◌, length, drop, codes, Option, Some, None, Result, Ok, Err}
use Rattle.unix_names.specs.declared.names.NodeId.{NodeId}
use Rattle.unix_names.specs.declared.states.Act.{Act}
use Rattle.unix_names.specs.Sets.{added}
use Rattle.unix_calls.specs.declared.world.Arg.{Arg}
use Rattle.unix_calls.specs.declared.world.Arg.TheVariants.{Zero, One, Nobody, Own, Maker, Var}
use Rattle.unix_calls.specs.declared.world.Statement.{Statement}
use Rattle.unix_calls.specs.declared.world.Statement.TheVariants as statement
use Rattle.script_words.specs.declared.faults.Kind.{Kind}
use Rattle.script_words.specs.declared.faults.Kind.TheVariants.{UnknownWord, BadNumber, UnknownScript, LaterScript}
use Rattle.script_words.specs.declared.table.Verb.{Verb}
use Rattle.script_words.specs.declared.table.Verb.TheVariants as verb
use Rattle.script_reader.specs.declared.names.Names.{Names}
use Rattle.script_reader.specs.declared.places.Place.{Place}
use Rattle.script_words.specs.Words.{Word, Row, ◌>>=◌, found, is_same, word_at, name, number, signal_number, signal, is_minus_digits, ended, node}
use Rattle.script_words.specs.Table.{act_named, changes_in}
use Rattle.script_reader.specs.Names.{Table, number_in}

-- a word at the place of a variable that is given a value
unfoldable pub own_variable : Table → Word → Result ℕ Kind
own_variable variables word = name word >>= λ _. found (number_in variables word) UnknownWord

-- a word at the place of a script
unfoldable pub script : Table → Word → Result ℕ Kind
script scripts word = name word >>= λ _. found (number_in scripts word) UnknownScript

-- a word at the place of a script that must be earlier than the script that it stands in, the last one so far
unfoldable pub earlier_script : Names → Place → Word → Result ℕ Kind
earlier_script names place word = script names.scripts word >>= λ n. (if nat_lt n (place.scripts - 1) then Ok n else Err LaterScript)

-- the variable that a name reads
unfoldable pub variable : Table → Word → Result Arg Kind
variable variables word = name_of_variable (name word) where
  name_of_variable : Result (Unit {0}) Kind → Result Arg Kind
  name_of_variable (Ok _) = found (number_in variables word) UnknownWord >>= λ n. Ok (Var n)
  name_of_variable (Err _) = Err UnknownWord

-- a process other than 0 and 1
unfoldable pub group : Table → Word → Result Arg Kind
group variables word =
    if is_same word (codes "none") then Ok Nobody
    else (if is_same word (codes "self") then Ok Own
    else (if is_same word (codes "maker") then Ok Maker
    else variable variables word))

-- a process
unfoldable pub process : Table → Word → Result Arg Kind
process variables word =
    if is_same word (codes "0") then Ok Zero
    else (if is_same word (codes "1") then Ok One
    else group variables word)

-- a process, or a group behind a minus: whether there is a minus, and whom it names
unfoldable pub target : Table → Word → Result (Bool × Arg) Kind
target variables [] = Err UnknownWord
target variables (b ∷ bs) =
    if is_minus_digits (b ∷ bs) then Err BadNumber
    else (if b == 45 then (group variables bs >>= λ arg. Ok (true, arg))
    else (process variables (b ∷ bs) >>= λ arg. Ok (false, arg)))

-- the group that `setpgid` asks for, which may be -1
unfoldable pub wanted_group : Table → Word → Result (Bool × Arg) Kind
wanted_group variables word = if is_same word (codes "-1") then Ok (true, One) else target variables word

-- which children `wait` asks for: whether any, whether there is a minus, and whom it names
unfoldable pub selector : Table → Word → Result (Bool × Bool × Arg) Kind
selector variables word = if is_same word (codes "any") then Ok (true, false, Nobody) else (target variables word >>= λ t. Ok (false, t.0, t.1))

-- which changes of a child `wait` asks for too, from its third word on: stopped ones, continued ones
unfoldable pub changes : Row → Result (Bool × Bool) Kind
changes row = found (changes_in (drop 2 row)) UnknownWord

-- a word at the place of an action
unfoldable pub act : Word → Result Act Kind
act word = found (act_named word) UnknownWord

-- the signals of some words, and those of a set
unfoldable pub signals : ℕ → Row → Result ℕ Kind
signals set [] = Ok set
signals set (word ∷ words) = signal word >>= λ s. signals (added set s) words

-- where a child begins, from the fourth word of a fork on
unfoldable pub site : ℕ → Row → Result (Option NodeId) Kind
site nodes row =
    if nat_le (length row) 3 then Ok None
    else (if is_same (word_at row 3) (codes "at") then (node nodes (word_at row 4) >>= λ n. ended row 5 (Some (record { 0 = n }))) else Err UnknownWord)

unfoldable pub fork_statement : Names → Place → Row → Result Statement Kind
fork_statement names place row = do
  var ← own_variable names.variables (word_at row 1)
  script ← earlier_script names place (word_at row 2)
  at ← site place.nodes row
  Ok (statement.Fork var script at)

unfoldable pub wait_statement : Table → Bool → Row → Result Statement Kind
wait_statement variables sleeps row = do
  whom ← selector variables (word_at row 1)
  asked ← changes row
  Ok (statement.Wait sleeps whom.0 whom.1 whom.2 asked.0 asked.1)

unfoldable pub kill_statement : Table → Row → Result Statement Kind
kill_statement variables row = do
  whom ← target variables (word_at row 1)
  sig ← signal_number (word_at row 2)
  ended row 3 (statement.Kill whom.0 whom.1 sig)

unfoldable pub setpgid_statement : Table → Row → Result Statement Kind
setpgid_statement variables row = do
  pid ← process variables (word_at row 1)
  wanted ← wanted_group variables (word_at row 2)
  ended row 3 (statement.Setpgid pid wanted.0 wanted.1)

unfoldable pub action_statement : Row → Result Statement Kind
action_statement row = do
  sig ← signal_number (word_at row 1)
  action ← act (word_at row 2)
  ended row 3 (statement.Action sig action)

unfoldable pub mask_statement : Row → Result Statement Kind
mask_statement row = signals 0 (drop 1 row) >>= λ set. Ok (statement.Mask set)

unfoldable pub migrate_statement : ℕ → Row → Result Statement Kind
migrate_statement nodes row = node nodes (word_at row 1) >>= λ n. ended row 2 (statement.Migrate (record { 0 = n }))

unfoldable pub exec_statement : Names → Place → Row → Result Statement Kind
exec_statement names place row = earlier_script names place (word_at row 1) >>= λ n. ended row 2 (statement.Exec n)

unfoldable pub exit_statement : Row → Result Statement Kind
exit_statement row = number (word_at row 1) >>= λ n. ended row 2 (statement.Exit n)

unfoldable pub getpgid_statement : Table → Row → Result Statement Kind
getpgid_statement variables row = process variables (word_at row 1) >>= λ arg. ended row 2 (statement.Getpgid arg)

unfoldable pub getsid_statement : Table → Row → Result Statement Kind
getsid_statement variables row = process variables (word_at row 1) >>= λ arg. ended row 2 (statement.Getsid arg)

-- the statement of a line that begins with a statement's word
unfoldable pub statement_of : Names → Place → Verb → Row → Result Statement Kind
statement_of names place verb.Getpid row = ended row 1 statement.Getpid
statement_of names place verb.Getppid row = ended row 1 statement.Getppid
statement_of names place verb.Setsid row = ended row 1 statement.Setsid
statement_of names place verb.Pending row = ended row 1 statement.Pending
statement_of names place verb.Getpgid row = getpgid_statement names.variables row
statement_of names place verb.Getsid row = getsid_statement names.variables row
statement_of names place verb.Fork row = fork_statement names place row
statement_of names place verb.Exec row = exec_statement names place row
statement_of names place verb.Exit row = exit_statement row
statement_of names place verb.Wait row = wait_statement names.variables true row
statement_of names place verb.Poll row = wait_statement names.variables false row
statement_of names place verb.Kill row = kill_statement names.variables row
statement_of names place verb.Setpgid row = setpgid_statement names.variables row
statement_of names place verb.Action row = action_statement row
statement_of names place verb.Mask row = mask_statement row
statement_of names place verb.Migrate row = migrate_statement place.nodes row
