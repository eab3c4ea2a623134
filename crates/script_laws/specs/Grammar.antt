-- The grammar of a part: which words spell which world.
use Rattle.std.specs.Prelude.{◌≡◌, ◌⊎◌, ℕ, ◌≤◌, Bool, true, false, Option, Some, None, List, [], ◌∷◌, ◌++◌, length, codes, fold, slice_get, map, All}
use Rattle.std.specs.List.{AllZip, list_all}
use Rattle.std.specs.Str.{is_utf8}
use Rattle.std.specs.Str.Parse.{digits_value}
use Rattle.byte_ends.specs.Text.{words, IsNumber}
use Rattle.unix_names.specs.declared.Signal.{Signal}
use Rattle.unix_names.specs.declared.Act.{Act}
use Rattle.unix_names.specs.declared.Act.TheVariants.{Default, Ignore, Catch}
use Rattle.unix_names.specs.declared.NodeId.{NodeId}
use Rattle.unix_names.specs.Signals.{number_of, word_of}
use Rattle.unix_names.specs.Sets.{added}
use Rattle.unix_calls.specs.declared.Arg.{Arg}
use Rattle.unix_calls.specs.declared.Arg.TheVariants.{Zero, One, Nobody, Own, Maker, Var}
use Rattle.unix_calls.specs.declared.Script.{Script}
use Rattle.unix_calls.specs.declared.Start.{Start}
use Rattle.unix_calls.specs.declared.Statement.{Statement}
use Rattle.unix_calls.specs.declared.Statement.TheVariants as statement
use Rattle.unix_calls.specs.declared.World.{World}
use Rattle.unix_calls.specs.Valid.{IsValid}
use Rattle.script_words.specs.Words.{Word, Row, is_lower, is_name_byte, reserved, is_skipped}
use Rattle.script_laws.specs.Writable.{IsTarget, AreInOrder, variables_of}
use Rattle.script_words.specs.declared.limits.TheConstants.{LONGEST_NAME}

-- a lower-case letter and then lower-case letters and digits, and no word with a meaning of its own
pub record HasNameForm (word : Word) : Type 0 where
  pub letter : ℕ
  pub others : Word
  pub is : word ≡ letter ∷ others
  pub lower : is_lower letter ≡ true
  pub each : list_all is_name_byte others ≡ true
  pub free : All (λ r. word ≡ r → ⊥) reserved

-- such a word of 1 to 16 bytes
pub record IsName (word : Word) : Type 0 where
  pub form : HasNameForm word
  pub few : length word ≤ LONGEST_NAME

-- the names of a part, each at the place of its number
pub record Naming : Type 0 where
  pub scripts : List Word
  pub variables : List Word

-- a word that has a number among names
abbrev pub IsCalled : List Word → Word → ℕ → Type 0
IsCalled names word n = slice_get names n ≡ Some word

-- no name stands twice
abbrev pub AreNames : List Word → Type 0
AreNames names = All IsName names × ((word : Word) (a b : ℕ) → IsCalled names word a → IsCalled names word b → a ≡ b)

-- a word of 1 to 10 digits that spells a number below 2^32
abbrev pub IsFor : Word → ℕ → Type 0
IsFor word n = IsNumber word × (digits_value 10 word ≡ n)

-- a word that names a process
abbrev pub IsArg : Naming → Word → Arg → Type 0
IsArg naming word Zero = word ≡ codes "0"
IsArg naming word One = word ≡ codes "1"
IsArg naming word Nobody = word ≡ codes "none"
IsArg naming word Own = word ≡ codes "self"
IsArg naming word Maker = word ≡ codes "maker"
IsArg naming word (Var v) = IsCalled naming.variables word v

-- a word that names a process, or behind a minus a group
abbrev pub Targets : Naming → Word → Bool → Arg → Type 0
Targets naming word false arg = IsArg naming word arg
Targets naming word true arg = (name : Word) × (word ≡ 45 ∷ name) × IsArg naming name arg × IsTarget true arg

-- the group that a setpgid asks for, which may be -1
abbrev pub Wants : Naming → Word → Bool → Arg → Type 0
Wants naming word true One = word ≡ codes "-1"
Wants naming word minus arg = Targets naming word minus arg

-- which children are waited for
abbrev pub Selects : Naming → Word → Bool → Bool → Arg → Type 0
Selects naming word true minus arg = (word ≡ codes "any") × (minus ≡ false) × (arg ≡ Nobody)
Selects naming word false minus arg = Targets naming word minus arg

-- a signal's word, or a signal's number
abbrev pub IsForSignal : Word → Signal → Type 0
IsForSignal word s = (word ≡ word_of s) ⊎ IsFor word (number_of s)

-- a signal's word, or any number
abbrev pub IsForSignalNumber : Word → ℕ → Type 0
IsForSignalNumber word n = ((s : Signal) × (word ≡ word_of s) × (number_of s ≡ n)) ⊎ IsFor word n

-- words of the signals of a set
abbrev pub AreForSet : Row → ℕ → Type 0
AreForSet row set = (signals : List Signal) × AllZip IsForSignal row signals × (fold added 0 signals ≡ set)

-- a statement that waits begins with `wait`, one that doesn't with `poll`
abbrev pub wait_word : Bool → Word
wait_word true = codes "wait"
wait_word false = codes "poll"

-- the changes of a child that are asked for beside its end: whether stops, and whether it goes on
abbrev pub change_words : Bool → Bool → Row
change_words false false = []
change_words true false = codes "stopped" ∷ []
change_words false true = codes "continued" ∷ []
change_words true true = codes "stopped" ∷ codes "continued" ∷ []

abbrev pub act_word : Act → Word
act_word Default = codes "default"
act_word Ignore = codes "ignore"
act_word Catch = codes "catch"

-- where a child begins
abbrev pub IsSite : Row → Option NodeId → Type 0
IsSite row None = row ≡ []
IsSite row (Some node) = (word : Word) × (row ≡ codes "at" ∷ word ∷ []) × IsFor word node.0

-- the words of a statement's line
abbrev pub Spells : Naming → Row → Statement → Type 0
Spells naming row statement.Getpid = row ≡ codes "getpid" ∷ []
Spells naming row statement.Getppid = row ≡ codes "getppid" ∷ []
Spells naming row (statement.Getpgid arg) = (word : Word) × (row ≡ codes "getpgid" ∷ word ∷ []) × IsArg naming word arg
Spells naming row (statement.Getsid arg) = (word : Word) × (row ≡ codes "getsid" ∷ word ∷ []) × IsArg naming word arg
Spells naming row (statement.Fork var script at) = (variable name : Word) × (site : Row) × (row ≡ codes "fork" ∷ variable ∷ name ∷ site) × IsCalled naming.variables variable var × IsCalled naming.scripts name script × IsSite site at
Spells naming row (statement.Exec script) = (name : Word) × (row ≡ codes "exec" ∷ name ∷ []) × IsCalled naming.scripts name script
Spells naming row (statement.Exit n) = (word : Word) × (row ≡ codes "exit" ∷ word ∷ []) × IsFor word n
Spells naming row (statement.Wait sleeps any minus arg stopped continued) = (word : Word) × (row ≡ wait_word sleeps ∷ word ∷ change_words stopped continued) × Selects naming word any minus arg
Spells naming row (statement.Kill minus arg sig) = (whom word : Word) × (row ≡ codes "kill" ∷ whom ∷ word ∷ []) × Targets naming whom minus arg × IsForSignalNumber word sig
Spells naming row (statement.Setpgid pid minus pgid) = (whom word : Word) × (row ≡ codes "setpgid" ∷ whom ∷ word ∷ []) × IsArg naming whom pid × Wants naming word minus pgid
Spells naming row statement.Setsid = row ≡ codes "setsid" ∷ []
Spells naming row (statement.Action sig act) = (word : Word) × (row ≡ codes "action" ∷ word ∷ act_word act ∷ []) × IsForSignalNumber word sig
Spells naming row (statement.Mask set) = (signals : Row) × (row ≡ codes "mask" ∷ signals) × AreForSet signals set
Spells naming row statement.Pending = row ≡ codes "pending" ∷ []
Spells naming row (statement.Migrate node) = (word : Word) × (row ≡ codes "migrate" ∷ word ∷ []) × IsFor word node.0

-- the user of a start, 0 where it is left out
abbrev pub IsUser : Row → ℕ → Type 0
IsUser row uid = ((row ≡ []) × (uid ≡ 0)) ⊎ ((word : Word) × (row ≡ codes "uid" ∷ word ∷ []) × IsFor word uid)

-- the start that a start joins, by its variable
abbrev pub Joins : Naming → List Start → Row → Option ℕ → Type 0
Joins naming starts row None = row ≡ []
Joins naming starts row (Some j) = (word : Word) × (other : Start) × (row ≡ codes "with" ∷ word ∷ []) × (slice_get starts j ≡ Some other) × IsCalled naming.variables word other.var

-- the words of a start's line; starts are all starts of the part
pub record SpellsStart (naming : Naming) (starts : List Start) (row : Row) (start : Start) : Type 0 where
  pub site : Word
  pub name : Word
  pub variable : Word
  pub user : Row
  pub other : Row
  pub is : row ≡ codes "start" ∷ site ∷ name ∷ variable ∷ user ++ other
  pub node : IsFor site start.node.0
  pub script : IsCalled naming.scripts name start.script
  pub var : IsCalled naming.variables variable start.var
  pub uid : IsUser user start.uid
  pub joined : Joins naming starts other start.joined

-- The lines behind the first, where a script may be open: its further statements, the further scripts with their names, and the further starts.
pub data Lines (naming : Naming) (all : List Start) : Option (List Statement) → List Word → List Script → List Start → List Row → Type 0 where
  ends : Lines naming all None [] [] [] []
  skips : {open' : Option (List Statement)} {names : List Word} {scripts : List Script} {starts : List Start} (row : Row) {rows : List Row} → is_skipped row ≡ true
      → Lines naming all open' names scripts starts rows → Lines naming all open' names scripts starts (row ∷ rows)
  starts : {names : List Word} {scripts : List Script} {later : List Start} (start : Start) (row : Row) {rows : List Row} → SpellsStart naming all row start
      → Lines naming all None names scripts later rows → Lines naming all None names scripts (start ∷ later) (row ∷ rows)
  begins : {names : List Word} {scripts : List Script} {later : List Start} (name : Word) (script : Script) {rows : List Row}
      → Lines naming all (Some script.statements) names scripts later rows → Lines naming all None (name ∷ names) (script ∷ scripts) later ((codes "script" ∷ name ∷ []) ∷ rows)
  says : {statements : List Statement} {names : List Word} {scripts : List Script} {later : List Start} (statement : Statement) (row : Row) {rows : List Row} → Spells naming row statement
      → Lines naming all (Some statements) names scripts later rows → Lines naming all (Some (statement ∷ statements)) names scripts later (row ∷ rows)
  closes : {names : List Word} {scripts : List Script} {later : List Start} {rows : List Row}
      → Lines naming all None names scripts later rows → Lines naming all (Some []) names scripts later ((codes "end" ∷ []) ∷ rows)

-- a part: lines that say nothing, the line of the cluster, and the others
pub data Part (naming : Naming) (world : World) : List Row → Type 0 where
  silent : (row : Row) {rows : List Row} → is_skipped row ≡ true → Part naming world rows → Part naming world (row ∷ rows)
  opens : (word : Word) {rows : List Row} → IsFor word world.nodes → Lines naming world.starts None naming.scripts world.scripts world.starts rows → Part naming world ((codes "cluster" ∷ word ∷ []) ∷ rows)

-- The lines are a part that means this world.
pub record IsFile (lines : List (List ℕ)) (world : World) : Type 0 where
  pub naming : Naming
  pub texts : All (λ line. is_utf8 line ≡ true) lines
  pub part : Part naming world (map words lines)
  pub scripts : AreNames naming.scripts
  pub variables : AreNames naming.variables
  pub total : length naming.variables ≡ world.vars
  pub in_order : AreInOrder 0 (variables_of world) world.vars
  pub some_start : 1 ≤ length world.starts
  pub valid : IsValid world
