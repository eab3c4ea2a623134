-- The places of words on a line: which words may stand at each, and what is wrong with any other.
use Rattle.std.specs.Prelude.{◌≡◌, ◌⊎◌, ℕ, ◌<◌, ◌≤◌, true, false, List, ◌∷◌, length, codes, Contains}
use Rattle.std.specs.Str.Parse.{digits_value}
use Rattle.byte_ends.specs.Text.{IsNumber}
use Rattle.unix_names.specs.declared.Act.{Act}
use Rattle.unix_names.specs.declared.Signal.{Signal}
use Rattle.unix_names.specs.Signals.{word_of}
use Rattle.script_words.specs.declared.Kind.{Kind}
use Rattle.script_words.specs.declared.Kind.TheVariants.{UnknownWord, UnknownScript, LaterScript, BadNumber, NoSuchNode, TooManyNodes, DoubleName, LongName}
use Rattle.script_words.specs.Words.{Word, Row, begins_with_digit, is_minus_digits}
use Rattle.script_laws.specs.Grammar.{HasNameForm, IsName, IsForSignal, act_word}
use Rattle.fault_laws.specs.Context.{nodes_in, script_names, start_names, variable_names, earlier_names}
use Rattle.unix_calls.specs.declared.limits.TheConstants.{MOST_NODES}
use Rattle.script_words.specs.declared.limits.TheConstants.{LONGEST_NAME}

pub data Slot : Type 0 where
  -- how many nodes the cluster has
  total : Slot
  number : Slot
  node : Slot
  -- a script's name on its own line, on that of a start, and on that of a fork or an exec
  new_script : Slot
  any_script : Slot
  earlier_script : Slot
  -- a variable that a fork assigns, that of a start, and that of the start that is joined
  variable : Slot
  new_start : Slot
  earlier_start : Slot
  -- a process; a process or a group; the group that a setpgid asks for; which children are waited for
  process : Slot
  target : Slot
  wanted : Slot
  selector : Slot
  -- a signal or any number; a signal; an action
  signal_number : Slot
  signal : Slot
  action : Slot

-- ---- processes and groups
-- a process other than 0 and 1: a word for one, or a variable that some line gives
abbrev pub NamesGroup : List Row → Word → Type 0
NamesGroup rows word = (word ≡ codes "none") ⊎ (word ≡ codes "self") ⊎ (word ≡ codes "maker") ⊎ (IsName word × Contains (variable_names rows) word)

abbrev pub NamesProcess : List Row → Word → Type 0
NamesProcess rows word = (word ≡ codes "0") ⊎ (word ≡ codes "1") ⊎ NamesGroup rows word

-- a process, or behind a minus a group
abbrev pub NamesTarget : List Row → Word → Type 0
NamesTarget rows word = NamesProcess rows word ⊎ ((name : Word) × (word ≡ 45 ∷ name) × NamesGroup rows name)

-- ---- signals
abbrev pub NamesSignal : Word → Type 0
NamesSignal word = (s : Signal) × (word ≡ word_of s)

-- from 1 to 64
abbrev pub IsTotal : ℕ → Type 0
IsTotal n = (1 ≤ n) × (n ≤ MOST_NODES)

-- ---- which words may stand at a place, by the words of all lines and of those before
abbrev pub Fits : List Row → List Row → Slot → Word → Type 0
Fits rows before total word = IsNumber word × IsTotal (digits_value 10 word)
Fits rows before number word = IsNumber word
Fits rows before node word = IsNumber word × (digits_value 10 word < nodes_in rows)
Fits rows before new_script word = IsName word × ¬ Contains (script_names before) word
Fits rows before any_script word = IsName word × Contains (script_names rows) word
Fits rows before earlier_script word = IsName word × Contains (script_names rows) word × Contains (earlier_names before) word
Fits rows before variable word = IsName word
Fits rows before new_start word = IsName word × ¬ Contains (start_names before) word
Fits rows before earlier_start word = IsName word × Contains (start_names before) word
Fits rows before process word = NamesProcess rows word
Fits rows before target word = NamesTarget rows word
Fits rows before wanted word = (word ≡ codes "-1") ⊎ NamesTarget rows word
Fits rows before selector word = (word ≡ codes "any") ⊎ NamesTarget rows word
Fits rows before signal_number word = NamesSignal word ⊎ IsNumber word
Fits rows before signal word = (s : Signal) × IsForSignal word s
Fits rows before action word = (act : Act) × (word ≡ act_word act)

-- ---- what is wrong with a word
-- it has no name's form, or is too long
abbrev pub IsNoName : Word → Kind → Type 0
IsNoName word kind = ((kind ≡ UnknownWord) × ¬ HasNameForm word) ⊎ ((kind ≡ LongName) × HasNameForm word × (LONGEST_NAME < length word))

-- a minus and digits are a bad number, and another word that names nothing is unknown
abbrev pub IsNoTarget : (Word → Type 0) → Word → Kind → Type 0
IsNoTarget P word kind = ((kind ≡ BadNumber) × (is_minus_digits word ≡ true) × ¬ P word) ⊎ ((kind ≡ UnknownWord) × (is_minus_digits word ≡ false) × ¬ P word)

-- a word that begins with a digit is a bad number, and another that names nothing is unknown
abbrev pub IsNoSignal : (Word → Type 0) → Word → Kind → Type 0
IsNoSignal P word kind = ((kind ≡ BadNumber) × (begins_with_digit word ≡ true) × ¬ P word) ⊎ ((kind ≡ UnknownWord) × (begins_with_digit word ≡ false) × ¬ P word)

-- a word that may not stand at a place, and why
abbrev pub Misfits : List Row → List Row → Slot → Word → Kind → Type 0
Misfits rows before total word kind = ((kind ≡ BadNumber) × ¬ IsNumber word) ⊎ ((kind ≡ TooManyNodes) × IsNumber word × ¬ IsTotal (digits_value 10 word))
Misfits rows before number word kind = (kind ≡ BadNumber) × ¬ IsNumber word
Misfits rows before node word kind = ((kind ≡ BadNumber) × ¬ IsNumber word) ⊎ ((kind ≡ NoSuchNode) × IsNumber word × (nodes_in rows ≤ digits_value 10 word))
Misfits rows before new_script word kind = IsNoName word kind ⊎ ((kind ≡ DoubleName) × IsName word × Contains (script_names before) word)
Misfits rows before any_script word kind = IsNoName word kind ⊎ ((kind ≡ UnknownScript) × IsName word × ¬ Contains (script_names rows) word)
Misfits rows before earlier_script word kind =
    IsNoName word kind
    ⊎ ((kind ≡ UnknownScript) × IsName word × ¬ Contains (script_names rows) word)
    ⊎ ((kind ≡ LaterScript) × IsName word × Contains (script_names rows) word × ¬ Contains (earlier_names before) word)
Misfits rows before variable word kind = IsNoName word kind
Misfits rows before new_start word kind = IsNoName word kind ⊎ ((kind ≡ DoubleName) × IsName word × Contains (start_names before) word)
Misfits rows before earlier_start word kind = IsNoName word kind ⊎ ((kind ≡ UnknownWord) × IsName word × ¬ Contains (start_names before) word)
Misfits rows before process word kind = (kind ≡ UnknownWord) × ¬ NamesProcess rows word
Misfits rows before target word kind = IsNoTarget (Fits rows before target) word kind
Misfits rows before wanted word kind = IsNoTarget (Fits rows before wanted) word kind
Misfits rows before selector word kind = IsNoTarget (Fits rows before selector) word kind
Misfits rows before signal_number word kind = IsNoSignal (Fits rows before signal_number) word kind
Misfits rows before signal word kind = IsNoSignal (Fits rows before signal) word kind
Misfits rows before action word kind = (kind ≡ UnknownWord) × ¬ ((act : Act) × (word ≡ act_word act))
