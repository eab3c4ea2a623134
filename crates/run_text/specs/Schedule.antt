-- Schedules: a turn on each line.
use Rattle.std.specs.Prelude.{ℕ, ◌+◌, ◌<◌, nat_le, if◌then◌else◌, List, [], ◌∷◌, ◌++◌, codes, fold, Option, Some, None, Result, Ok, Err}
use Rattle.unix_calls.specs.declared.limits.TheConstants.{MOST_TURNS}
use Rattle.std.specs.List.{flat_map}
use Rattle.std.specs.Fmt.{decimal}
use Rattle.std.specs.Str.{is_utf8}
use Rattle.byte_ends.specs.Text.{words}
use Rattle.unix_calls.specs.declared.Turn.{Turn}
use Rattle.unix_calls.specs.declared.Turn.TheVariants.{Go, Push, Take, Auto}
pub use Rattle.unix_calls.specs.Turns.{turns_in}
use Rattle.script_words.specs.declared.Kind.{Kind}
use Rattle.script_words.specs.declared.Kind.TheVariants.{NotUtf8, UnknownWord, TooManyTurns}
use Rattle.script_words.specs.declared.Fault.{Fault}
use Rattle.script_words.specs.Words.{Row, ◌>>=◌, is_same, word_at, number, node, ended, is_skipped}
use Rattle.script_words.specs.Writing.{spaced}

-- the turn that a line's words say, on a cluster of so many nodes
unfoldable pub turn_of : ℕ → Row → Result Turn Kind
turn_of nodes row =
    if is_same (word_at row 0) (codes "go") then (node nodes (word_at row 1) >>= λ n. ended row 2 (Go n))
    else (if is_same (word_at row 0) (codes "push") then (node nodes (word_at row 1) >>= λ n. node nodes (word_at row 2) >>= λ k. ended row 3 (Push n k))
    else (if is_same (word_at row 0) (codes "take") then (node nodes (word_at row 1) >>= λ n. node nodes (word_at row 2) >>= λ m. ended row 3 (Take n m))
    else (if is_same (word_at row 0) (codes "auto") then (number (word_at row 1) >>= λ k. ended row 2 (Auto k))
    else Err UnknownWord)))

-- a turn that comes behind so many: at most 200,000 in all
unfoldable pub counted : ℕ → Turn → Result (Option Turn) Kind
counted before turn = if nat_le (before + turns_in turn) MOST_TURNS then Ok (Some turn) else Err TooManyTurns

-- what a line says behind so many turns; a skipped line says nothing
unfoldable pub read_turn : ℕ → ℕ → List ℕ → Result (Option Turn) Kind
read_turn nodes before line =
    if is_utf8 line
    then (if is_skipped (words line) then Ok None else (turn_of nodes (words line) >>= λ t. counted before t))
    else Err NotUtf8

-- the turns so far, for how many they stand, and the number of the next line
pub record SoFar : Type 0 where
  pub turns : List Turn
  pub count : ℕ
  pub number : ℕ

-- what a line adds to the turns before it
abbrev pub added : SoFar → Result (Option Turn) Kind → Result SoFar Fault
added s (Err kind) = Err (record { line = s.number; kind = kind })
added s (Ok None) = Ok (record { turns = s.turns; count = s.count; number = s.number + 1 })
added s (Ok (Some turn)) = Ok (record { turns = s.turns ++ turn ∷ []; count = s.count + turns_in turn; number = s.number + 1 })

-- the turns behind a line; a fault before it stays
abbrev pub after_line : ℕ → Result SoFar Fault → List ℕ → Result SoFar Fault
after_line nodes (Err fault) line = Err fault
after_line nodes (Ok s) line = added s (read_turn nodes s.count line)

-- the turns alone
abbrev pub turns_of : Result SoFar Fault → Result (List Turn) Fault
turns_of (Ok s) = Ok s.turns
turns_of (Err fault) = Err fault

-- the turns of some lines, the first of which has this number, or the least fault
unfoldable pub schedule : ℕ → ℕ → List (List ℕ) → Result (List Turn) Fault
schedule nodes number ls = turns_of (fold (after_line nodes) (Ok (record { turns = []; count = 0; number = number })) ls)

-- the nodes of a turn are nodes of the cluster
abbrev pub HasNodes : ℕ → Turn → Type 0
HasNodes nodes (Go n) = n < nodes
HasNodes nodes (Push n k) = (n < nodes) × (k < nodes)
HasNodes nodes (Take n m) = (n < nodes) × (m < nodes)
HasNodes nodes (Auto k) = Unit {0}

-- how a turn is written
abbrev pub turn_words : Turn → List (List ℕ)
turn_words (Go n) = decimal n ∷ []
turn_words (Push n k) = decimal n ∷ decimal k ∷ []
turn_words (Take n m) = decimal n ∷ decimal m ∷ []
turn_words (Auto k) = decimal k ∷ []

abbrev pub turn_word : Turn → List ℕ
turn_word (Go n) = codes "go"
turn_word (Push n k) = codes "push"
turn_word (Take n m) = codes "take"
turn_word (Auto k) = codes "auto"

-- the line of a turn
abbrev pub turn_line : Turn → List ℕ
turn_line turn = turn_word turn ++ spaced (turn_words turn)

-- the text of a schedule: a line for each turn
abbrev pub schedule_text : List Turn → List ℕ
schedule_text turns = flat_map (λ t. turn_line t ++ 10 ∷ []) turns
