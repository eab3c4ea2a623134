-- The faults of a schedule, each by its own condition: at which line it stands, and where in the order of the faults of that line.
use Rattle.std.specs.Prelude.{◌≡◌, ◌⊎◌, ◌↔◌, ℕ, suc, ◌+◌, ◌<◌, ◌≤◌, false, List, [], ◌∷◌, take, codes, slice_get, Some, Err}
use Rattle.unix_calls.specs.declared.limits.TheConstants.{MOST_TURNS}
use Rattle.std.specs.Str.{is_utf8}
use Rattle.std.specs.Str.Parse.{digits_value}
use Rattle.byte_ends.specs.Text.{IsNumber, words}
use Rattle.unix_calls.specs.declared.Turn.{Turn}
use Rattle.unix_calls.specs.declared.Turn.TheVariants.{Go, Push, Take, Auto}
use Rattle.unix_calls.specs.Turns.{turns_in}
use Rattle.script_words.specs.declared.Kind.{Kind}
use Rattle.script_words.specs.declared.Kind.TheVariants.{NotUtf8, UnknownWord, BadNumber, NoSuchNode, TooManyTurns}
use Rattle.script_words.specs.declared.Fault.{Fault}
use Rattle.script_words.specs.Words.{Word, Row, is_skipped}
use Rattle.run_text.specs.Schedule.{schedule}

-- ---- the words of a line
-- what a word behind the first one of a line gives: a node, or how many turns
pub data Place : Type 0 where
  node : Place
  number : Place

-- a line that stands for turns may begin so, and has such words behind it and no others
abbrev pub Begins : Word → List Place → Type 0
Begins word form =
    ((word ≡ codes "go") × (form ≡ node ∷ []))
    ⊎ ((word ≡ codes "push") × (form ≡ node ∷ node ∷ []))
    ⊎ ((word ≡ codes "take") × (form ≡ node ∷ node ∷ []))
    ⊎ ((word ≡ codes "auto") × (form ≡ number ∷ []))

-- which words may stand at a place, and what is wrong with any other, on a cluster of so many nodes
abbrev pub Fits : ℕ → Place → Word → Type 0
Fits nodes node word = IsNumber word × (digits_value 10 word < nodes)
Fits nodes number word = IsNumber word

abbrev pub Misfits : ℕ → Place → Word → Kind → Type 0
Misfits nodes node word kind = ((kind ≡ BadNumber) × ¬ IsNumber word) ⊎ ((kind ≡ NoSuchNode) × IsNumber word × (nodes ≤ digits_value 10 word))
Misfits nodes number word kind = (kind ≡ BadNumber) × ¬ IsNumber word

-- the first word that is not as the form has it, or is missing, and why
abbrev pub AreWrong : ℕ → List Place → Row → Kind → Type 0
AreWrong nodes [] [] kind = ⊥
AreWrong nodes [] (word ∷ words) kind = kind ≡ UnknownWord
AreWrong nodes (place ∷ form) [] kind = kind ≡ UnknownWord
AreWrong nodes (place ∷ form) (word ∷ words) kind = Misfits nodes place word kind ⊎ (Fits nodes place word × AreWrong nodes form words kind)

-- the first wrong word of a line that says something, and why: no line may begin so, or a word behind the first is wrong
abbrev pub IsWrong : ℕ → Row → Kind → Type 0
IsWrong nodes [] kind = ⊥
IsWrong nodes (word ∷ words) kind =
    (is_skipped (word ∷ words) ≡ false) × (
    (((form : List Place) → ¬ Begins word form) × (kind ≡ UnknownWord))
    ⊎ ((form : List Place) × Begins word form × AreWrong nodes form words kind))

-- ---- for how many turns lines stand
-- a word is a number, or that of a node
abbrev pub Spells : Word → ℕ → Type 0
Spells word n = IsNumber word × (n ≡ digits_value 10 word)

-- the words of a line say a turn
abbrev pub SaysTurn : Row → Turn → Type 0
SaysTurn (word ∷ n' ∷ []) (Go n) = (word ≡ codes "go") × Spells n' n
SaysTurn (word ∷ n' ∷ k' ∷ []) (Push n k) = (word ≡ codes "push") × Spells n' n × Spells k' k
SaysTurn (word ∷ n' ∷ m' ∷ []) (Take n m) = (word ≡ codes "take") × Spells n' n × Spells m' m
SaysTurn (word ∷ k' ∷ []) (Auto k) = (word ≡ codes "auto") × Spells k' k
SaysTurn _ _ = ⊥

-- so many turns are those of a line; a line that says none has none
abbrev pub CountsAs : List ℕ → ℕ → Type 0
CountsAs line count = ((turn : Turn) × SaysTurn (words line) turn × (count ≡ turns_in turn)) ⊎ (((turn : Turn) → ¬ SaysTurn (words line) turn) × (count ≡ 0))

-- so many turns are those of some lines together
abbrev pub SumTo : List (List ℕ) → ℕ → Type 0
SumTo [] total = total ≡ 0
SumTo (line ∷ lines) total = (count more : ℕ) × CountsAs line count × SumTo lines more × (total ≡ count + more)

-- ---- the faults
-- What is looked at, in this order, where several faults stand at one line: whether it is a text, its words, and how many turns there are up to it.
pub data Aspect : Type 0 where
  text : Aspect
  wording : Aspect
  turns : Aspect

abbrev pub rank : Aspect → ℕ
rank text = 0
rank wording = 1
rank turns = 2

-- a fault at the line that stands behind so many others, in this aspect and of this kind
abbrev pub HasFault : ℕ → List (List ℕ) → ℕ → Aspect → Kind → Type 0
HasFault nodes lines k text kind = (kind ≡ NotUtf8) × (line : List ℕ) × (slice_get lines k ≡ Some line) × (is_utf8 line ≡ false)
HasFault nodes lines k wording kind = (line : List ℕ) × (slice_get lines k ≡ Some line) × IsWrong nodes (words line) kind
HasFault nodes lines k turns kind =
    (kind ≡ TooManyTurns) × (line : List ℕ) × (slice_get lines k ≡ Some line) × (total : ℕ) × SumTo (take (suc k) lines) total × (MOST_TURNS < total)

-- one fault is this one, or stands behind it: at a later line, or at its line in a later aspect
abbrev pub IsNotBefore : ℕ → Aspect → Kind → ℕ → Aspect → Kind → Type 0
IsNotBefore k aspect kind k' aspect' kind' = (k < k') ⊎ ((k' ≡ k) × (rank aspect < rank aspect')) ⊎ ((k' ≡ k) × (aspect' ≡ aspect) × (kind' ≡ kind))

-- the least fault of a schedule, whose first line has this number
pub record IsLeastFault (nodes first : ℕ) (lines : List (List ℕ)) (fault : Fault) : Type 0 where
  pub k : ℕ
  pub aspect : Aspect
  pub at_line : fault.line ≡ first + k
  pub is : HasFault nodes lines k aspect fault.kind
  pub least : (k' : ℕ) (aspect' : Aspect) (kind' : Kind) → HasFault nodes lines k' aspect' kind' → IsNotBefore k aspect fault.kind k' aspect' kind'

-- the fault that is told is the least one, and the least one is told
abbrev pub LeastIsTold : Type 0
LeastIsTold = (nodes first : ℕ) (lines : List (List ℕ)) (fault : Fault) → (schedule nodes first lines ≡ Err fault) ↔ IsLeastFault nodes first lines fault
