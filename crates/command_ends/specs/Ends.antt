-- What a command promises of its two ends, whatever it says: how much was read, what was written, and when each status comes.
use Rattle.std.specs.Prelude.{◌≡◌, ◌⊎◌, ℕ, ◌+◌, ◌<◌, ◌≤◌, List, take, length, Option, Some}
use Rattle.std.specs.Io.KnownBytes.{Consumes, Appends, IsAtEnd}
use Rattle.byte_ends.specs.Causes.{Rose}
use Rattle.command_ends.specs.declared.status.Status.{Status}
use Rattle.command_ends.specs.declared.status.Status.TheVariants.{Done, BadFile, ReadFault, WriteFault, NoMemory, Illegal, TooLong}
use Rattle.byte_ends.specs.declared.limits.TheConstants.{LONGEST_INPUT}

-- a status with which a text is written
abbrev pub HasText : Status → Type 0
HasText Done = Unit {0}
HasText BadFile = Unit {0}
HasText Illegal = Unit {0}
HasText _ = ⊥

-- which text belongs to an input, by the status
abbrev pub Texts : Type 1
Texts = Status → List ℕ → List ℕ → Type 0

-- all that a source had left, where it tells its bytes
pub record IsRead (left left' : Option (List ℕ)) (input : List ℕ) : Type 0 where
  pub consumed : Consumes left left' input
  pub ended : IsAtEnd left'
  pub short : length input ≤ LONGEST_INPUT

-- such a text was written
abbrev pub WritesText : (List ℕ → Type 0) → Option (List ℕ) → Option (List ℕ) → Type 0
WritesText P taken taken' = (output : List ℕ) × P output × Appends taken taken' output

-- a front of such a text was written, and not the whole
abbrev pub WritesFront : (List ℕ → Type 0) → Option (List ℕ) → Option (List ℕ) → Type 0
WritesFront P taken taken' = (output : List ℕ) × (count : ℕ) × P output × (count < length output) × Appends taken taken' (take count output)

-- the input was read to its end, and the text that belongs to it was written
pub record Answers (P : List ℕ → List ℕ → Type 0) (left left' taken taken' : Option (List ℕ)) : Type 0 where
  pub input : List ℕ
  pub read : IsRead left left' input
  pub writes : WritesText (P input) taken taken'

-- a text that belongs to the input, whatever the status
abbrev pub IsSomeText : Texts → List ℕ → List ℕ → Type 0
IsSomeText P input output = (status : Status) × HasText status × P status input output

-- the input was read to its end, and a front of a text that belongs to it was written
pub record AnswersFront (P : Texts) (left left' taken taken' : Option (List ℕ)) : Type 0 where
  pub input : List ℕ
  pub read : IsRead left left' input
  pub writes : WritesFront (IsSomeText P input) taken taken'

-- so many bytes came from the source, or fewer
abbrev pub ReadsUpTo : ℕ → Option (List ℕ) → Option (List ℕ) → Type 0
ReadsUpTo most left left' = (bytes : List ℕ) × (length bytes ≤ most) × Consumes left left' bytes

-- so many bytes came from the source
abbrev pub ReadsCount : ℕ → Option (List ℕ) → Option (List ℕ) → Type 0
ReadsCount count left left' = (bytes : List ℕ) × (length bytes ≡ count) × Consumes left left' bytes

-- what a command that reads its input answers, by its status, and what it did to the source and the sink; P says which text belongs to an input
pub record IsAnswered {S K : Type 0} (left : S → Option (List ℕ)) (source_faults : S → ℕ) (taken : K → Option (List ℕ)) (sink_faults : K → ℕ)
    (P : Texts) (source source' : S) (sink sink' : K) (status : Status) : Type 0 where
  -- the text that belongs to the input and this status was written
  pub text : HasText status → Answers (P status) (left source) (left source') (taken sink) (taken sink')
  -- the source failed, and the sink is as it was
  pub read_fault : status ≡ ReadFault → Rose (source_faults source) (source_faults source') × (sink' ≡ sink)
  -- more bytes came than an input may have, and the sink is as it was
  pub too_long : status ≡ TooLong → ReadsCount (LONGEST_INPUT + 1) (left source) (left source') × (sink' ≡ sink)
  -- the sink failed, and took a front of the very text
  pub write_fault : status ≡ WriteFault → Rose (sink_faults sink) (sink_faults sink')
      × AnswersFront P (left source) (left source') (taken sink) (taken sink')
  -- memory ran out before anything was written
  pub no_memory : status ≡ NoMemory → sink' ≡ sink
  -- whatever is answered, no more than one byte beyond the limit was read
  pub bounded : ReadsUpTo (LONGEST_INPUT + 1) (left source) (left source')
  -- where nothing fails, each input that is short enough gets its text
  pub answers : (input : List ℕ) → left source ≡ Some input → length input ≤ LONGEST_INPUT
      → ¬ Rose (source_faults source) (source_faults source') → ¬ Rose (sink_faults sink) (sink_faults sink')
      → HasText status ⊎ (status ≡ NoMemory)
  -- a longer input is told to be so, where the source does not fail
  pub tells_length : (input : List ℕ) → left source ≡ Some input → LONGEST_INPUT < length input
      → ¬ Rose (source_faults source) (source_faults source') → (status ≡ TooLong) ⊎ (status ≡ NoMemory)

-- what a command that reads nothing answers, by its status, and what it did to the sink; P says which text is written
pub record IsMade {K : Type 0} (taken : K → Option (List ℕ)) (sink_faults : K → ℕ) (P : List ℕ → Type 0) (sink sink' : K) (status : Status) : Type 0 where
  pub done : status ≡ Done → WritesText P (taken sink) (taken sink')
  -- the sink failed, and took a front of the very text
  pub write_fault : status ≡ WriteFault → Rose (sink_faults sink) (sink_faults sink') × WritesFront P (taken sink) (taken sink')
  pub no_memory : status ≡ NoMemory → sink' ≡ sink
  -- no other status comes
  pub some : (status ≡ Done) ⊎ (status ≡ WriteFault) ⊎ (status ≡ NoMemory)
