-- Which lines are a history of which entries.
use Rattle.std.specs.Prelude.{IsTrue, MatchBool, ◌≡◌, ℕ, ◌+◌, ◌^◌, ◌<◌, Bool, ◌||◌, List, [], ◌∷◌, ◌++◌, length, take, codes}
use Rattle.std.specs.Fmt.{decimal}
use Rattle.unix_names.specs.Sets.{IsSignals}
use Rattle.unix_names.specs.declared.WaitStatus.{WaitStatus}
use Rattle.unix_names.specs.declared.WaitStatus.TheVariants as status
use Rattle.unix_calls.specs.declared.Call.{Call}
use Rattle.unix_calls.specs.declared.Call.TheVariants as calls
use Rattle.unix_calls.specs.declared.Reply.{Reply}
use Rattle.unix_calls.specs.declared.Reply.TheVariants as replies
use Rattle.unix_calls.specs.declared.Entry.{Entry}
use Rattle.unix_calls.specs.declared.Entry.TheVariants.{Called, Happened}
use Rattle.unix_calls.specs.Calls.{IsEntry}
use Rattle.byte_ends.specs.Text.{words}
use Rattle.file_parts.specs.Parts.{Lines, is_only}
use Rattle.script_words.specs.Words.{Row, is_skipped}
use Rattle.histories.specs.History.{call_words, reply_words, event_words}

-- ---- what a line means
-- the words that are written of an entry
abbrev pub entry_words : Entry → Row
entry_words (Called caller call reply) = decimal caller.0 ∷ call_words call ++ reply_words reply
entry_words (Happened pid event) = decimal pid.0 ∷ event_words event

-- the numbers of a call fit 32 bits, and its set is one of signals
abbrev pub CallFits : Call → Type 0
CallFits (calls.Getpgid t) = t < 2 ^ 32
CallFits (calls.Getsid t) = t < 2 ^ 32
CallFits (calls.Exit n) = n < 2 ^ 32
CallFits (calls.Kill target sig) = sig < 2 ^ 32
CallFits (calls.Setpgid pid pgid) = pid < 2 ^ 32
CallFits (calls.Action sig act) = sig < 2 ^ 32
CallFits (calls.Mask set) = IsSignals set
CallFits _ = Unit {0}

abbrev pub StatusFits : WaitStatus → Type 0
StatusFits (status.Exited n) = n < 2 ^ 8
StatusFits _ = Unit {0}

abbrev pub ReplyFits : Reply → Type 0
ReplyFits (replies.Number n) = n < 2 ^ 32
ReplyFits (replies.Set set) = IsSignals set
ReplyFits (replies.Child pid s) = (pid.0 < 2 ^ 32) × StatusFits s
ReplyFits _ = Unit {0}

-- the numbers of an entry fit their types, as they do in each entry of a program
abbrev pub Fits : Entry → Type 0
Fits (Called caller call reply) = (caller.0 < 2 ^ 32) × CallFits call × ReplyFits reply
Fits (Happened pid event) = pid.0 < 2 ^ 32

-- words spell an entry where they are those that are written of it
pub record SpellsEntry (row : Row) (entry : Entry) : Type 0 where
  pub is_entry : IsEntry entry
  pub fits : Fits entry
  pub spelled : row ≡ entry_words entry

-- a line means an entry where its words spell it
abbrev pub Means : List ℕ → Entry → Type 0
Means line entry = SpellsEntry (words line) entry

-- the words of some line
abbrev pub AreWords : Row → Type 0
AreWords row = (line : List ℕ) × (row ≡ words line)

-- ---- what lines are beside entries
-- whether a line says nothing
abbrev pub is_nothing : List ℕ → Bool
is_nothing line = is_skipped (words line)

-- whether a line is the last one, which says whether nothing was left to do
abbrev pub is_last : List ℕ → Bool
is_last line = is_only (codes "quiet") line || is_only (codes "open") line

-- whether what stands from a line on isn't read
abbrev pub is_schedule : List ℕ → Bool
is_schedule line = is_only (codes "schedule") line

-- behind the last line: nothing, up to the end or to a schedule
abbrev pub Ends : Lines → Type 0
Ends [] = Unit {0}
Ends (l ∷ ls) = MatchBool (is_nothing l) (Ends ls) (IsTrue (is_schedule l))

-- ---- histories of whatever a line means
-- which value a line means
abbrev pub Meanings : Type 0 → Type 1
Meanings X = List ℕ → X → Type 0

-- the first of these values on a line, and the others on the lines behind it
abbrev pub OnLine : {X : Type 0} → Meanings X → List ℕ → (List X → Type 0) → List X → Type 0
OnLine M l Rest [] = ⊥
OnLine M l Rest (x ∷ xs) = M l x × Rest xs

-- lines are a history of these values: some say nothing, the others mean the values in order; then comes the last line or none, and then nothing, or a schedule
abbrev pub IsHistoryOf : {X : Type 0} → Meanings X → Lines → List X → Type 0
IsHistoryOf M [] xs = xs ≡ []
IsHistoryOf M (l ∷ ls) xs =
    MatchBool (is_nothing l) (IsHistoryOf M ls xs)
    (MatchBool (is_schedule l) (xs ≡ [])
    (MatchBool (is_last l) ((xs ≡ []) × Ends ls)
    (OnLine M l (IsHistoryOf M ls) xs)))

-- the first bad line, where the first line has this number: the lines before it are a history of some values, and with it they are one of none
pub record IsFirstBadOf {X : Type 0} (M : Meanings X) (ls : Lines) (number bad : ℕ) : Type 0 where
  pub before : ℕ
  pub place : bad ≡ number + before
  pub within : before < length ls
  pub good : (xs : List X) × IsHistoryOf M (take before ls) xs
  pub wrong : (xs : List X) → IsHistoryOf M (take (before + 1) ls) xs → ⊥

-- the first bad line behind the last one, where the line behind that has this number
pub record IsEndBad (ls : Lines) (number bad : ℕ) : Type 0 where
  pub before : ℕ
  pub place : bad ≡ number + before
  pub within : before < length ls
  pub good : Ends (take before ls)
  pub wrong : Ends (take (before + 1) ls) → ⊥

-- ---- histories of entries
-- lines are a history of these entries
abbrev pub IsHistory : Lines → List Entry → Type 0
IsHistory ls es = IsHistoryOf Means ls es

-- the first line at which lines stop being a history of entries
abbrev pub IsFirstBad : Lines → ℕ → ℕ → Type 0
IsFirstBad ls number bad = IsFirstBadOf Means ls number bad
