-- Histories of format 2: each entry with the place of its turn in the schedule, and the user of its process.
use Rattle.std.specs.Prelude.{◌≡◌, ℕ, ◌+◌, ◌^◌, ◌<◌, Bool, true, false, ◌&&◌, List, [], ◌∷◌, ◌++◌, codes}
use Rattle.std.specs.List.{flat_map}
use Rattle.std.specs.Fmt.{decimal}
use Rattle.unix_calls.specs.Calls.{IsEntry}
use Rattle.byte_ends.specs.Text.{words}
use Rattle.file_parts.specs.Parts.{Lines}
use Rattle.script_words.specs.Words.{Row, is_same}
use Rattle.histories.specs.declared.stamped.Stamped.{Stamped}
use Rattle.histories.specs.History.{line_of, last_line}
use Rattle.histories.specs.Reading.{Fits, SpellsEntry, IsHistoryOf, IsFirstBadOf}

-- ---- written
-- the line of a stamped entry: its place, its user, and the line of the entry
abbrev pub stamped_line : Stamped → List ℕ
stamped_line s = decimal s.place ++ (32 ∷ (decimal s.uid ++ (32 ∷ line_of s.entry)))

-- the text of a history of format 2
abbrev pub text_two : List Stamped → Bool → List ℕ
text_two entries is_quiet = codes "format 2\n" ++ flat_map stamped_line entries ++ last_line is_quiet

-- the entry is one that a history can hold
abbrev pub IsStamped : Stamped → Type 0
IsStamped s = IsEntry s.entry

-- the numbers of a stamped entry fit their types, as they do in each of a program
abbrev pub FitsStamped : Stamped → Type 0
FitsStamped s = (s.place < 2 ^ 64) × (s.uid < 2 ^ 32) × Fits s.entry

-- ---- read
-- words spell a stamped entry: its place, which is below 2^64, its user, which is below 2^32, and the words of the entry
pub record SpellsStamped (row : Row) (s : Stamped) : Type 0 where
  pub rest : Row
  pub spelled : row ≡ decimal s.place ∷ decimal s.uid ∷ rest
  pub place : s.place < 2 ^ 64
  pub user : s.uid < 2 ^ 32
  pub entry : SpellsEntry rest s.entry

-- a line means a stamped entry where its words spell it
abbrev pub MeansStamped : List ℕ → Stamped → Type 0
MeansStamped line s = SpellsStamped (words line) s

-- words are `format 2`
abbrev pub is_format_two : Row → Bool
is_format_two (word ∷ number ∷ []) = is_same word (codes "format") && is_same number (codes "2")
is_format_two _ = false

-- the line that begins a history of format 2
abbrev pub IsFormatTwo : List ℕ → Type 0
IsFormatTwo line = is_format_two (words line) ≡ true

-- the first of these lines begins a history of format 2
abbrev pub HasFormatTwo : Lines → Type 0
HasFormatTwo [] = ⊥
HasFormatTwo (l ∷ ls) = IsFormatTwo l

-- lines are a history of format 2 of these stamped entries: the first says so, and the others are a history of them
abbrev pub IsHistoryTwo : Lines → List Stamped → Type 0
IsHistoryTwo [] entries = ⊥
IsHistoryTwo (l ∷ ls) entries = IsFormatTwo l × IsHistoryOf MeansStamped ls entries

-- the first bad line of a history of format 2, where the first line has this number
abbrev pub IsFirstBadTwo : Lines → ℕ → ℕ → Type 0
IsFirstBadTwo [] number bad = ⊥
IsFirstBadTwo (l ∷ ls) number bad = IsFormatTwo l × IsFirstBadOf MeansStamped ls (number + 1) bad
