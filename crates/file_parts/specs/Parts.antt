-- The parts of a text by its lines.
use Rattle.std.specs.Prelude.{◌≡◌, ℕ, ◌≤◌, Bool, false, not, if◌then◌else◌, List, [], ◌∷◌, length, take_while, codes, slice_range, Option, None, Some}
use Rattle.std.specs.Str.{bytes_eq}
use Rattle.byte_ends.specs.Text.{lines, words}
use Rattle.file_parts.specs.declared.parts.Span.{Span}

-- a line is a list of bytes
abbrev pub Lines : Type 0
Lines = List (List ℕ)

-- whether a word stands alone among these
abbrev pub stands_alone : List ℕ → Lines → Bool
stands_alone word (first ∷ []) = bytes_eq first word
stands_alone word _ = false

-- whether a line's only word is a given one
abbrev pub is_only : List ℕ → List ℕ → Bool
is_only word line = stands_alone word (words line)

-- the lines before the first that passes a test
abbrev pub before : (List ℕ → Bool) → Lines → Lines
before test ls = take_while (λ l. not (test l)) ls

-- the lines behind the first that passes a test, if one does
abbrev pub behind : (List ℕ → Bool) → Lines → Option Lines
behind test [] = None
behind test (l ∷ ls) = if test l then Some ls else behind test ls

-- the lines before the history
abbrev pub front_lines : Lines → Lines
front_lines ls = before (is_only (codes "history")) ls

-- the lines of the history, if there is one
abbrev pub history_lines : Lines → Option Lines
history_lines ls = behind (is_only (codes "history")) ls

-- the lines of the world
abbrev pub world_lines : Lines → Lines
world_lines ls = before (is_only (codes "schedule")) (front_lines ls)

-- the lines of the schedule, if there is one
abbrev pub schedule_lines : Lines → Option Lines
schedule_lines ls = behind (is_only (codes "schedule")) (front_lines ls)

-- a part of a text: it lies there, it has these lines, and its first line has this number
pub record IsPart (bytes : List ℕ) (ls : Lines) (number : ℕ) (span : Span) : Type 0 where
  pub order : span.from ≤ span.to
  pub within : span.to ≤ length bytes
  pub spelled : lines (slice_range bytes span.from span.to) ≡ ls
  pub first : span.first_line ≡ number

-- a part that is there exactly where there are lines for it
abbrev pub IsPartOf : List ℕ → Option Lines → ℕ → Option Span → Type 0
IsPartOf bytes None number None = Unit {0}
IsPartOf bytes (Some ls) number (Some span) = IsPart bytes ls number span
IsPartOf bytes _ number _ = ⊥
