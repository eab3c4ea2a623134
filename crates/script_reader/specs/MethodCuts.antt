-- What the code goes through in a part that is cut into words: its lines are taken from one list of all words. No promise cites these definitions.
use Rattle.std.specs.Prelude.{ℕ, ◌+◌, Bool, if◌then◌else◌, List, [], ◌∷◌, map, slice_range, Result, Err}
use Rattle.std.specs.Borrow.{Bor}
use Rattle.std.specs.Str.{is_utf8}
use Rattle.byte_ends.specs.Text.{words}
use Rattle.script_words.specs.declared.faults.Kind.{Kind}
use Rattle.script_words.specs.declared.faults.Kind.TheVariants.{NotUtf8, NoClusterLine}
use Rattle.script_words.specs.Words.{Row}
use Rattle.script_reader.specs.declared.cuts.CutLine.{CutLine}
use Rattle.script_reader.specs.declared.lines.Item.{Item}
use Rattle.script_reader.specs.declared.names.Names.{Names}
use Rattle.script_reader.specs.declared.places.Place.{Place}
use Rattle.script_reader.specs.Lines.{read_row, place_after}
use Rattle.script_reader.specs.Files.{Told}

-- a line's words, and whether it is UTF-8
abbrev pub CutRow : Type 0
CutRow = Row × Bool

-- a line of a text, cut
abbrev pub cut_row : List ℕ → CutRow
cut_row line = (words line, is_utf8 line)

-- the words of a row
abbrev pub row_of : CutRow → Row
row_of line = line.0

-- lines that take their words from a list of all, from a place on
unfoldable pub cut_rows : List (Bor (List ℕ)) → ℕ → List CutLine → List CutRow
cut_rows all from [] = []
cut_rows all from (line ∷ lines) = (map (λ w. w.now) (slice_range all from (from + line.word_count)), line.is_utf8) ∷ cut_rows all (from + line.word_count) lines

-- what a line that is cut says where it stands, or its first fault
abbrev pub read_cut : Names → Place → CutRow → Result Item Kind
read_cut names place line = if line.1 then read_row names place line.0 else Err NotUtf8

-- what each line says, one after the other
unfoldable pub cut_tells : Names → Place → List CutRow → List Told
cut_tells names place [] = []
cut_tells names place (line ∷ lines) = (line.0, read_cut names place line) ∷ cut_tells names (place_after place line.0 (read_cut names place line)) lines

-- what is wrong with a part in which no line says anything
abbrev pub cut_silent_kind : List CutLine → Kind
cut_silent_kind [] = NoClusterLine
cut_silent_kind (line ∷ lines) = if line.is_utf8 then NoClusterLine else NotUtf8
