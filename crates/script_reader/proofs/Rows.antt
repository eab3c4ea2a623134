-- lines that are cut one after the other, and what they say
use Rattle.std.proofs.Common.{◌≡◌, ℕ, suc, ◌+◌, ◌<◌, ◌≤◌, ◌==◌, not, Bool, true, if◌then◌else◌, List, [], ◌∷◌, ◌++◌, length, map, drop, get_or, Bor, refl, sym, ap, ◌∙◌, arith}
use Rattle.std.specs.Prelude.{slice_range}
use Rattle.std.specs.List.{sum_by, slice_split}
use Rattle.std.proofs.lemmas.Grind.{common_steps}
use Rattle.std.proofs.lemmas.List.{at_drop_more, at_drop_all, length-map}
use Rattle.std.proofs.lemmas.List.Sums.{length-filter, count_by-le-length, sum_by-cons}
use Rattle.std.proofs.lemmas.List.Splits.{length-slice_split}
use Rattle.byte_ends.specs.Text.{is_blank, words}
use Rattle.unix_calls.specs.declared.Script.{Script}
use Rattle.script_words.specs.Words.{Row}
use Rattle.script_words.specs.declared.faults.Kind.TheVariants.{NotUtf8, NoClusterLine}
use Rattle.script_reader.specs.declared.cuts.CutLine.{CutLine}
use Rattle.script_reader.specs.declared.names.Names.{Names}
use Rattle.script_reader.specs.declared.places.Place.{Place}
use Rattle.script_reader.specs.Lines.{read_line, place_after}
use Rattle.script_reader.specs.Files.{Told, first_place, gather, tells, place_behind, scripts_of, silent_kind}
use Rattle.script_reader.specs.MethodCuts.{CutRow, cut_row, row_of, cut_rows, cut_tells, cut_silent_kind}
use Rattle.script_reader.proofs.Wholes.{IsRead}

last_range : (all row : List (Bor (List ℕ))) (from n : ℕ) → from ≡ length all → length row ≡ n → slice_range (all ++ row) from (from + n) ≡ row
last_range all row from n end size = grind (arith, common_steps)

early_range : (all row : List (Bor (List ℕ))) (from to : ℕ) → to ≤ length all → slice_range (all ++ row) from to ≡ slice_range all from to
early_range all row from to le = grind (arith, common_steps)

-- a line more, and its words
pub rows-push : (all row : List (Bor (List ℕ))) (lines : List CutLine) (from : ℕ) (last : CutLine) → from + sum_by (λ line. line.word_count) lines ≡ length all → length row ≡ last.word_count
    → cut_rows (all ++ row) from (lines ++ last ∷ []) ≡ cut_rows all from lines ++ (map (λ w. w.now) row, last.is_utf8) ∷ []
unfolding cut_rows
rows-push all row [] from last shared size =
    ap (λ (ws : List (Bor (List ℕ))). (map (λ w. w.now) ws, last.is_utf8) ∷ []) (last_range all row from last.word_count (omega (arith, shared)) size)
rows-push all row (line ∷ lines) from last shared size =
    let parts = sum_by-cons (λ l. l.word_count) line lines in
    ap (λ (ws : List (Bor (List ℕ))). (map (λ w. w.now) ws, line.is_utf8) ∷ cut_rows (all ++ row) (from + line.word_count) (lines ++ last ∷ [])) (early_range all row from (from + line.word_count) (omega (arith, shared, parts)))
    ∙ ap (λ (rows : List CutRow). (map (λ w. w.now) (slice_range all from (from + line.word_count)), line.is_utf8) ∷ rows) (rows-push all row lines (from + line.word_count) last (omega (arith, shared, parts)) size)

length-rows : (all : List (Bor (List ℕ))) (from : ℕ) (lines : List CutLine) → length (cut_rows all from lines) ≡ length lines
unfolding cut_rows
length-rows all from [] = refl
length-rows all from (line ∷ lines) = ap (λ (n : ℕ). suc n) (length-rows all (from + line.word_count) lines)

-- as many lines as there were
pub length-cut : (all : List (Bor (List ℕ))) (lines : List CutLine) (ls : List (List ℕ)) → cut_rows all 0 lines ≡ map cut_row ls → length lines ≡ length ls
length-cut all lines ls e = sym (length-rows all 0 lines) ∙ ap length e ∙ length-map ls cut_row

-- the line at a place, and those behind it
pub rows-more : (all : List (Bor (List ℕ))) (from : ℕ) (lines : List CutLine) (i : ℕ) (d : CutLine) → i < length lines
    → cut_rows all from (drop i lines) ≡ (map (λ w. w.now) (slice_range all from (from + (get_or lines i d).word_count)), (get_or lines i d).is_utf8) ∷ cut_rows all (from + (get_or lines i d).word_count) (drop (i + 1) lines)
unfolding cut_rows
rows-more all from lines i d lt = at_drop_more (cut_rows all from) lines i d lt

-- what cut lines say is what the lines say
pub tells-cut : (names : Names) (place : Place) (lines : List (List ℕ)) → cut_tells names place (map cut_row lines) ≡ tells names place lines
unfolding cut_tells tells read_line
tells-cut names place [] = refl
tells-cut names place (line ∷ lines) =
    ap (λ (rest : List Told). (words line, read_line names place line) ∷ rest) (tells-cut names (place_after place (words line) (read_line names place line)) lines)

pub rows-cut : (lines : List (List ℕ)) → map row_of (map cut_row lines) ≡ map words lines
rows-cut [] = refl
rows-cut (line ∷ lines) = ap (λ (rows : List Row). words line ∷ rows) (rows-cut lines)

first_is_utf8 : List CutRow → Bool
first_is_utf8 [] = true
first_is_utf8 (row ∷ rows) = row.1

pub silent-cut : (all : List (Bor (List ℕ))) (from : ℕ) (lines : List CutLine) (ls : List (List ℕ)) → cut_rows all from lines ≡ map cut_row ls → cut_silent_kind lines ≡ silent_kind ls
unfolding cut_rows first_is_utf8
silent-cut all from [] [] e = refl
silent-cut all from [] (l ∷ ls) e = absurd cc
silent-cut all from (line ∷ lines) [] e = absurd cc
silent-cut all from (line ∷ lines) (l ∷ ls) e = ap (λ (b : Bool). if b then NoClusterLine else NotUtf8) (ap first_is_utf8 e)

pub told-cut : (names : Names) (rows : List CutRow) (ls : List (List ℕ)) → rows ≡ map cut_row ls → cut_tells names first_place rows ≡ tells names first_place ls
told-cut names rows ls e = ap (cut_tells names first_place) e ∙ tells-cut names first_place ls

-- what is read of cut lines is read of the lines
pub is-read : (rows : List CutRow) (ls : List (List ℕ)) (names : Names) (scripts : List Script) (place : Place) → rows ≡ map cut_row ls → names ≡ gather (map row_of rows)
    → scripts ≡ scripts_of (cut_tells names first_place rows) → place ≡ place_behind first_place (cut_tells names first_place rows) → IsRead ls names scripts place
is-read rows ls names scripts place e n s p = record {
  names_are = n ∙ ap gather (ap (map row_of) e ∙ rows-cut ls);
  scripts_are = s ∙ ap scripts_of (told-cut names rows ls e);
  place_is = p ∙ ap (place_behind first_place) (told-cut names rows ls e);
}

-- a line has at most one word more than bytes
pub few-words : (line : List ℕ) → length (words line) ≤ length line + 1
few-words line =
    let kept = length-filter (λ word. not (length word == 0)) (slice_split is_blank line) in
    let some = count_by-le-length (λ word. not (length word == 0)) (slice_split is_blank line) in
    let parts = length-slice_split is_blank line in
    let blanks = count_by-le-length is_blank line in
    omega (arith, kept, some, parts, blanks)

-- behind the last line there is none
pub rows-all : (all : List (Bor (List ℕ))) (from : ℕ) (lines : List CutLine) (i : ℕ) → length lines ≤ i → cut_rows all from (drop i lines) ≡ []
unfolding cut_rows
rows-all all from lines i le = at_drop_all (cut_rows all from) lines i le
