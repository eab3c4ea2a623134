-- The numbers of lines fit.
use Rattle.std.proofs.Common.{◌≤◌, ℕ, ◌+◌, Bool, List, [], ◌∷◌, length, arith}
use Rattle.std.specs.Prelude.{codes, not, take_while, ◌^◌}
use Rattle.std.specs.List.{slice_split, prefix_len}
use Rattle.std.proofs.lemmas.List.{length-map, length-take}
use Rattle.std.proofs.lemmas.List.Splits.{length-slice_split}
use Rattle.std.proofs.lemmas.List.Sums.{count_by-le-length}
use Rattle.byte_ends.specs.Text.{lines, whole_lines, is_newline, strip_return}
use Rattle.byte_ends.specs.declared.limits.TheConstants.{LONGEST_INPUT}
use Rattle.file_parts.specs.Parts.{is_only, front_lines}
use Rattle.given_files.specs.Input.{schedule_first, history_first}

whole_few : (parts : List (List ℕ)) → length (whole_lines parts) ≤ length parts
whole_few [] = omega arith
whole_few ([] ∷ []) = omega arith
whole_few ((b ∷ bs) ∷ []) = omega arith
whole_few (part ∷ next ∷ parts) = let rest = whole_few (next ∷ parts) in omega (arith, rest)

lines_few : (bytes : List ℕ) → length (lines bytes) ≤ length bytes + 1
lines_few bytes =
    let parts = slice_split is_newline bytes in
    let mapped = length-map (whole_lines parts) strip_return in
    let whole = whole_few parts in
    let split = length-slice_split is_newline bytes in
    let counted = count_by-le-length is_newline bytes in
    omega (arith, mapped, whole, split, counted)

taken_few : (test : List ℕ → Bool) (ls : List (List ℕ)) → length (take_while test ls) ≤ length ls
taken_few test ls = let taken = length-take (prefix_len test ls) ls in omega (arith, taken)

front_few : (input : List ℕ) → length input ≤ LONGEST_INPUT → length (front_lines (lines input)) ≤ LONGEST_INPUT + 1
front_few input short =
    let all = lines_few input in
    let front = taken_few (λ l. not (is_only (codes "history") l)) (lines input) in
    omega (arith, short, all, front)

-- the number of the first line of a schedule fits, and that of a history
pub schedule_fits : (input : List ℕ) → length input ≤ LONGEST_INPUT → schedule_first input ≤ 2 ^ 31
schedule_fits input short =
    let front = front_few input short in
    let world = taken_few (λ l. not (is_only (codes "schedule") l)) (front_lines (lines input)) in
    omega (arith, front, world)

pub history_fits : (input : List ℕ) → length input ≤ LONGEST_INPUT → history_first input ≤ 2 ^ 31
history_fits input short = let front = front_few input short in omega (arith, front)
