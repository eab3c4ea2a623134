-- lines that are written are the lines that are read
use Rattle.std.proofs.Common.{◌≡◌, ℕ, ◌<◌, false, List, [], ◌∷◌, ◌++◌, length, map, refl, ap, ◌∙◌, arith, append_assoc}
use Rattle.std.specs.List.{All, slice_split, flat_map}
use Rattle.std.proofs.lemmas.List.Splits.{slice_split_at, length-slice_split}
use Rattle.std.proofs.lemmas.List.Concat.{flat_map-cons}
use Rattle.byte_ends.specs.Text.{is_newline, lines, whole_lines, strip_return}

-- no byte is a newline
abbrev pub IsOneLine : List ℕ → Type 0
IsOneLine line = All (λ b. is_newline b ≡ false) line

-- a line that is read as it is written: no newline in it, and no carriage return at its end
pub record IsLine (line : List ℕ) : Type 0 where
  pub one : IsOneLine line
  pub kept : strip_return line ≡ line

whole_lines-cons : (x : List ℕ) (parts : List (List ℕ)) → 0 < length parts → whole_lines (x ∷ parts) ≡ x ∷ whole_lines parts
whole_lines-cons x [] h = absurd (omega arith)
whole_lines-cons x (y ∷ parts) h = refl

-- the first line of a text that has a newline
pub lines-newline : (line rest : List ℕ) → IsOneLine line → lines (line ++ 10 ∷ rest) ≡ strip_return line ∷ lines rest
lines-newline line rest one =
    let some = length-slice_split is_newline rest in
    ap (λ (parts : List (List ℕ)). map strip_return (whole_lines parts)) (slice_split_at is_newline line 10 rest one refl)
    ∙ ap (map strip_return) (whole_lines-cons line (slice_split is_newline rest) (omega arith))

-- each of these is written as a line
abbrev pub AreLines : {X : Type 0} → (X → List ℕ) → List X → Type 0
AreLines f [] = Unit {0}
AreLines f (x ∷ xs) = IsLine (f x) × AreLines f xs

-- the lines of lines that were written one after another, and of what stands behind them
pub lines-written : {X : Type 0} (f : X → List ℕ) (xs : List X) (rest : List ℕ) → AreLines f xs
    → lines (flat_map (λ x. f x ++ 10 ∷ []) xs ++ rest) ≡ map f xs ++ lines rest
lines-written f [] rest all = refl
lines-written {X} f (x ∷ xs) rest all =
    let first = all.0 in
    let tail : List ℕ = flat_map (λ x. f x ++ 10 ∷ []) xs in
    ap (λ (t : List ℕ). lines (t ++ rest)) (flat_map-cons (λ (x : X). f x ++ 10 ∷ []) x xs)
    ∙ ap lines (append_assoc (f x ++ 10 ∷ []) tail rest ∙ append_assoc (f x) (10 ∷ []) (tail ++ rest))
    ∙ lines-newline (f x) (tail ++ rest) first.one
    ∙ ap (λ (l : List ℕ). l ∷ lines (tail ++ rest)) first.kept
    ∙ ap (λ (ls : List (List ℕ)). f x ∷ ls) (lines-written f xs rest all.1)
