-- a word is no longer than its line
use Rattle.std.proofs.Common.{◌≡◌, ◌≤◌, ◌<◌, ◌==◌, ℕ, suc, Bool, true, false, not, List, [], ◌∷◌, length, refl, ap, sym, subst, arith}
use Rattle.std.specs.List.{All, slice_split, onto_first}
use Rattle.std.specs.Str.{bytes_eq}
use Rattle.std.proofs.lemmas.List.Elements.{All-nil, All-cons, All-head, All-tail, All-filter}
use Rattle.std.proofs.lemmas.List.Splits.{slice_split-cons_yes, slice_split-cons_no}
use Rattle.std.proofs.lemmas.Slice.Eq.{bytes_eq-Decides}
use Rattle.byte_ends.specs.Text.{is_blank, words}

abbrev IsShort : ℕ → List ℕ → Type 0
IsShort n part = length part ≤ n

longer : (n : ℕ) (parts : List (List ℕ)) → All (IsShort n) parts → All (IsShort (suc n)) parts
longer n [] a = All-nil (IsShort (suc n))
longer n (part ∷ parts) a =
    let here : length part ≤ n = All-head (IsShort n) part parts a in
    All-cons (IsShort (suc n)) part parts (omega arith) (longer n parts (All-tail (IsShort n) part parts a))

with_first : (b n : ℕ) (parts : List (List ℕ)) → All (IsShort n) parts → All (IsShort (suc n)) (onto_first b parts)
with_first b n [] a = All-cons (IsShort (suc n)) (b ∷ []) [] (omega arith) (All-nil (IsShort (suc n)))
with_first b n (part ∷ parts) a =
    let here : length part ≤ n = All-head (IsShort n) part parts a in
    All-cons (IsShort (suc n)) (b ∷ part) parts (omega arith) (longer n parts (All-tail (IsShort n) part parts a))

parts_short : (bs : List ℕ) → All (IsShort (length bs)) (slice_split is_blank bs)
parts_short [] = All-cons (IsShort 0) [] [] (omega arith) (All-nil (IsShort 0))
parts_short (b ∷ bs) = go (is_blank b) refl (parts_short bs)
  where
    go : (c : Bool) → is_blank b ≡ c → All (IsShort (length bs)) (slice_split is_blank bs) → All (IsShort (suc (length bs))) (slice_split is_blank (b ∷ bs))
    go true e rest = subst (All (IsShort (suc (length bs)))) (sym (slice_split-cons_yes is_blank b bs e))
        (All-cons (IsShort (suc (length bs))) [] (slice_split is_blank bs) (omega arith) (longer (length bs) (slice_split is_blank bs) rest))
    go false e rest = subst (All (IsShort (suc (length bs)))) (sym (slice_split-cons_no is_blank b bs e)) (with_first b (length bs) (slice_split is_blank bs) rest)

pub words_short : (line : List ℕ) → All (λ word. length word ≤ length line) (words line)
words_short line = All-filter (λ word. not (length word == 0)) (IsShort (length line)) (slice_split is_blank line) (parts_short line)

-- a first word that is longer than the line is none
pub not_first : (line word first : List ℕ) (rest : List (List ℕ)) → words line ≡ first ∷ rest → length line < length word → bytes_eq first word ≡ false
not_first line word first rest e less = go (bytes_eq first word) refl
  where
    here : length first ≤ length line
    here = All-head (IsShort (length line)) first rest (subst (All (IsShort (length line))) e (words_short line))

    go : (c : Bool) → bytes_eq first word ≡ c → c ≡ false
    go false e = refl
    go true e =
        let same : first ≡ word = (bytes_eq-Decides first word).0 e in
        let long : length first ≡ length word = ap length same in
        absurd (omega (arith, here, long, less))
