-- the words of a line, written one space apart, are its words again
use Rattle.std.proofs.Common.{◌≡◌, ℕ, ◌<◌, nat_lt, Bool, true, false, not, ◌==◌, ◌&&◌, List, [], ◌∷◌, ◌++◌, length, filter, refl, ap, ◌∙◌, arith, append-nil, inl, inr}
use Rattle.std.specs.List.{All, list_all, slice_split, onto_first, flat_map}
use Rattle.std.proofs.lemmas.Bool.{and_parts, cases_Bool}
use Rattle.std.proofs.lemmas.Bool.Decides.{nat_tests}
use Rattle.std.proofs.lemmas.List.Elements.{All-nil, All-cons}
use Rattle.std.proofs.lemmas.List.Splits.{slice_split_at, slice_split_none, slice_split-cons_yes, slice_split-cons_no}
use Rattle.std.proofs.lemmas.List.Concat.{flat_map-cons}
use Rattle.byte_ends.specs.Text.{is_blank, words}

abbrev pub Words : Type 0
Words = List (List ℕ)

-- no blank in it
abbrev pub unblank : List ℕ → Bool
unblank word = list_all (λ b. not (is_blank b)) word

-- a word of a line
abbrev pub is_solid : List ℕ → Bool
is_solid word = nat_lt 0 (length word) && unblank word

unblank-onto : (b : ℕ) (parts : Words) → is_blank b ≡ false → list_all unblank parts ≡ true → list_all unblank (onto_first b parts) ≡ true
unblank-onto b [] free h = rw free refl
unblank-onto b (p ∷ ps) free h = rw free h

unblank-split : (line : List ℕ) → list_all unblank (slice_split is_blank line) ≡ true
unblank-split [] = refl
unblank-split (b ∷ bs) =
    elim (cases_Bool (is_blank b)) [
      | inl blank ↦ ap (list_all unblank) (slice_split-cons_yes is_blank b bs blank) ∙ unblank-split bs
      | inr free ↦ ap (list_all unblank) (slice_split-cons_no is_blank b bs free) ∙ unblank-onto b (slice_split is_blank bs) free (unblank-split bs)
    ]

solid-word : (w : List ℕ) → (length w == 0) ≡ false → unblank w ≡ true → is_solid w ≡ true
solid-word w some h = grind (arith, nat_tests)

solid-kept : (parts : Words) → list_all unblank parts ≡ true → list_all is_solid (filter (λ w. not (length w == 0)) parts) ≡ true
solid-kept [] h = refl
solid-kept (p ∷ ps) h =
    let parts = and_parts (unblank p) (list_all unblank ps) h in
    elim (cases_Bool (length p == 0)) [
      | inl none ↦ rw none (solid-kept ps parts.1)
      | inr some ↦ rw some (rw (solid-word p some parts.0) (solid-kept ps parts.1))
    ]

pub solid-words : (line : List ℕ) → list_all is_solid (words line) ≡ true
solid-words line = solid-kept (slice_split is_blank line) (unblank-split line)

free-byte : (b : ℕ) → not (is_blank b) ≡ true → is_blank b ≡ false
free-byte b h = elim (cases_Bool (is_blank b)) [ inl blank ↦ let e = ap not blank in absurd (cc) | inr free ↦ free ]

whole : (word : List ℕ) → unblank word ≡ true → All (λ b. is_blank b ≡ false) word
whole [] h = All-nil (λ b. is_blank b ≡ false)
whole (b ∷ bs) h =
    let parts = and_parts (not (is_blank b)) (unblank bs) h in
    All-cons (λ b. is_blank b ≡ false) b bs (free-byte b parts.0) (whole bs parts.1)

kept : (word : List ℕ) (parts : Words) → 0 < length word → filter (λ w. not (length w == 0)) (word ∷ parts) ≡ word ∷ filter (λ w. not (length w == 0)) parts
kept [] parts h = absurd (omega arith)
kept (b ∷ bs) parts h = grind (arith, nat_tests)

some : (word : List ℕ) → is_solid word ≡ true → 0 < length word
some word h = let parts = and_parts (nat_lt 0 (length word)) (unblank word) h in grind (arith, nat_tests)

read-first : (word : List ℕ) (ws : Words) → is_solid word ≡ true → list_all is_solid ws ≡ true → words (word ++ flat_map (λ w. 32 ∷ w) ws) ≡ word ∷ ws
read-first word [] first rest =
    let free = whole word ((and_parts (nat_lt 0 (length word)) (unblank word) first).1) in
    ap words (append-nil word)
    ∙ ap (filter (λ w. not (length w == 0))) (slice_split_none is_blank word free)
    ∙ kept word [] (some word first)
read-first word (w ∷ ws) first rest =
    let parts = and_parts (is_solid w) (list_all is_solid ws) rest in
    let free = whole word ((and_parts (nat_lt 0 (length word)) (unblank word) first).1) in
    let tail : List ℕ = w ++ flat_map (λ w. 32 ∷ w) ws in
    ap (λ (t : List ℕ). words (word ++ t)) (flat_map-cons (λ (w : List ℕ). 32 ∷ w) w ws)
    ∙ ap (filter (λ w. not (length w == 0))) (slice_split_at is_blank word 32 tail free refl)
    ∙ kept word (slice_split is_blank tail) (some word first)
    ∙ ap (λ (ws : Words). word ∷ ws) (read-first w ws parts.0 parts.1)

-- words written one space apart are read back
pub solid-read : (ws : Words) → list_all is_solid ws ≡ true → words (flat_map (λ w. 32 ∷ w) ws) ≡ ws
solid-read [] h = refl
solid-read (w ∷ ws) h =
    let parts = and_parts (is_solid w) (list_all is_solid ws) h in
    ap words (flat_map-cons (λ (w : List ℕ). 32 ∷ w) w ws) ∙ read-first w ws parts.0 parts.1
