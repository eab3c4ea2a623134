-- words that are written are the words that are read
use Rattle.std.proofs.Common.{◌≡◌, ℕ, ◌-◌, ◌<◌, nat_lt, Bool, true, false, cond, not, ◌==◌, ◌&&◌, List, [], ◌∷◌, ◌++◌, length, take, filter, refl, ap, sym, ◌∙◌, arith, append-nil}
use Rattle.std.proofs.lemmas.Bool.{and_parts}
use Rattle.std.specs.List.{All, list_all, slice_split, flat_map}
use Rattle.std.proofs.lemmas.List.Elements.{All-nil, All-cons, All-append}
use Rattle.std.proofs.lemmas.List.Splits.{slice_split_at, slice_split_none}
use Rattle.std.proofs.lemmas.List.Concat.{flat_map-cons}
use Rattle.std.proofs.lemmas.List.Folds.{list_all-append}
use Rattle.std.proofs.lemmas.Bool.Decides.{nat_tests}
use Rattle.byte_ends.specs.Text.{is_blank, is_newline, words, strip_return}
use Rattle.text_laws.specs.Plain.{is_visible, is_plain, are_plain}
use Rattle.text_laws.proofs.Lines.{IsLine}

abbrev pub Words : Type 0
Words = List (List ℕ)

visible-not_blank : (b : ℕ) → is_visible b ≡ true → is_blank b ≡ false
visible-not_blank b h = grind (arith, nat_tests)

visible-not_newline : (b : ℕ) → is_visible b ≡ true → is_newline b ≡ false
visible-not_newline b h = grind (arith, nat_tests)

-- what fails of each visible byte fails of each byte of a word
visible-fails : (p : ℕ → Bool) (word : List ℕ) → ((b : ℕ) → is_visible b ≡ true → p b ≡ false) → list_all is_visible word ≡ true → All (λ b. p b ≡ false) word
visible-fails p [] low h = All-nil (λ b. p b ≡ false)
visible-fails p (b ∷ bs) low h =
    let parts = and_parts (is_visible b) (list_all is_visible bs) h in
    All-cons (λ b. p b ≡ false) b bs (low b parts.0) (visible-fails p bs low parts.1)

-- a part that isn't empty is a word
kept : (word : List ℕ) (parts : Words) → 0 < length word → filter (λ w. not (length w == 0)) (word ∷ parts) ≡ word ∷ filter (λ w. not (length w == 0)) parts
kept [] parts h = absurd (omega arith)
kept (b ∷ bs) parts h = grind (arith, nat_tests)

some : (word : List ℕ) → is_plain word ≡ true → 0 < length word
some word h = let parts = and_parts (nat_lt 0 (length word)) (list_all is_visible word) h in grind (arith, nat_tests)

-- the word before a blank
pub words-blank : (word rest : List ℕ) → is_plain word ≡ true → words (word ++ 32 ∷ rest) ≡ word ∷ words rest
words-blank word rest h =
    let whole = visible-fails is_blank word visible-not_blank ((and_parts (nat_lt 0 (length word)) (list_all is_visible word) h).1) in
    ap (filter (λ w. not (length w == 0))) (slice_split_at is_blank word 32 rest whole refl)
    ∙ kept word (slice_split is_blank rest) (some word h)

-- a blank at the beginning
pub words-front : (rest : List ℕ) → words (32 ∷ rest) ≡ words rest
words-front rest = refl

-- a single word
pub words-one : (word : List ℕ) → is_plain word ≡ true → words word ≡ word ∷ []
words-one word h =
    let whole = visible-fails is_blank word visible-not_blank ((and_parts (nat_lt 0 (length word)) (list_all is_visible word) h).1) in
    ap (filter (λ w. not (length w == 0))) (slice_split_none is_blank word whole)
    ∙ kept word [] (some word h)

-- the words of words that were written one space apart
pub words-spaced : (word : List ℕ) (ws : Words) → is_plain word ≡ true → are_plain ws ≡ true → words (word ++ flat_map (λ w. 32 ∷ w) ws) ≡ word ∷ ws
words-spaced word [] first rest = ap words (append-nil word) ∙ words-one word first
words-spaced word (w ∷ ws) first rest =
    let parts = and_parts (is_plain w) (are_plain ws) rest in
    ap (λ (t : List ℕ). words (word ++ t)) (flat_map-cons (λ (w : List ℕ). 32 ∷ w) w ws)
    ∙ words-blank word (w ++ flat_map (λ w. 32 ∷ w) ws) first
    ∙ ap (λ (ws : Words). word ∷ ws) (words-spaced w ws parts.0 parts.1)

-- words written one space apart, the first one too, are told apart
pub spaced-same : (vs ws : Words) → are_plain vs ≡ true → are_plain ws ≡ true → flat_map (λ w. 32 ∷ w) vs ≡ flat_map (λ w. 32 ∷ w) ws → vs ≡ ws
spaced-same vs ws hv hw e = sym (spaced-read vs hv) ∙ ap words e ∙ spaced-read ws hw where
  spaced-read : (ws : Words) → are_plain ws ≡ true → words (flat_map (λ w. 32 ∷ w) ws) ≡ ws
  spaced-read [] h = refl
  spaced-read (w ∷ ws) h =
      let parts = and_parts (is_plain w) (are_plain ws) h in
      ap words (flat_map-cons (λ (w : List ℕ). 32 ∷ w) w ws) ∙ words-spaced w ws parts.0 parts.1

spaced-fails : (p : ℕ → Bool) (ws : Words) → ((b : ℕ) → is_visible b ≡ true → p b ≡ false) → p 32 ≡ false → are_plain ws ≡ true → All (λ b. p b ≡ false) (flat_map (λ w. 32 ∷ w) ws)
spaced-fails p [] low space h = All-nil (λ b. p b ≡ false)
spaced-fails p (w ∷ ws) low space h =
    let parts = and_parts (is_plain w) (are_plain ws) h in
    let word = visible-fails p w low ((and_parts (nat_lt 0 (length w)) (list_all is_visible w) parts.0).1) in
    All-append (λ b. p b ≡ false) (32 ∷ w) (flat_map (λ w. 32 ∷ w) ws) (All-cons (λ b. p b ≡ false) 32 w space word) (spaced-fails p ws low space parts.1)

-- whether a byte is a carriage return
is_return : ℕ → Bool
is_return b = b == 13

visible-not_return : (b : ℕ) → is_visible b ≡ true → is_return b ≡ false
unfolding is_return
visible-not_return b h = grind (arith, nat_tests)

space-not_return : is_return 32 ≡ false
unfolding is_return
space-not_return = refl

-- a line without a carriage return keeps its end
return-kept : (line : List ℕ) → All (λ b. is_return b ≡ false) line → strip_return line ≡ line
unfolding is_return
return-kept [] all = refl
return-kept (b ∷ bs) all = ap (λ t. cond t (take (length (b ∷ bs) - 1) (b ∷ bs)) (b ∷ bs)) (all (length (b ∷ bs) - 1) 0 (omega arith))

-- words written one space apart are a line
pub line-spaced : (word : List ℕ) (ws : Words) → is_plain word ≡ true → are_plain ws ≡ true → IsLine (word ++ flat_map (λ w. 32 ∷ w) ws)
line-spaced word ws first rest =
    let bytes = (and_parts (nat_lt 0 (length word)) (list_all is_visible word) first).1 in
    record {
      one = All-append (λ b. is_newline b ≡ false) word (flat_map (λ w. 32 ∷ w) ws) (visible-fails is_newline word visible-not_newline bytes) (spaced-fails is_newline ws visible-not_newline refl rest);
      kept = return-kept (word ++ flat_map (λ w. 32 ∷ w) ws) (All-append (λ b. is_return b ≡ false) word (flat_map (λ w. 32 ∷ w) ws) (visible-fails is_return word visible-not_return bytes) (spaced-fails is_return ws visible-not_return space-not_return rest));
    }

-- whether words that were made one after another are plain
pub plain-append : (vs ws : Words) → are_plain vs ≡ true → are_plain ws ≡ true → are_plain (vs ++ ws) ≡ true
plain-append vs ws hv hw = list_all-append is_plain vs ws ∙ ap (λ b. b && are_plain ws) hv ∙ hw
