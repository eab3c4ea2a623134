-- one word of a line after the other: each is read as the form has it, or the fault is that of the first wrong one
use Rattle.std.proofs.Common.{◌≡◌, ◌⊎◌, inl, inr, ℕ, zero, suc, ◌<◌, ◌≤◌, Bool, true, false, cond, List, [], ◌∷◌, length, drop, refl, sym, ap, ◌∙◌, subst, arith, Result, Ok, Err}
use Rattle.std.specs.Prelude.{nat_le}
use Rattle.std.proofs.lemmas.Bool.{leb-true, leb-false}
use Rattle.std.proofs.lemmas.List.Elements.{All-head, All-tail}
use Rattle.script_words.specs.declared.faults.Kind.{Kind}
use Rattle.script_words.specs.declared.faults.Kind.TheVariants.{UnknownWord}
use Rattle.script_words.specs.Words.{Word, Row, ◌>>=◌, is_same, word_at, ended}
use Rattle.script_laws.proofs.Words.{same_words, words_same}
use Rattle.script_laws.proofs.Shapes.{opened, dropped}
use Rattle.fault_laws.specs.Slots.{Slot, Fits, Misfits}
use Rattle.fault_laws.specs.Patterns.{Pattern, ends, needs, may, AreRight, AreWrong}
use Rattle.fault_laws.proofs.Tells.{Tells, tells_ok, tells_err, tells_next, tells_choice, tells_weaker}
use Rattle.fault_laws.proofs.Knows.{AreWords}

-- ---- results
-- a reading, a second one and a third may be put together in either order
pub bind_assoc : {A B C : Type 0} (r : Result A Kind) (f : A → Result B Kind) (g : B → Result C Kind) → ((r >>= f) >>= g) ≡ (r >>= λ x. f x >>= g)
bind_assoc (Ok x) f g = refl
bind_assoc (Err k) f g = refl

-- ---- words by their places
-- a place behind the last word, or a word that is not empty
here : (row : Row) (k : ℕ) → AreWords row → ((word_at row k ≡ []) × (drop k row ≡ [])) ⊎ (¬ (word_at row k ≡ []) × (drop k row ≡ word_at row k ∷ drop (suc k) row))
unfolding word_at
here [] zero are = inl (refl, refl)
here [] (suc k) are = inl (refl, refl)
here (w ∷ ws) zero are = inr (All-head (λ x. ¬ (x ≡ [])) w ws are, refl)
here (w ∷ ws) (suc k) are = here ws k (All-tail (λ x. ¬ (x ≡ [])) w ws are)

-- behind so few words there is one more
left_over : (row : Row) (k : ℕ) → k < length row → (word : Word) × (words : Row) × (drop k row ≡ word ∷ words)
left_over [] k lt = absurd (omega arith)
left_over (w ∷ ws) zero lt = (w, ws, refl)
left_over (w ∷ ws) (suc k) lt = left_over ws k (omega arith)

-- behind all words there is none
none_behind : (row : Row) (k : ℕ) → length row ≤ k → word_at row k ≡ []
unfolding word_at
none_behind [] zero le = refl
none_behind [] (suc k) le = refl
none_behind (w ∷ ws) zero le = absurd (omega arith)
none_behind (w ∷ ws) (suc k) le = none_behind ws k (omega arith)

-- a word that is not empty stands at the place, so the line has more words
more_words : (row : Row) (k : ℕ) → ¬ (word_at row k ≡ []) → nat_le (length row) k ≡ false
more_words row k some = go (nat_le (length row) k) refl
  where
    go : (b : Bool) → nat_le (length row) k ≡ b → nat_le (length row) k ≡ false
    go true e = absurd (some (none_behind row k (leb-true (length row) k e)))
    go false e = e

differ : (a b : Word) → is_same a b ≡ false → ¬ (a ≡ b)
differ a b n e = let y : is_same a b ≡ true = words_same a b e in cc

module _ (rows before : List Row) where
  -- what is read of words is as the form has them
  abbrev pub At : {A : Type 0} → Result A Kind → Pattern → Row → Type 0
  At r form words = Tells r (λ x. AreRight rows before form words) (AreWrong rows before form words)

  -- what is made of it is so too
  pub map_told : {A B : Type 0} (r : Result A Kind) (f : A → B) (form : Pattern) (words : Row) → At r form words → At (r >>= λ x. Ok (f x)) form words
  map_told r f form words told =
      tells_next r (λ x. Ok (f x)) (λ x. AreRight rows before form words) (AreWrong rows before form words) (λ x. AreRight rows before form words) (AreWrong rows before form words) told
      (λ x e right. tells_ok (f x) (λ y. AreRight rows before form words) (AreWrong rows before form words) right) (λ kind w. w)

  module _ (row : Row) (are : AreWords row) where
    -- what is read from a word on
    abbrev pub Reads : {A : Type 0} → Result A Kind → Pattern → ℕ → Type 0
    Reads r form k = At r form (drop k row)

    -- what is read is so by an equation of the words, or of what is read
    here_at : {A : Type 0} (r : Result A Kind) (form : Pattern) (k : ℕ) (words : Row) → drop k row ≡ words → At r form words → Reads r form k
    here_at r form k words e told = subst (At r form) (sym e) told

    pub read_so : {A : Type 0} (r r' : Result A Kind) (form : Pattern) (k : ℕ) → r ≡ r' → Reads r' form k → Reads r form k
    read_so r r' form k e told = subst (λ x. Reads x form k) (sym e) told

    -- what is read of a word at a place and of what follows it
    abbrev pub Behind : {A : Type 0} → Result A Kind → Slot → Pattern → ℕ → Type 0
    Behind r slot form k =
        Tells r (λ x. Fits rows before slot (word_at row k) × AreRight rows before form (drop (suc k) row))
        (λ kind. Misfits rows before slot (word_at row k) kind ⊎ (Fits rows before slot (word_at row k) × AreWrong rows before form (drop (suc k) row) kind))

    -- the word fits
    pub fitting : {A : Type 0} (slot : Slot) (form : Pattern) (k : ℕ) (r : Result A Kind) → Fits rows before slot (word_at row k) → Reads r form (suc k) → Behind r slot form k
    fitting slot form k r fit told = tells_weaker r _ _ _ _ told (λ x right. (fit, right)) (λ kind w. inr (fit, w))

    -- the word does not fit
    pub misfitting : {A : Type 0} (slot : Slot) (form : Pattern) (k : ℕ) (kind : Kind) → Misfits rows before slot (word_at row k) kind → Behind {A = A} (Err kind) slot form k
    misfitting slot form k kind m = tells_err kind _ _ (inl m)

    -- a word is missing, or it is read and then what follows it
    pub needs_all : {A : Type 0} (slot : Slot) (form : Pattern) (k : ℕ) (r : Result A Kind) → (word_at row k ≡ [] → r ≡ Err UnknownWord) → (¬ (word_at row k ≡ []) → Behind r slot form k) → Reads r (needs slot form) k
    needs_all {A} slot form k r none some = elim (here row k are) [
      | inl h ↦ here_at r (needs slot form) k [] h.1 (subst (λ x. At x (needs slot form) []) (sym (none h.0)) (tells_err UnknownWord (λ (x : A). AreRight rows before (needs slot form) []) (AreWrong rows before (needs slot form) []) refl))
      | inr h ↦ here_at r (needs slot form) k (word_at row k ∷ drop (suc k) row) h.1 (some h.0)
    ]

    -- a word that is read by itself, and then what follows it
    pub needs_told : {A B : Type 0} (slot : Slot) (form : Pattern) (k : ℕ) (r : Result A Kind) (f : A → Result B Kind) → (word_at row k ≡ [] → r ≡ Err UnknownWord)
        → (¬ (word_at row k ≡ []) → Tells r (λ x. Fits rows before slot (word_at row k)) (Misfits rows before slot (word_at row k))) → ((x : A) → Reads (f x) form (suc k)) → Reads (r >>= f) (needs slot form) k
    needs_told slot form k r f none word rest =
        needs_all slot form k (r >>= f) (λ e. ap (λ x. x >>= f) (none e)) (λ some.
        tells_next r f (λ x. Fits rows before slot (word_at row k)) (Misfits rows before slot (word_at row k)) _ _ (word some) (λ x e fit. fitting slot form k (f x) fit (rest x)) (λ kind m. inl m))

    -- no word more
    pub ends_told : {A : Type 0} (k : ℕ) (x : A) → Reads (cond (nat_le (length row) k) (Ok x) (Err UnknownWord)) ends k
    ends_told k x = tells_choice (nat_le (length row) k) (Ok x) (Err UnknownWord) (λ x. AreRight rows before ends (drop k row)) (AreWrong rows before ends (drop k row))
        (λ e. here_at (Ok x) ends k [] (dropped row k e) (tells_ok x (λ x. AreRight rows before ends []) (AreWrong rows before ends []) refl))
        (λ e. let m = left_over row k (leb-false (length row) k e) in here_at (Err UnknownWord) ends k (m.0 ∷ m.1) m.2 (tells_err UnknownWord (λ x. AreRight rows before ends (m.0 ∷ m.1)) (AreWrong rows before ends (m.0 ∷ m.1)) refl))

    -- a value, where the line has no word more
    pub ended_told : {A : Type 0} (k : ℕ) (x : A) → Reads (ended row k x) ends k
    unfolding ended
    ended_told k x = ends_told k x

    -- a given word and what follows it, or else another form from the same place on
    pub may_told : {A : Type 0} (given : Word) (then' else' : Pattern) (k : ℕ) (r : Result A Kind) → ¬ (given ≡ [])
        → (is_same (word_at row k) given ≡ true → nat_le (length row) k ≡ false → Reads r then' (suc k)) → (is_same (word_at row k) given ≡ false → Reads r else' k) → Reads r (may given then' else') k
    may_told {A} given then' else' k r full first other = go (is_same (word_at row k) given) refl
      where
        May : Row → Type 0
        May words = At r (may given then' else') words

        with_word : word_at row k ≡ given → ¬ (word_at row k ≡ []) → Reads r then' (suc k) → May (word_at row k ∷ drop (suc k) row)
        with_word w some told = tells_weaker r _ _ _ _ told (λ x right. inl (w, right)) (λ kind wrong. inl (w, wrong))

        without : ¬ (word_at row k ≡ given) → At r else' (word_at row k ∷ drop (suc k) row) → May (word_at row k ∷ drop (suc k) row)
        without n told = tells_weaker r _ _ _ _ told (λ x right. inr (n, right)) (λ kind wrong. inr (n, wrong))

        go : (s : Bool) → is_same (word_at row k) given ≡ s → Reads r (may given then' else') k
        go true e =
            let w : word_at row k ≡ given = same_words (word_at row k) given e in
            let some : ¬ (word_at row k ≡ []) = λ z. full (sym w ∙ z) in
            here_at r (may given then' else') k (word_at row k ∷ drop (suc k) row) (opened row k some) (with_word w some (first e (more_words row k some)))
        go false e = elim (here row k are) [
          | inl h ↦ here_at r (may given then' else') k [] h.1 (subst (At r else') h.1 (other e))
          | inr h ↦ here_at r (may given then' else') k (word_at row k ∷ drop (suc k) row) h.1 (without (differ (word_at row k) given e) (subst (At r else') h.1 (other e)))
        ]

    -- a given word and what follows it, where there is a word more
    pub may_or : {A : Type 0} (given : Word) (then' else' : Pattern) (k : ℕ) (x : A) (r other : Result A Kind) → ¬ (given ≡ [])
        → Reads r then' (suc k) → Reads (cond (nat_le (length row) k) (Ok x) other) else' k
        → Reads (cond (nat_le (length row) k) (Ok x) (cond (is_same (word_at row k) given) r other)) (may given then' else') k
    may_or given then' else' k x r other full first second =
        may_told given then' else' k _ full
        (λ s m. read_so (cond (nat_le (length row) k) (Ok x) (cond (is_same (word_at row k) given) r other)) r then' (suc k) (rw (m, s) refl) first)
        (λ s. read_so (cond (nat_le (length row) k) (Ok x) (cond (is_same (word_at row k) given) r other)) (cond (nat_le (length row) k) (Ok x) other) else' k (rw s refl) second)
