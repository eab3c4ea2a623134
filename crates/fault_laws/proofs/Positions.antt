-- the number of a name is the first place where it stands
use Rattle.std.proofs.Common.{◌≡◌, ◌⊎◌, inl, inr, ◌++◌, ℕ, zero, suc, ◌+◌, ◌<◌, ◌≤◌, true, false, ◌==◌, List, [], ◌∷◌, length, refl, sym, ap, ◌∙◌, subst, arith, Option, Some, None}
use Rattle.std.specs.Prelude.{slice_get, Contains}
use Rattle.std.proofs.lemmas.Option.{slice_get_within, get_or_from_slice_get, slice_get-get_or}
use Rattle.std.proofs.lemmas.Bool.{eqb-false}
use Rattle.script_words.specs.Words.{Word}
use Rattle.script_reader.specs.Names.{Table, number_in, noted}
use Rattle.script_reader.specs.Lines.{is_numbered}
use Rattle.script_reader.specs.Files.{numbered, listed}
use Rattle.script_laws.proofs.Tables.{noted_from}
use Rattle.script_laws.proofs.Orders.{noted_new, noted_still, listed_still}
use Rattle.script_laws.proofs.Numbering.{numbered_still}
use Rattle.script_laws.proofs.Starts.{numbered_here}
use Rattle.script_laws.proofs.Tabled.{numbered_from, slice_still}

some_word : (a b : Word) → ◌≡◌ {A = Option Word} (Some a) (Some b) → a ≡ b
some_word a b e = cc

some_number : (a b : ℕ) → ◌≡◌ {A = Option ℕ} (Some a) (Some b) → a ≡ b
some_number a b e = cc

-- ---- places of words
pub contains_at : (words : List Word) (w : Word) (m : ℕ) → slice_get words m ≡ Some w → Contains words w
contains_at words w m e = (m, slice_get_within words m w e, get_or_from_slice_get words m w w e)

pub place_of : (words : List Word) (w : Word) → Contains words w → (m : ℕ) × (slice_get words m ≡ Some w)
place_of words w c = (c.0, slice_get-get_or words c.0 w c.1 ∙ ap (λ (x : Word). Some x) c.2)

-- a place among the first words
front_at : (front back : List Word) (m : ℕ) (w : Word) → m < length front → slice_get (front ++ back) m ≡ Some w → slice_get front m ≡ Some w
front_at [] back m w lt e = absurd (omega arith)
front_at (x ∷ front) back zero w lt e = e
front_at (x ∷ front) back (suc m) w lt e = front_at front back m w (omega arith) e

-- the word that comes next
pub seam_at : (front back : List Word) (w : Word) → slice_get (front ++ w ∷ back) (length front) ≡ Some w
seam_at [] back w = refl
seam_at (x ∷ front) back w = seam_at front back w

-- ---- numbers of words
-- what is known of the number of a word that stands at a place
abbrev HasNumber : Table → ℕ → Word → ℕ → Type 0
HasNumber t k w m = (n : ℕ) × (n ≤ m) × (number_in t w ≡ Some (k + n))

-- a word that stands at a place has the number of that place or of an earlier one
numbered_by : (t : Table) (k : ℕ) (words : List Word) (w : Word) (m : ℕ) → number_in t w ≡ None → slice_get words m ≡ Some w → HasNumber (numbered t k words) k w m
unfolding numbered
numbered_by t k [] w m none e = cc
numbered_by t k (word ∷ words) w m none e = go (number_in (noted t word k) w) refl m e (numbered_by (noted t word k) (k + 1) words w)
  where
    same : (k j : ℕ) → j ≡ k → j ≡ k + 0
    same k j e = omega arith

    more : (k n : ℕ) → k + 1 + n ≡ k + suc n
    more k n = omega arith

    go : (o : Option ℕ) → number_in (noted t word k) w ≡ o → (m : ℕ) → slice_get (word ∷ words) m ≡ Some w
        → ((m : ℕ) → number_in (noted t word k) w ≡ None → slice_get words m ≡ Some w → HasNumber (numbered (noted t word k) (k + 1) words) (k + 1) w m)
        → HasNumber (numbered (noted t word k) (k + 1) words) k w m
    go (Some j) h m e ih = elim (noted_from t word k w j h) [
      | inl old ↦ absurd (cc)
      | inr new ↦ (0, omega arith, numbered_still (noted t word k) (k + 1) words w j h ∙ ap (λ (n : ℕ). Some n) (same k j new.0))
    ]
    go None h zero e ih =
        let is : word ≡ w = some_word word w e in
        let here : number_in (noted t word k) w ≡ Some k = subst (λ (x : Word). number_in (noted t word k) x ≡ Some k) is (noted_new t word k (subst (λ (x : Word). number_in t x ≡ None) (sym is) none)) in
        absurd (cc)
    go None h (suc m) e ih = let l = ih m h e in (suc l.0, omega (arith, l.1), l.2 ∙ ap (λ (n : ℕ). Some n) (more k l.0))

-- a word stands where its number says
pub numbered_there : (words : List Word) (w : Word) (n : ℕ) → number_in (numbered [] 0 words) w ≡ Some n → slice_get words n ≡ Some w
numbered_there words w n e = elim (numbered_from [] 0 words w n e) [
  | inl h ↦ absurd (cc)
  | inr h ↦ ap (slice_get words) (same n h.0 h.1) ∙ h.2
]
  where
    same : (n j : ℕ) → n ≡ 0 + j → n ≡ j
    same n j e = omega arith

-- and nowhere before
pub numbered_first : (words : List Word) (w : Word) (n m : ℕ) → number_in (numbered [] 0 words) w ≡ Some n → slice_get words m ≡ Some w → n ≤ m
numbered_first words w n m e h =
    let l = numbered_by [] 0 words w m refl h in
    let is : n ≡ 0 + l.0 = some_number n (0 + l.0) (sym e ∙ l.2) in
    omega (arith, l.1)

-- a word that has no number stands nowhere
pub numbered_not : (words : List Word) (w : Word) → number_in (numbered [] 0 words) w ≡ None → ¬ Contains words w
numbered_not words w e c = let p = place_of words w c in let l = numbered_by [] 0 words w p.0 refl p.1 in absurd (let h = l.2 in cc)

pub numbered_contained : (words : List Word) (w : Word) (n : ℕ) → number_in (numbered [] 0 words) w ≡ Some n → Contains words w
numbered_contained words w n e = contains_at words w n (numbered_there words w n e)

-- ---- names given earlier
module _ (front back all : List Word) (is : all ≡ front ++ back) where
  -- a number below the count of the first words is that of one of them
  pub numbered_front : (w : Word) (n : ℕ) → number_in (numbered [] 0 all) w ≡ Some n → n < length front → Contains front w
  numbered_front w n e lt = contains_at front w n (front_at front back n w lt (ap (λ (ws : List Word). slice_get ws n) (sym is) ∙ numbered_there all w n e))

  -- another number is of none of them
  pub numbered_back : (w : Word) (n : ℕ) → number_in (numbered [] 0 all) w ≡ Some n → length front ≤ n → ¬ Contains front w
  numbered_back w n e le c =
      let p = place_of front w c in
      let lt : p.0 < length front = slice_get_within front p.0 w p.1 in
      let first : n ≤ p.0 = numbered_first all w n p.0 e (ap (λ (ws : List Word). slice_get ws p.0) is ∙ slice_still front back p.0 w p.1) in
      absurd (omega arith)

  pub unnumbered_front : (w : Word) → number_in (numbered [] 0 all) w ≡ None → ¬ Contains front w
  unnumbered_front w e c = let p = place_of front w c in numbered_not all w e (contains_at all w p.0 (ap (λ (ws : List Word). slice_get ws p.0) is ∙ slice_still front back p.0 w p.1))

-- ---- the name that a line gives
module _ (front back all : List Word) (here : Word) (is : all ≡ front ++ here ∷ back) where
  stands : slice_get all (length front) ≡ Some here
  stands = ap (λ (ws : List Word). slice_get ws (length front)) is ∙ seam_at front back here

  -- it has the number of its place where no earlier line gives it
  pub numbered_new : is_numbered (numbered [] 0 all) here (length front) ≡ true → ¬ Contains front here
  numbered_new e = numbered_back front (here ∷ back) all is here (length front) (numbered_here (numbered [] 0 all) here (length front) e) (omega arith)

  -- and otherwise an earlier line gives it
  pub numbered_old : is_numbered (numbered [] 0 all) here (length front) ≡ false → Contains front here
  unfolding is_numbered
  numbered_old e = go (number_in (numbered [] 0 all) here) refl
    where
      go : (o : Option ℕ) → number_in (numbered [] 0 all) here ≡ o → Contains front here
      go None h = absurd (numbered_not all here h (contains_at all here (length front) stands))
      go (Some n) h =
          let differs : (n == length front) ≡ false = rw h at e in
          let first : n ≤ length front = numbered_first all here n (length front) h stands in
          let other : n ≡ length front → ⊥ = eqb-false n (length front) differs in
          numbered_front front (here ∷ back) all is here n h (below n (length front) first other)
        where
          below : (n m : ℕ) → n ≤ m → (n ≡ m → ⊥) → n < m
          below n m le other = omega (arith, other)

-- ---- words that are listed
-- a number is an old one, or that of one of the words
listed_from : (t : Table) (words : List Word) (w : Word) (n : ℕ) → number_in (listed t words) w ≡ Some n → (number_in t w ≡ Some n) ⊎ Contains words w
unfolding listed
listed_from t [] w n e = inl e
listed_from t (word ∷ words) w n e = elim (listed_from (noted t word (length t)) words w n e) [
  | inl h ↦ elim (noted_from t word (length t) w n h) [ inl old ↦ inl old | inr new ↦ inr (contains_at (word ∷ words) w 0 (ap (λ (x : Word). Some x) (sym new.1))) ]
  | inr c ↦ let p = place_of words w c in inr (contains_at (word ∷ words) w (suc p.0) p.1)
]

pub listed_contained : (words : List Word) (w : Word) (n : ℕ) → number_in (listed [] words) w ≡ Some n → Contains words w
listed_contained words w n e = elim (listed_from [] words w n e) [ inl old ↦ absurd (cc) | inr c ↦ c ]

-- a table has a number for a word that it notes
noted_has : (t : Table) (word : Word) (k : ℕ) → (n : ℕ) × (number_in (noted t word k) word ≡ Some n)
noted_has t word k = go (number_in t word) refl
  where
    go : (o : Option ℕ) → number_in t word ≡ o → (n : ℕ) × (number_in (noted t word k) word ≡ Some n)
    go (Some n) e = (n, noted_still t word k word n e)
    go None e = (k, noted_new t word k e)

listed_has : (t : Table) (words : List Word) (w : Word) (m : ℕ) → slice_get words m ≡ Some w → (n : ℕ) × (number_in (listed t words) w ≡ Some n)
unfolding listed
listed_has t [] w m e = cc
listed_has t (word ∷ words) w zero e =
    let is : word ≡ w = some_word word w e in
    let h = noted_has t word (length t) in
    subst (λ (x : Word). (n : ℕ) × (number_in (listed (noted t word (length t)) words) x ≡ Some n)) is (h.0, listed_still (noted t word (length t)) words word h.0 h.1)
listed_has t (word ∷ words) w (suc m) e = listed_has (noted t word (length t)) words w m e

-- a word that has no number is none of them
pub listed_not : (words : List Word) (w : Word) → number_in (listed [] words) w ≡ None → ¬ Contains words w
listed_not words w e c = let p = place_of words w c in let h = listed_has [] words w p.0 p.1 in absurd (let there = h.1 in cc)
