-- the numbers that a file's names have
use Rattle.std.proofs.Common.{◌≡◌, ◌⊎◌, inl, inr, ◌++◌, ℕ, ◌+◌, ◌<◌, ◌≤◌, Bool, true, false, cond, List, [], ◌∷◌, length, length-append, refl, sym, ◌∙◌, subst, arith, Option, Some, None}
use Rattle.std.specs.Prelude.{is_some, codes}
use Rattle.std.specs.Map.{lookup}
use Rattle.std.specs.Option.{option_or}
use Rattle.script_words.specs.Words.{Word, Row, is_same}
use Rattle.script_reader.specs.Names.{Table, number_in, noted}
use Rattle.script_reader.specs.Files.{words_behind, numbered, listed, gather}
use Rattle.script_laws.proofs.Words.{same_words}

pub lookup-append : (test : Word → Bool) (a b : Table) → lookup test (a ++ b) ≡ option_or (lookup test a) (lookup test b)
lookup-append test [] b = refl
lookup-append test (e ∷ es) b = step (test e.0) e.1 (lookup-append test es b)
  where
    step : (c : Bool) (n : ℕ) → lookup test (es ++ b) ≡ option_or (lookup test es) (lookup test b) → cond c (Some n) (lookup test (es ++ b)) ≡ option_or (cond c (Some n) (lookup test es)) (lookup test b)
    step true n h = refl
    step false n h = h

-- a number is an old one, or that of the word that is new
pub noted_from : (t : Table) (word : Word) (n : ℕ) (w : Word) (m : ℕ) → number_in (noted t word n) w ≡ Some m → (number_in t w ≡ Some m) ⊎ ((m ≡ n) × (w ≡ word))
noted_from t word n w m e = go (is_some (number_in t word)) e
  where
    new : (o : Option ℕ) (b : Bool) → is_same w word ≡ b → option_or o (cond b (Some n) None) ≡ Some m → (o ≡ Some m) ⊎ ((m ≡ n) × (w ≡ word))
    new (Some k) b s h = inl h
    new None true s h = inr (let is : n ≡ m = cc in sym is, same_words w word s)
    new None false s h = cc

    go : (b : Bool) → number_in (cond b t (t ++ (word, n) ∷ [])) w ≡ Some m → (number_in t w ≡ Some m) ⊎ ((m ≡ n) × (w ≡ word))
    go true h = inl h
    go false h = new (number_in t w) (is_same w word) refl (sym (lookup-append (is_same w) t ((word, n) ∷ [])) ∙ h)

-- every number is below a bound
pub record AreBelow (t : Table) (bound : ℕ) : Type 0 where
  pub each : (w : Word) (m : ℕ) → number_in t w ≡ Some m → m < bound

noted_below : (t : Table) (word : Word) (n bound : ℕ) → AreBelow t bound → n < bound → AreBelow (noted t word n) bound
noted_below t word n bound below lt = record { each = λ w m e. elim (noted_from t word n w m e) [ inl h ↦ below.each w m h | inr h ↦ subst (λ k. k < bound) (sym h.0) lt ] }

more_below : (t : Table) (a b : ℕ) → a ≤ b → AreBelow t a → AreBelow t b
more_below t a b le below = record { each = λ w m e. let h = below.each w m e in omega arith }

pub numbered_below : (t : Table) (n : ℕ) (words : List Word) → AreBelow t n → AreBelow (numbered t n words) (n + length words)
unfolding numbered
numbered_below t n [] below = more_below t n (n + 0) (omega arith) below
numbered_below t n (word ∷ words) below =
    let e : (n + 1) + length words ≡ n + length (word ∷ words) = omega arith in
    subst (λ k. AreBelow (numbered (noted t word n) (n + 1) words) k) e (numbered_below (noted t word n) (n + 1) words (noted_below t word n (n + 1) (more_below t n (n + 1) (omega arith) below) (omega arith)))

-- every number is below the table's length, and no two words have one number
pub record IsListed (t : Table) : Type 0 where
  pub below : AreBelow t (length t)
  pub one : (a b : Word) (n : ℕ) → number_in t a ≡ Some n → number_in t b ≡ Some n → a ≡ b

pub noted_length : (t : Table) (word : Word) → (number_in t word ≡ None) → length (noted t word (length t)) ≡ length t + 1
noted_length t word e = rw e (length-append t ((word, length t) ∷ []))

pub noted_listed : (t : Table) (word : Word) → IsListed t → IsListed (noted t word (length t))
noted_listed t word listed = go (number_in t word) refl
  where
    one : (a b : Word) (n : ℕ) → (number_in t a ≡ Some n) ⊎ ((n ≡ length t) × (a ≡ word)) → (number_in t b ≡ Some n) ⊎ ((n ≡ length t) × (b ≡ word)) → a ≡ b
    one a b n (inl x) (inl y) = listed.one a b n x y
    one a b n (inl x) (inr y) = let lt = listed.below.each a n x in absurd (omega (arith, y.0))
    one a b n (inr x) (inl y) = let lt = listed.below.each b n y in absurd (omega (arith, x.0))
    one a b n (inr x) (inr y) = x.1 ∙ sym y.1

    go : (o : Option ℕ) → number_in t word ≡ o → IsListed (noted t word (length t))
    go (Some k) e = rw e listed
    go None e =
        let len = noted_length t word e in
        record {
          below = subst (AreBelow (noted t word (length t))) (sym len) (noted_below t word (length t) (length t + 1) (more_below t (length t) (length t + 1) (omega arith) listed.below) (omega arith));
          one = λ a b n x y. one a b n (noted_from t word (length t) a n x) (noted_from t word (length t) b n y);
        }

pub listed_listed : (t : Table) (words : List Word) → IsListed t → IsListed (listed t words)
unfolding listed
listed_listed t [] l = l
listed_listed t (word ∷ words) l = listed_listed (noted t word (length t)) words (noted_listed t word l)

none_below : (bound : ℕ) → AreBelow [] bound
none_below bound = record { each = λ w m e. cc }

pub none_listed : IsListed []
none_listed = record { below = none_below 0; one = λ a b n x y. cc }

-- the names of a file
pub variables_listed : (rows : List Row) → IsListed (gather rows).variables
unfolding gather
variables_listed rows = listed_listed (listed [] (words_behind (codes "fork") 1 rows)) (words_behind (codes "start") 3 rows) (listed_listed [] (words_behind (codes "fork") 1 rows) none_listed)

pub scripts_below : (rows : List Row) → AreBelow (gather rows).scripts (length (words_behind (codes "script") 1 rows))
unfolding gather
scripts_below rows = subst (AreBelow (numbered [] 0 (words_behind (codes "script") 1 rows))) (omega arith) (numbered_below [] 0 (words_behind (codes "script") 1 rows) (none_below 0))
