-- the number that a script's name has is that of the first line that gives it
use Rattle.std.proofs.Common.{◌≡◌, inl, inr, ℕ, zero, suc, ◌+◌, ◌<◌, List, [], ◌∷◌, refl, sym, ap, ◌∙◌, subst, arith, Option, Some, None}
use Rattle.std.specs.Prelude.{codes, slice_get, map}
use Rattle.byte_ends.specs.Text.{words}
use Rattle.script_words.specs.Words.{Word}
use Rattle.script_reader.specs.Names.{Table, number_in, noted}
use Rattle.script_reader.specs.Files.{words_behind, numbered, gather}
use Rattle.script_laws.proofs.Tables.{noted_from}
use Rattle.script_laws.proofs.Orders.{noted_new}
use Rattle.script_laws.proofs.Numbering.{numbered_still}
use Rattle.script_laws.proofs.Parts.{names_of}
use Rattle.fault_laws.specs.Context.{script_names}
use Rattle.fault_laws.specs.Faults.{IsFirst}

-- a number of words that are numbered on from k
pub record HasFirst (k : ℕ) (words : List Word) (w : Word) (m : ℕ) : Type 0 where
  pub j : ℕ
  pub is : m ≡ k + j
  pub first : IsFirst words w j

same_some : (a b : ℕ) (o : Option ℕ) → o ≡ Some a → o ≡ Some b → a ≡ b
same_some a b o x y = cc

same_word : (a b : Word) → ◌≡◌ {A = Option Word} (Some a) (Some b) → a ≡ b
same_word a b e = cc

no_number : {X : Type 0} (m : ℕ) (o : Option ℕ) → o ≡ None → o ≡ Some m → X
no_number m o x y = absurd (cc)

first_here : (k : ℕ) (word : Word) (words : List Word) (w : Word) (m : ℕ) → w ≡ word → m ≡ k → HasFirst k (word ∷ words) w m
first_here k word words w m s e = record { j = 0; is = omega arith; first = (ap (λ (x : Word). Some x) (sym s), λ i lt. absurd (omega arith)) }

first_later : (k : ℕ) (word : Word) (words : List Word) (w : Word) (m : ℕ) → (w ≡ word → ⊥) → HasFirst (k + 1) words w m → HasFirst k (word ∷ words) w m
first_later k word words w m ne h = record { j = suc h.j; is = omega (arith, h.is); first = (h.first.0, before) }
  where
    before : (i : ℕ) → i < suc h.j → slice_get (word ∷ words) i ≡ Some w → ⊥
    before zero lt e = ne (same_word w word (sym e))
    before (suc i) lt e = h.first.1 i (omega arith) e

pub numbered_first : (t : Table) (k : ℕ) (words : List Word) (w : Word) (m : ℕ) → number_in t w ≡ None → number_in (numbered t k words) w ≡ Some m → HasFirst k words w m
unfolding numbered
numbered_first t k [] w m none e = no_number m (number_in t w) none e
numbered_first t k (word ∷ words) w m none e = go (number_in (noted t word k) w) refl (numbered_first (noted t word k) (k + 1) words w m)
  where
    is_other : number_in (noted t word k) w ≡ None → w ≡ word → ⊥
    is_other n s = no_number k (number_in (noted t word k) w) n (subst (λ (x : Word). number_in (noted t x k) w ≡ Some k) s (noted_new t w k none))

    go : (o : Option ℕ) → number_in (noted t word k) w ≡ o → (number_in (noted t word k) w ≡ None → number_in (numbered (noted t word k) (k + 1) words) w ≡ Some m → HasFirst (k + 1) words w m) → HasFirst k (word ∷ words) w m
    go None n ih = first_later k word words w m (is_other n) (ih n e)
    go (Some x) n ih =
        let same : m ≡ x = same_some m x _ e (numbered_still (noted t word k) (k + 1) words w x n) in
        elim (noted_from t word k w x n) [ inl old ↦ no_number x (number_in t w) none old | inr new ↦ first_here k word words w m new.1 (same ∙ new.0) ]

pub script_first : (lines : List (List ℕ)) (word : Word) (n : ℕ) → number_in (names_of lines).scripts word ≡ Some n → IsFirst (script_names (map words lines)) word n
unfolding gather
script_first lines word n e =
    let h = numbered_first [] 0 (words_behind (codes "script") 1 (map words lines)) word n refl e in
    subst (IsFirst (script_names (map words lines)) word) (none_before h.j n h.is) h.first
  where
    none_before : (j n : ℕ) → n ≡ 0 + j → j ≡ n
    none_before j n e = omega arith
