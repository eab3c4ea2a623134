-- words that are listed have numbers in the order in which they come first
use Rattle.std.proofs.Common.{◌≡◌, ◌⊎◌, inl, inr, ◌++◌, ℕ, ◌+◌, ◌<◌, Bool, true, false, cond, List, [], ◌∷◌, length, refl, sym, ap, ◌∙◌, subst, Option, Some, None}
use Rattle.std.specs.Prelude.{is_some}
use Rattle.std.specs.Option.{option_or}
use Rattle.script_words.specs.Words.{Word, is_same}
use Rattle.script_reader.specs.Names.{Table, number_in, noted}
use Rattle.script_reader.specs.Files.{listed}
use Rattle.script_laws.specs.Writable.{AreInOrder}
use Rattle.script_laws.proofs.Words.{words_same}
use Rattle.script_laws.proofs.Tables.{lookup-append, noted_length, IsListed, noted_listed}

-- the numbers of some words
abbrev pub AreNumbers : Table → List Word → List ℕ → Type 0
AreNumbers t [] [] = Unit {0}
AreNumbers t (w ∷ ws) (n ∷ ns) = (number_in t w ≡ Some n) × AreNumbers t ws ns
AreNumbers t _ _ = ⊥

pub numbers-append : (t : Table) (ws vs : List Word) (ns ms : List ℕ) → AreNumbers t ws ns → AreNumbers t vs ms → AreNumbers t (ws ++ vs) (ns ++ ms)
numbers-append t [] vs [] ms a b = b
numbers-append t (w ∷ ws) vs (n ∷ ns) ms a b = (a.0, numbers-append t ws vs ns ms a.1 b)
numbers-append t [] vs (n ∷ ns) ms a b = absurd a
numbers-append t (w ∷ ws) vs [] ms a b = absurd a

-- a number stays
pub noted_still : (t : Table) (word : Word) (k : ℕ) (w : Word) (m : ℕ) → number_in t w ≡ Some m → number_in (noted t word k) w ≡ Some m
noted_still t word k w m e = go (is_some (number_in t word))
  where
    go : (b : Bool) → number_in (cond b t (t ++ (word, k) ∷ [])) w ≡ Some m
    go true = e
    go false = lookup-append (is_same w) t ((word, k) ∷ []) ∙ ap (λ (o : Option ℕ). option_or o (number_in ((word, k) ∷ []) w)) e

pub listed_still : (t : Table) (words : List Word) (w : Word) (m : ℕ) → number_in t w ≡ Some m → number_in (listed t words) w ≡ Some m
unfolding listed
listed_still t [] w m e = e
listed_still t (word ∷ words) w m e = listed_still (noted t word (length t)) words w m (noted_still t word (length t) w m e)

pub noted_new : (t : Table) (word : Word) (k : ℕ) → number_in t word ≡ None → number_in (noted t word k) word ≡ Some k
noted_new t word k e =
    rw (e, lookup-append (is_same word) t ((word, k) ∷ []), e, words_same word word refl) refl

pub listed-append : (t : Table) (a b : List Word) → listed (listed t a) b ≡ listed t (a ++ b)
unfolding listed
listed-append t [] b = refl
listed-append t (w ∷ a) b = listed-append (noted t w (length t)) a b

some_number : (a b : ℕ) → ◌≡◌ {A = Option ℕ} (Some a) (Some b) → a ≡ b
some_number a b e = cc

pub in_order : (t : Table) (words : List Word) (ns : List ℕ) → IsListed t → AreNumbers (listed t words) words ns → AreInOrder (length t) ns (length (listed t words))
unfolding listed
in_order t [] [] l a = refl
in_order t [] (n ∷ ns) l a = absurd a
in_order t (w ∷ ws) [] l a = absurd a
in_order t (w ∷ ws) (n ∷ ns) l a = go (number_in t w) refl (in_order (noted t w (length t)) ws ns (noted_listed t w l) a.1)
  where
    final : Table
    final = listed (noted t w (length t)) ws

    go : (o : Option ℕ) → number_in t w ≡ o → AreInOrder (length (noted t w (length t))) ns (length final) → ((n < length t) × AreInOrder (length t) ns (length final)) ⊎ ((n ≡ length t) × AreInOrder (length t + 1) ns (length final))
    go (Some m) e ih =
        let still : number_in final w ≡ Some m = listed_still (noted t w (length t)) ws w m (noted_still t w (length t) w m e) in
        let is : n ≡ m = some_number n m (sym a.0 ∙ still) in
        let same : length (noted t w (length t)) ≡ length t = ap (λ (o : Option ℕ). length (cond (is_some o) t (t ++ (w, length t) ∷ []))) e in
        inl (subst (λ k. k < length t) (sym is) (l.below.each w m e), subst (λ k. AreInOrder k ns (length final)) same ih)
    go None e ih =
        let now : number_in final w ≡ Some (length t) = listed_still (noted t w (length t)) ws w (length t) (noted_new t w (length t) e) in
        inr (some_number n (length t) (sym a.0 ∙ now), subst (λ k. AreInOrder k ns (length final)) (noted_length t w e) ih)
