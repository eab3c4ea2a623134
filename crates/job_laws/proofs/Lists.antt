-- Elements of lists that stand behind one another.
use Rattle.std.proofs.Common.{◌≡◌, ◌⊎◌, inl, inr, ◌<◌, ◌+◌, ℕ, zero, suc, List, [], ◌∷◌, ◌++◌, length, refl, ap, ◌∙◌, arith, Some, slice_get}
use Rattle.std.specs.Prelude.{map}

-- an element of two lists is one of the first, or one of the second
pub get_append : {X : Type 0} (xs ys : List X) (i : ℕ) (x : X) → slice_get (xs ++ ys) i ≡ Some x
    → ((i < length xs) × (slice_get xs i ≡ Some x)) ⊎ ((k : ℕ) × (i ≡ length xs + k) × (slice_get ys k ≡ Some x))
get_append [] ys i x e = inr (i, omega arith, e)
get_append (y ∷ xs) ys zero x e = inl (omega arith, e)
get_append {X} (y ∷ xs) ys (suc i) x e = go (get_append xs ys i x e)
  where
    go : ((i < length xs) × (slice_get xs i ≡ Some x)) ⊎ ((k : ℕ) × (i ≡ length xs + k) × (slice_get ys k ≡ Some x))
        → ((suc i < suc (length xs)) × (slice_get xs i ≡ Some x)) ⊎ ((k : ℕ) × (suc i ≡ suc (length xs) + k) × (slice_get ys k ≡ Some x))
    go (inl h) = inl (omega (arith, h.0), h.1)
    go (inr h) = inr (h.0, omega (arith, h.1), h.2)

pub get_left : {X : Type 0} (xs ys : List X) (i : ℕ) → i < length xs → slice_get (xs ++ ys) i ≡ slice_get xs i
get_left [] ys i l = let no : ⊥ = omega (arith, l) in absurd no
get_left (x ∷ xs) ys zero l = refl
get_left (x ∷ xs) ys (suc i) l = get_left xs ys i (omega (arith, l))

pub get_right : {X : Type 0} (xs ys : List X) (k : ℕ) → slice_get (xs ++ ys) (length xs + k) ≡ slice_get ys k
get_right [] ys k = let e : 0 + k ≡ k = omega arith in ap (slice_get ys) e
get_right (x ∷ xs) ys k = let e : suc (length xs) + k ≡ suc (length xs + k) = omega arith in ap (slice_get (x ∷ xs ++ ys)) e ∙ get_right xs ys k

pub get_same : {X : Type 0} (xs : List X) (n i : ℕ) → i < length xs → slice_get (map (λ x. n) xs) i ≡ Some n
get_same [] n i l = let no : ⊥ = omega (arith, l) in absurd no
get_same (x ∷ xs) n zero l = refl
get_same (x ∷ xs) n (suc i) l = get_same xs n i (omega (arith, l))

pub only_same : {X : Type 0} (xs : List X) (n i m : ℕ) → slice_get (map (λ x. n) xs) i ≡ Some m → n ≡ m
only_same [] n i m e = cc
only_same (x ∷ xs) n zero m e = cc
only_same (x ∷ xs) n (suc i) m e = only_same xs n i m e

pub there : {X : Type 0} (xs : List X) (i : ℕ) → i < length xs → (x : X) × (slice_get xs i ≡ Some x)
there [] i l = let no : ⊥ = omega (arith, l) in absurd no
there (x ∷ xs) zero l = (x, refl)
there (x ∷ xs) (suc i) l = there xs i (omega (arith, l))
