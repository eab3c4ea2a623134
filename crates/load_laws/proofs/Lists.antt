-- what is made of the numbers below another
use Rattle.std.proofs.Common.{◌≡◌, ◌⊎◌, inl, inr, ◌++◌, ℕ, zero, suc, ◌+◌, ◌<◌, ◌≤◌, List, [], ◌∷◌, length, length-append, map, refl, sym, ap, ◌∙◌, subst, arith, Some, slice_get, All, take, eq-or-lt_of_le}
use Rattle.std.proofs.lemmas.List.{map-append}
use Rattle.std.proofs.lemmas.List.Elements.{All-nil, All-push}
use Rattle.unix_calls.specs.Valid.{EachAt}
use Rattle.load_laws.specs.Worlds.{firsts}

pub length-firsts : {X : Type 0} (f : ℕ → X) (n : ℕ) → length (firsts f n) ≡ n
length-firsts f zero = refl
length-firsts f (suc n) = let l = length-firsts f n in let s = length-append (firsts f n) (f n ∷ []) in omega arith

pub map-firsts : {X Y : Type 0} (g : X → Y) (f : ℕ → X) (n : ℕ) → map g (firsts f n) ≡ firsts (λ i. g (f i)) n
map-firsts g f zero = refl
map-firsts {X} {Y} g f (suc n) = map-append g (firsts f n) (f n ∷ []) ∙ ap (λ (ys : List Y). ys ++ g (f n) ∷ []) (map-firsts g f n)

-- what holds of each that is made holds of all
pub All-firsts : {X : Type 0} (P : X → Type 0) (f : ℕ → X) (n : ℕ) → ((i : ℕ) → i < n → P (f i)) → All P (firsts f n)
All-firsts P f zero h = All-nil P
All-firsts P f (suc n) h = All-push P (firsts f n) (f n) (All-firsts P f n (λ i lt. h i (omega arith))) (h n (omega arith))

pub get-left : {X : Type 0} (xs ys : List X) (k : ℕ) (x : X) → slice_get xs k ≡ Some x → slice_get (xs ++ ys) k ≡ Some x
get-left [] ys k x e = cc
get-left (y ∷ xs) ys zero x e = e
get-left (y ∷ xs) ys (suc k) x e = get-left xs ys k x e

pub get-right : {X : Type 0} (xs ys : List X) (k j : ℕ) → j ≡ length xs + k → slice_get (xs ++ ys) j ≡ slice_get ys k
get-right [] ys k j e = ap (slice_get ys) (omega arith)
get-right (x ∷ xs) ys k zero e = absurd (omega arith)
get-right (x ∷ xs) ys k (suc j) e = get-right xs ys k j (omega arith)

-- an item of two lists is one of the first, or one of the second
pub get-either : {X : Type 0} (xs ys : List X) (k : ℕ) (x : X) → slice_get (xs ++ ys) k ≡ Some x → (slice_get xs k ≡ Some x) ⊎ ((j : ℕ) × (k ≡ length xs + j) × (slice_get ys j ≡ Some x))
get-either [] ys k x e = inr (k, omega arith, e)
get-either (y ∷ xs) ys zero x e = inl e
get-either {X} (y ∷ xs) ys (suc k) x e = go (get-either xs ys k x e)
  where
    go : (slice_get xs k ≡ Some x) ⊎ ((j : ℕ) × (k ≡ length xs + j) × (slice_get ys j ≡ Some x)) → (slice_get xs k ≡ Some x) ⊎ ((j : ℕ) × (suc k ≡ length (y ∷ xs) + j) × (slice_get ys j ≡ Some x))
    go (inl h) = inl h
    go (inr h) = inr (h.0, omega (arith, h.1), h.2)

get-last : {X : Type 0} (xs : List X) (x : X) → slice_get (xs ++ x ∷ []) (length xs) ≡ Some x
get-last [] x = refl
get-last (y ∷ xs) x = get-last xs x

split : (k n : ℕ) → k < suc n → (k ≡ n) ⊎ (k < n)
split k n lt = eq-or-lt_of_le (omega arith)

pub get-firsts : {X : Type 0} (f : ℕ → X) (n k : ℕ) → k < n → slice_get (firsts f n) k ≡ Some (f k)
get-firsts f zero k lt = absurd (omega arith)
get-firsts {X} f (suc n) k lt = go (split k n (omega arith)) (get-firsts f n k)
  where
    go : (k ≡ n) ⊎ (k < n) → (k < n → slice_get (firsts f n) k ≡ Some (f k)) → slice_get (firsts f n ++ f n ∷ []) k ≡ Some (f k)
    go (inl e) before = ap (slice_get (firsts f n ++ f n ∷ [])) (e ∙ sym (length-firsts f n)) ∙ get-last (firsts f n) (f n) ∙ ap (λ i. Some (f i)) (sym e)
    go (inr l) before = get-left (firsts f n) (f n ∷ []) k (f k) (before l)

some_same : {X : Type 0} (x y : X) → Some x ≡ Some y → x ≡ y
some_same x y e = cc

pub firsts-get : {X : Type 0} (f : ℕ → X) (n k : ℕ) (x : X) → slice_get (firsts f n) k ≡ Some x → (k < n) × (x ≡ f k)
firsts-get f zero k x e = cc
firsts-get {X} f (suc n) k x e = go (get-either (firsts f n) (f n ∷ []) k x e) (firsts-get f n k x)
  where
    last : (j : ℕ) → k ≡ length (firsts f n) + j → slice_get (f n ∷ []) j ≡ Some x → (k < suc n) × (x ≡ f k)
    last zero at is = let l = length-firsts f n in let same : k ≡ n = omega arith in (omega arith, sym (some_same (f n) x is) ∙ ap f (sym same))
    last (suc j) at is = cc

    go : (slice_get (firsts f n) k ≡ Some x) ⊎ ((j : ℕ) × (k ≡ length (firsts f n) + j) × (slice_get (f n ∷ []) j ≡ Some x)) → (slice_get (firsts f n) k ≡ Some x → (k < n) × (x ≡ f k)) → (k < suc n) × (x ≡ f k)
    go (inl h) before = let r = before h in (omega (arith, r.0), r.1)
    go (inr h) before = last h.0 h.1 h.2

-- what holds of each at its place
pub each-firsts : {X : Type 0} (P : ℕ → X → Type 0) (f : ℕ → X) (n : ℕ) → ((i : ℕ) → i < n → P i (f i)) → EachAt P (firsts f n)
each-firsts {X} P f n h k x e = let r = firsts-get f n k x e in subst (P k) (sym r.1) (h k r.0)

pub each-append : {X : Type 0} (P : ℕ → X → Type 0) (xs ys : List X) (n : ℕ) → length xs ≡ n → EachAt P xs → EachAt (λ k. P (n + k)) ys → EachAt P (xs ++ ys)
each-append {X} P xs ys n l a b k x e = go (get-either xs ys k x e)
  where
    go : (slice_get xs k ≡ Some x) ⊎ ((j : ℕ) × (k ≡ length xs + j) × (slice_get ys j ≡ Some x)) → P k x
    go (inl h) = a k x h
    go (inr h) = subst (λ (m : ℕ). P m x) (sym (h.1 ∙ ap (λ m. m + h.0) l)) (b h.0 x h.2)

take-exact : {X : Type 0} (xs ys : List X) (n : ℕ) → length xs ≡ n → take n (xs ++ ys) ≡ xs
take-exact [] ys zero e = refl
take-exact [] ys (suc n) e = absurd (omega arith)
take-exact (x ∷ xs) ys zero e = absurd (omega arith)
take-exact (x ∷ xs) ys (suc n) e = ap (λ (zs : List _). x ∷ zs) (take-exact xs ys n (omega arith))

take-short : {X : Type 0} (xs ys : List X) (n : ℕ) → n ≤ length xs → take n (xs ++ ys) ≡ take n xs
take-short xs ys zero le = refl
take-short [] ys (suc n) le = absurd (omega arith)
take-short (x ∷ xs) ys (suc n) le = ap (λ (zs : List _). x ∷ zs) (take-short xs ys n (omega arith))

pub take-firsts : {X : Type 0} (f : ℕ → X) (n k : ℕ) → k < n → take k (firsts f n) ≡ firsts f k
take-firsts f zero k lt = absurd (omega arith)
take-firsts {X} f (suc n) k lt = go (split k n (omega arith)) (take-firsts f n k)
  where
    go : (k ≡ n) ⊎ (k < n) → (k < n → take k (firsts f n) ≡ firsts f k) → take k (firsts f n ++ f n ∷ []) ≡ firsts f k
    go (inl e) before = ap (λ m. take m (firsts f n ++ f n ∷ [])) e ∙ take-exact (firsts f n) (f n ∷ []) n (length-firsts f n) ∙ ap (firsts f) (sym e)
    go (inr l) before = let long = length-firsts f n in take-short (firsts f n) (f n ∷ []) k (omega arith) ∙ before l
