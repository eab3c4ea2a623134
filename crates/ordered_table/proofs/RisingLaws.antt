-- a key's place in a list whose keys rise
use Rattle.std.proofs.Common.{◌≡◌, ◌<◌, ◌≤◌, ℕ, zero, suc, true, false, nat_lt, List, [], ◌∷◌, length, get_or, ap, refl, arith}
use Rattle.std.proofs.lemmas.Bool.{lt-ltb, le-ltb}
use Rattle.ordered_table.specs.Rising.{AllAboveBy, IsRisingBy, place_by}

-- a key below all is below each
pub above-at : {T : Type 0} (key : T → ℕ) (n : ℕ) (xs : List T) (j : ℕ) (d : T) → AllAboveBy key n xs → j < length xs → n < key (get_or xs j d)
above-at key n [] j d a lt = absurd (omega arith)
above-at key n (x ∷ xs) zero d a lt = a.0
above-at key n (x ∷ xs) (suc j) d a lt = above-at key n xs j d a.1 (omega arith)

-- rising keys do not fall
pub IsNonDecreasingBy-rising : {T : Type 0} (key : T → ℕ) (xs : List T) → IsRisingBy key xs → (i j : ℕ) (d : T) → i ≤ j → j < length xs → key (get_or xs i d) ≤ key (get_or xs j d)
IsNonDecreasingBy-rising key [] r i j d le lt = absurd (omega arith)
IsNonDecreasingBy-rising key (x ∷ xs) r zero zero d le lt = omega arith
IsNonDecreasingBy-rising key (x ∷ xs) r zero (suc j) d le lt = let a = above-at key (key x) xs j d r.0 (omega arith) in omega arith
IsNonDecreasingBy-rising key (x ∷ xs) r (suc i) zero d le lt = absurd (omega arith)
IsNonDecreasingBy-rising key (x ∷ xs) r (suc i) (suc j) d le lt = IsNonDecreasingBy-rising key xs r.1 i j d (omega arith) (omega arith)

-- the place is where the keys stop being lesser
pub place-from_point : {T : Type 0} (key : T → ℕ) (xs : List T) (n : ℕ) (i : ℕ) → i ≤ length xs →
    ((k : ℕ) (d : T) → k < i → nat_lt (key (get_or xs k d)) n ≡ true) →
    ((d : T) → i < length xs → nat_lt (key (get_or xs i d)) n ≡ false) → i ≡ place_by key xs n
place-from_point key [] n zero le below from = refl
place-from_point key [] n (suc i) le below from = absurd (omega arith)
place-from_point key (x ∷ xs) n zero le below from = rw (from x (omega arith)) refl
place-from_point key (x ∷ xs) n (suc i) le below from =
    rw (below zero x (omega arith)) (ap suc (place-from_point key xs n i (omega arith) (λ k d lt. below (suc k) d (omega arith)) (λ d lt. from d (omega arith))))

-- a key's place is where it stands
pub place-at : {T : Type 0} (key : T → ℕ) (xs : List T) (n : ℕ) (i : ℕ) (d : T) → IsRisingBy key xs → i < length xs → key (get_or xs i d) ≡ n → i ≡ place_by key xs n
place-at key [] n i d r lt same = absurd (omega arith)
place-at key (x ∷ xs) n zero d r lt same = rw (le-ltb (key x) n (omega arith)) refl
place-at key (x ∷ xs) n (suc i) d r lt same =
    let above = above-at key (key x) xs i d r.0 (omega arith) in
    rw (lt-ltb (key x) n (omega arith)) (ap suc (place-at key xs n i d r.1 (omega arith) same))
