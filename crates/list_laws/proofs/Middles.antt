-- a list with distinct keys, without one element of its middle
use Rattle.std.proofs.Common.{◌≡◌, ◌==◌, ◌++◌, ℕ, true, false, cond, List, [], ◌∷◌, refl, ap, ◌∙◌, Option, None, Some}
use Rattle.std.specs.Option.{option_or}
use Rattle.list_laws.specs.Keyed.{at, Distinct}
use Rattle.list_laws.proofs.Finding.{same_number, same_flip, absent_differs, absent_rest, at-append}

or_none : {X : Type 0} (o : Option X) → option_or o None ≡ o
or_none None = refl
or_none (Some x) = refl

-- an element of another key comes last
pub at-append_other : {X : Type 0} (key : X → ℕ) (q : ℕ) (xs : List X) (y : X) → (key y == q) ≡ false → at key q (xs ++ y ∷ []) ≡ at key q xs
at-append_other key q xs y ne = at-append key q xs (y ∷ []) ∙ ap (λ b. option_or (at key q xs) (cond b (Some y) None)) ne ∙ or_none (at key q xs)

-- an element comes last whose key was absent
pub at-append_same : {X : Type 0} (key : X → ℕ) (q : ℕ) (xs : List X) (y : X) → (key y == q) ≡ true → at key q xs ≡ None → at key q (xs ++ y ∷ []) ≡ Some y
at-append_same key q xs y is absent = at-append key q xs (y ∷ []) ∙ ap (λ o. option_or o (cond (key y == q) (Some y) None)) absent ∙ ap (λ b. cond b (Some y) None) is

-- another key finds what it found
pub at-without : {X : Type 0} (key : X → ℕ) (q : ℕ) (xs : List X) (y : X) (ys : List X) → (key y == q) ≡ false → at key q (xs ++ y ∷ ys) ≡ at key q (xs ++ ys)
at-without key q [] y ys ne = ap (λ b. cond b (Some y) (at key q ys)) ne
at-without key q (x ∷ xs) y ys ne = ap (cond (key x == q) (Some x)) (at-without key q xs y ys ne)

absent_parts : {X : Type 0} (key : X → ℕ) (q : ℕ) (xs : List X) (y : X) (ys : List X) → at key q (xs ++ y ∷ ys) ≡ None → (at key q (xs ++ ys) ≡ None) × ((key y == q) ≡ false)
absent_parts key q [] y ys e = (absent_rest key q y ys e, absent_differs key q y ys e)
absent_parts {X} key q (x ∷ xs) y ys e =
    let later = absent_parts key q xs y ys (absent_rest key q x (xs ++ y ∷ ys) e) in
    (ap (λ b. cond b (Some x) (at key q (xs ++ ys))) (absent_differs key q x (xs ++ y ∷ ys) e) ∙ later.0, later.1)

pub distinct-without : {X : Type 0} (key : X → ℕ) (xs : List X) (y : X) (ys : List X) → Distinct key (xs ++ y ∷ ys) → Distinct key (xs ++ ys)
distinct-without key [] y ys d = d.1
distinct-without key (x ∷ xs) y ys d = ((absent_parts key (key x) xs y ys d.0).0, distinct-without key xs y ys d.1)

-- its key is absent then
pub absent-without : {X : Type 0} (key : X → ℕ) (xs : List X) (y : X) (ys : List X) → Distinct key (xs ++ y ∷ ys) → at key (key y) (xs ++ ys) ≡ None
absent-without key [] y ys d = d.0
absent-without key (x ∷ xs) y ys d =
    let ne = same_flip _ _ ((absent_parts key (key x) xs y ys d.0).1) in
    ap (λ b. cond b (Some x) (at key (key y) (xs ++ ys))) ne ∙ absent-without key xs y ys d.1

-- its key found it
pub at-middle : {X : Type 0} (key : X → ℕ) (xs : List X) (y : X) (ys : List X) → Distinct key (xs ++ y ∷ ys) → at key (key y) (xs ++ y ∷ ys) ≡ Some y
at-middle key [] y ys d = ap (λ b. cond b (Some y) (at key (key y) ys)) (same_number (key y))
at-middle key (x ∷ xs) y ys d =
    let ne = same_flip _ _ ((absent_parts key (key x) xs y ys d.0).1) in
    ap (λ b. cond b (Some x) (at key (key y) (xs ++ y ∷ ys))) ne ∙ at-middle key xs y ys d.1
