-- how many elements pass a test
use Rattle.std.proofs.Common.{◌≡◌, ◌==◌, ◌&&◌, ◌||◌, ◌+◌, ◌≤◌, ◌++◌, ℕ, Bool, true, false, cond, not, List, [], ◌∷◌, length, refl, sym, ap, ◌∙◌, subst, arith, None, Some, length-append}
use Rattle.std.specs.Prelude.{filter}
use Rattle.std.specs.List.{list_any}
use Rattle.std.proofs.lemmas.Bool.{eqb-true, ne_eqb}
use Rattle.std.proofs.lemmas.List.Elements.{filter-append}
use Rattle.list_laws.specs.Keyed.{at, Distinct, Each, one_if}
use Rattle.list_laws.proofs.Filters.{some_same}
use Rattle.list_laws.proofs.Elements.{each_head, each_rest}

split_step : {X : Type 0} (x : X) (a b c : Bool) (l m n : List X) → one_if a + one_if b ≡ one_if c → length l + length m ≡ length n → length (cond a (x ∷ l) l) + length (cond b (x ∷ m) m) ≡ length (cond c (x ∷ n) n)
split_step x true true true l m n e h = absurd (omega arith)
split_step x true true false l m n e h = absurd (omega arith)
split_step x true false true l m n e h = omega arith
split_step x true false false l m n e h = absurd (omega arith)
split_step x false true true l m n e h = omega arith
split_step x false true false l m n e h = absurd (omega arith)
split_step x false false true l m n e h = absurd (omega arith)
split_step x false false false l m n e h = h

-- a count is the sum of the counts of its two parts
pub count-split : {X : Type 0} (key : X → ℕ) (a b c : X → Bool) (xs : List X) → Distinct key xs → Each key (λ x. one_if (a x) + one_if (b x) ≡ one_if (c x)) xs →
    length (filter a xs) + length (filter b xs) ≡ length (filter c xs)
count-split key a b c [] d e = refl
count-split key a b c (x ∷ xs) d e = split_step x (a x) (b x) (c x) _ _ _ (each_head key (λ y. one_if (a y) + one_if (b y) ≡ one_if (c y)) x xs e) (count-split key a b c xs d.1 (each_rest key (λ y. one_if (a y) + one_if (b y) ≡ one_if (c y)) x xs d e))

at_most_step : {X : Type 0} (x : X) (a b : Bool) (l m : List X) → (a ≡ true → b ≡ true) → length l ≤ length m → length (cond a (x ∷ l) l) ≤ length (cond b (x ∷ m) m)
at_most_step x true true l m e h = omega arith
at_most_step x true false l m e h = let f : false ≡ true = e refl in cc
at_most_step x false true l m e h = omega arith
at_most_step x false false l m e h = h

-- where all that pass one test pass another, they are no more
pub count_at_most : {X : Type 0} (key : X → ℕ) (t u : X → Bool) (xs : List X) → Distinct key xs → Each key (λ x. t x ≡ true → u x ≡ true) xs → length (filter t xs) ≤ length (filter u xs)
count_at_most key t u [] d e = omega arith
count_at_most key t u (x ∷ xs) d e = at_most_step x (t x) (u x) _ _ (each_head key (λ y. t y ≡ true → u y ≡ true) x xs e) (count_at_most key t u xs d.1 (each_rest key (λ y. t y ≡ true → u y ≡ true) x xs d e))

-- a filter leaves no more of what passes
pub count-filter : {X : Type 0} (t keep : X → Bool) (xs : List X) → length (filter t (filter keep xs)) ≤ length (filter t xs)
count-filter t keep [] = omega arith
count-filter {X} t keep (x ∷ xs) = step (keep x) (t x) refl (count-filter t keep xs)
  where
    step : (k b : Bool) → t x ≡ b → length (filter t (filter keep xs)) ≤ length (filter t xs) → length (filter t (cond k (x ∷ filter keep xs) (filter keep xs))) ≤ length (cond b (x ∷ filter t xs) (filter t xs))
    step true true e h = rw e (omega arith)
    step true false e h = rw e h
    step false true e h = omega arith
    step false false e h = h

-- one more element
pub count-append : {X : Type 0} (t : X → Bool) (xs : List X) (y : X) → length (filter t (xs ++ y ∷ [])) ≡ length (filter t xs) + one_if (t y)
count-append t xs y = ap length (filter-append t xs (y ∷ [])) ∙ length-append (filter t xs) (filter t (y ∷ [])) ∙ ap (λ n. length (filter t xs) + n) (last (t y))
  where
    last : (b : Bool) → length (cond b (y ∷ []) []) ≡ one_if b
    last true = refl
    last false = refl

-- ---- what has one key
one_step : {X : Type 0} (key : X → ℕ) (u : X → Bool) (q : ℕ) (x y : X) (xs : List X) (t : Bool) → (key x == q) ≡ t → at key (key x) xs ≡ None → cond t (Some x) (at key q xs) ≡ Some y →
    (at key q xs ≡ None → length (filter (λ z. (key z == q) && u z) xs) ≡ 0) → (at key q xs ≡ Some y → length (filter (λ z. (key z == q) && u z) xs) ≡ one_if (u y)) →
    length (cond (t && u x) (x ∷ filter (λ z. (key z == q) && u z) xs) (filter (λ z. (key z == q) && u z) xs)) ≡ one_if (u y)
one_step key u q x y xs false t n e zero ih = ih e
one_step key u q x y xs true t n e zero ih =
    let z = zero (subst (λ k. at key k xs ≡ None) (eqb-true _ _ t) n) in
    subst (λ w. length (cond (u x) (x ∷ filter (λ z. (key z == q) && u z) xs) (filter (λ z. (key z == q) && u z) xs)) ≡ one_if (u w)) (some_same x y e) (last (u x) z)
  where
    last : (b : Bool) → length (filter (λ z. (key z == q) && u z) xs) ≡ 0 → length (cond b (x ∷ filter (λ z. (key z == q) && u z) xs) (filter (λ z. (key z == q) && u z) xs)) ≡ one_if b
    last true z = omega arith
    last false z = z

zero_step : {X : Type 0} (key : X → ℕ) (u : X → Bool) (q : ℕ) (x : X) (xs : List X) (t : Bool) → cond t (Some x) (at key q xs) ≡ None →
    (at key q xs ≡ None → length (filter (λ z. (key z == q) && u z) xs) ≡ 0) →
    length (cond (t && u x) (x ∷ filter (λ z. (key z == q) && u z) xs) (filter (λ z. (key z == q) && u z) xs)) ≡ 0
zero_step key u q x xs true e ih = cc
zero_step key u q x xs false e ih = ih e

-- nothing has an absent key
pub count-none : {X : Type 0} (key : X → ℕ) (u : X → Bool) (q : ℕ) (xs : List X) → at key q xs ≡ None → length (filter (λ z. (key z == q) && u z) xs) ≡ 0
count-none key u q [] e = refl
count-none key u q (x ∷ xs) e = zero_step key u q x xs (key x == q) e (count-none key u q xs)

-- one element has the key that is found
pub count-one : {X : Type 0} (key : X → ℕ) (u : X → Bool) (q : ℕ) (xs : List X) (y : X) → Distinct key xs → at key q xs ≡ Some y → length (filter (λ z. (key z == q) && u z) xs) ≡ one_if (u y)
count-one key u q [] y d e = cc
count-one key u q (x ∷ xs) y d e = one_step key u q x y xs (key x == q) refl d.0 e (count-none key u q xs) (count-one key u q xs y d.1)

-- ---- none
any_step : {X : Type 0} (x : X) (b a : Bool) (l : List X) → not a ≡ (length l == 0) → not (b || a) ≡ (length (cond b (x ∷ l) l) == 0)
any_step x true a l e = sym (ne_eqb _ _ (λ h. absurd (omega arith)))
any_step x false a l e = e

-- none passes exactly where the count is 0
pub any-count : {X : Type 0} (t : X → Bool) (xs : List X) → not (list_any t xs) ≡ (length (filter t xs) == 0)
any-count t [] = refl
any-count t (x ∷ xs) = any_step x (t x) (list_any t xs) (filter t xs) (any-count t xs)
