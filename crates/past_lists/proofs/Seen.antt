-- what is known of a list of steps
use Rattle.std.proofs.Common.{◌≡◌, ℕ, zero, suc, ◌+◌, ◌*◌, ◌==◌, ◌<◌, ◌≤◌, ◌≢◌, ◌⊎◌, inl, inr, ⊎_elim, List, [], ◌∷◌, ◌++◌, length, Option, Some, None, refl, ap, sym, ◌∙◌, subst, arith, suc-mul, eq-eqb, ne_eqb}
use mathlib.Core.Option.{some, some-injective, some-ne-none}
use mathlib.Core.Logic.{dite}
use native.Mathlib.Decide.{ℕ_discrete}
use lib.ListN.{get_elem?}
use Rattle.list_laws.specs.Keyed.{one_if}
use Rattle.pasts.specs.Pasts.{steps_of, Knows, Stands, union, IsPast, HasAll}
use Rattle.past_lists.specs.Own.{added, count}

pub hit : (a b : ℕ) → a ≡ b → one_if (a == b) ≡ 1
hit a b e = ap one_if (eq-eqb a b e)

pub miss : (a b : ℕ) → a ≢ b → one_if (a == b) ≡ 0
miss a b e = ap one_if (ne_eqb a b e)

module _ {A : Type 0} where
  pub get_lt : (l : List A) (i : ℕ) (a : A) → get_elem? l i ≡ some a → i < length l
  get_lt [] i a e = absurd (some-ne-none a (sym e))
  get_lt (x ∷ xs) zero a e = omega arith
  get_lt (x ∷ xs) (suc i) a e = let h = get_lt xs i a e in omega arith

  pub snoc_cases : (l : List A) (a b : A) (j : ℕ) → get_elem? (l ++ a ∷ []) j ≡ some b → (get_elem? l j ≡ some b) ⊎ ((j ≡ length l) × (a ≡ b))
  snoc_cases [] a b zero e = inr (refl, some-injective a b e)
  snoc_cases [] a b (suc j) e = absurd (some-ne-none b (sym e))
  snoc_cases (x ∷ xs) a b zero e = inl e
  snoc_cases (x ∷ xs) a b (suc j) e = ⊎_elim (λ h. inl h) (λ h. inr (ap suc h.0, h.1)) (snoc_cases xs a b j e)

  pub same_place : (l : List A) (j : ℕ) (a b : A) → get_elem? l j ≡ some a → get_elem? l j ≡ some b → a ≡ b
  same_place l j a b p q = some-injective a b (sym p ∙ q)

module _ {S : Type 0} where
  pub union_left : (p q : List (Option S)) (j : ℕ) (x : S) → Knows p j x → Knows (union p q) j x
  union_left [] q j x e = absurd (some-ne-none (Some x) (sym e))
  union_left (a ∷ p) [] j x e = e
  union_left (None ∷ p) (b ∷ q) zero x e = absurd (cc e)
  union_left (Some a ∷ p) (b ∷ q) zero x e = e
  union_left (a ∷ p) (b ∷ q) (suc j) x e = union_left p q j x e

  pub union_right : (p q : List (Option S)) (j : ℕ) (x : S) → Knows q j x → Knows (union p q) j x ⊎ ((y : S) × Knows p j y)
  union_right [] q j x e = inl e
  union_right (a ∷ p) [] j x e = absurd (some-ne-none (Some x) (sym e))
  union_right (None ∷ p) (b ∷ q) zero x e = inl e
  union_right (Some a ∷ p) (b ∷ q) zero x e = inr (a, refl)
  union_right (a ∷ p) (b ∷ q) (suc j) x e = union_right p q j x e

  pub union_cases : (p q : List (Option S)) (j : ℕ) (x : S) → Knows (union p q) j x → Knows p j x ⊎ Knows q j x
  union_cases [] q j x e = inr e
  union_cases (a ∷ p) [] j x e = inl e
  union_cases (None ∷ p) (b ∷ q) zero x e = inr e
  union_cases (Some a ∷ p) (b ∷ q) zero x e = inl e
  union_cases (a ∷ p) (b ∷ q) (suc j) x e = union_cases p q j x e

  pub union_short : (p q : List (Option S)) (n : ℕ) → length p ≤ n → length q ≤ n → length (union p q) ≤ n
  union_short [] q n a b = b
  union_short (x ∷ p) [] n a b = a
  union_short (x ∷ p) (y ∷ q) zero a b = absurd (omega arith)
  union_short (x ∷ p) (y ∷ q) (suc n) a b = let r = union_short p q n (omega arith) (omega arith) in omega arith

  pub steps_added : (p : List (Option S)) (n : ℕ) (x : S) → length p ≤ n → steps_of (added p n x) ≡ steps_of p ++ x ∷ []
  steps_added [] zero x h = refl
  steps_added [] (suc n) x h = steps_added [] n x (omega arith)
  steps_added (a ∷ p) zero x h = absurd (omega arith)
  steps_added (None ∷ p) (suc n) x h = steps_added p n x (omega arith)
  steps_added (Some a ∷ p) (suc n) x h = ap (λ (l : List S). a ∷ l) (steps_added p n x (omega arith))

  -- the places of `added`
  pub added_here : (p : List (Option S)) (n : ℕ) (x : S) → length p ≤ n → Knows (added p n x) n x
  added_here [] zero x h = refl
  added_here [] (suc n) x h = added_here [] n x (omega arith)
  added_here (a ∷ p) zero x h = absurd (omega arith)
  added_here (a ∷ p) (suc n) x h = added_here p n x (omega arith)

  pub added_old : (p : List (Option S)) (n j : ℕ) (x y : S) → Knows p j y → Knows (added p n x) j y
  added_old [] n j x y e = absurd (some-ne-none (Some y) (sym e))
  added_old (a ∷ p) zero zero x y e = e
  added_old (a ∷ p) (suc n) zero x y e = e
  added_old (a ∷ p) zero (suc j) x y e = e
  added_old (a ∷ p) (suc n) (suc j) x y e = added_old p n j x y e

  pub added_cases : (p : List (Option S)) (n j : ℕ) (x y : S) → length p ≤ n → Knows (added p n x) j y → Knows p j y ⊎ ((j ≡ n) × (x ≡ y))
  added_cases [] zero zero x y h e = inr (refl, cc e)
  added_cases [] zero (suc j) x y h e = absurd (some-ne-none (Some y) (sym e))
  added_cases [] (suc n) zero x y h e = absurd (cc e)
  added_cases [] (suc n) (suc j) x y h e = ⊎_elim (λ k. absurd (some-ne-none (Some y) (sym k))) (λ k. inr (ap suc k.0, k.1)) (added_cases [] n j x y (omega arith) e)
  added_cases (a ∷ p) zero j x y h e = absurd (omega arith)
  added_cases (a ∷ p) (suc n) zero x y h e = inl e
  added_cases (a ∷ p) (suc n) (suc j) x y h e = ⊎_elim (λ k. inl k) (λ k. inr (ap suc k.0, k.1)) (added_cases p n j x y (omega arith) e)

  pub added_length : (p : List (Option S)) (n : ℕ) (x : S) → length p ≤ n → length (added p n x) ≡ suc n
  added_length [] zero x h = refl
  added_length [] (suc n) x h = ap suc (added_length [] n x (omega arith))
  added_length (a ∷ p) zero x h = absurd (omega arith)
  added_length (a ∷ p) (suc n) x h = ap suc (added_length p n x (omega arith))

  module _ (node_of : S → ℕ) where
    pub count_append : (n : ℕ) (xs ys : List S) → count node_of n (xs ++ ys) ≡ count node_of n xs + count node_of n ys
    count_append n [] ys = omega arith
    count_append n (x ∷ xs) ys = let h = count_append n xs ys in omega arith

    -- who knows all of a node's steps knows as many
    pub count_all : (n : ℕ) (log : List S) (p : List (Option S)) → HasAll node_of log p n → count node_of n log ≤ count node_of n (steps_of p)
    count_all n [] p h = omega arith
    count_all n (x ∷ xs) [] h = dite (ℕ_discrete (node_of x) n) (λ e. absurd (some-ne-none (Some x) (sym (h zero x refl e)))) (λ ne. let m = miss (node_of x) n ne in let r = count_all n xs [] (λ j. h (suc j)) in omega arith)
    count_all n (x ∷ xs) (None ∷ p) h = dite (ℕ_discrete (node_of x) n) (λ e. absurd (cc (h zero x refl e))) (λ ne. let m = miss (node_of x) n ne in let r = count_all n xs p (λ j. h (suc j)) in omega arith)
    count_all n (x ∷ xs) (Some y ∷ p) h = let r = count_all n xs p (λ j. h (suc j)) in
        dite (ℕ_discrete (node_of x) n) (λ e. let same : y ≡ x = cc (h zero x refl e) in let m = hit (node_of x) n e in let k = hit (node_of y) n (ap node_of same ∙ e) in omega arith)
        (λ ne. let m = miss (node_of x) n ne in omega arith)

    abbrev pub sum_counts : ℕ → List S → ℕ
    sum_counts zero log = 0
    sum_counts (suc n) log = count node_of n log + sum_counts n log

    pub sum_nil : (n : ℕ) → sum_counts n [] ≡ 0
    sum_nil zero = refl
    sum_nil (suc n) = let h = sum_nil n in omega arith

    pub sum_beyond : (n : ℕ) (x : S) (xs : List S) → n ≤ node_of x → sum_counts n (x ∷ xs) ≡ sum_counts n xs
    sum_beyond zero x xs h = refl
    sum_beyond (suc n) x xs h = let r = sum_beyond n x xs (omega arith) in let m = miss (node_of x) n (λ e. omega arith) in omega arith

    pub sum_cons : (n : ℕ) (x : S) (xs : List S) → node_of x < n → sum_counts n (x ∷ xs) ≡ suc (sum_counts n xs)
    sum_cons zero x xs h = absurd (omega arith)
    sum_cons (suc n) x xs h = dite (ℕ_discrete (node_of x) n) (λ e. let m = hit (node_of x) n e in let r = sum_beyond n x xs (omega arith) in omega arith)
        (λ ne. let m = miss (node_of x) n ne in let r = sum_cons n x xs (omega arith) in omega arith)

    pub sum_all : (n : ℕ) (log : List S) → ((j : ℕ) (x : S) → Stands log j x → node_of x < n) → sum_counts n log ≡ length log
    sum_all n [] h = sum_nil n
    sum_all n (x ∷ xs) h = sum_cons n x xs (h zero x refl) ∙ ap suc (sum_all n xs (λ j. h (suc j)))

    pub sum_most : (n k : ℕ) (log : List S) → ((m : ℕ) → count node_of m log ≤ k) → sum_counts n log ≤ n * k
    sum_most zero k log h = omega arith
    sum_most (suc n) k log h = let r = sum_most n k log h in let c = h n in omega (arith, suc-mul n k)

    pub length_most : (n k : ℕ) (log : List S) → ((j : ℕ) (x : S) → Stands log j x → node_of x < n) → ((m : ℕ) → count node_of m log ≤ k) → length log ≤ n * k
    length_most n k log inside most = let r = sum_most n k log most in let s = sum_all n log inside in omega arith

    module _ (lawful : List S → Type 0) where
      -- two pasts of one list are one past together
      pub union_past : (log : List S) (p q : List (Option S)) → IsPast node_of log p → IsPast node_of log q → IsPast node_of log (union p q)
      union_past log p q P Q = record {
        short = union_short p q (length log) P.short Q.short;
        part = λ j x k. ⊎_elim (λ h. P.part j x h) (λ h. Q.part j x h) (union_cases p q j x k);
        closed = λ j k x y lt st kn same. ⊎_elim (λ h. union_left p q j x (P.closed j k x y lt st h same)) (λ h. ⊎_elim (λ r. r) (λ r. union_left p q j x (subst (λ (z : S). Knows p j z) (same_place log j r.0 x (P.part j r.0 r.1) st) r.1)) (union_right p q j x (Q.closed j k x y lt st h same))) (union_cases p q k y kn);
      }
