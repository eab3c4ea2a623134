-- what a key finds, and distinct keys, after maps, filters and appends
use Rattle.std.proofs.Common.{◌≡◌, ◌==◌, ◌⊎◌, inl, inr, ◌++◌, ℕ, Bool, true, false, cond, List, [], ◌∷◌, refl, sym, ap, ◌∙◌, subst, Option, None, Some, rules}
use Rattle.std.specs.Prelude.{map, filter}
use Rattle.std.specs.Option.{option_map, option_or}
use Rattle.std.proofs.lemmas.Bool.{eqb-true, eq-eqb}
use Rattle.std.proofs.lemmas.List.Folds.{find-append}
use Rattle.list_laws.specs.Keyed.{at, Distinct, option_filter}
use Rattle.list_laws.proofs.Filters.{some_same, mapped_some}

pub same_number : (n : ℕ) → (n == n) ≡ true
same_number n = eq-eqb n n refl

-- ---- finding
at_map_step : {X Y : Type 0} (f : X → Y) (x : X) (b : Bool) (l : Option Y) (m : Option X) → l ≡ option_map f m → cond b (Some (f x)) l ≡ option_map f (cond b (Some x) m)
at_map_step f x true l m e = refl
at_map_step f x false l m e = e

-- after a map that keeps keys
pub at-map : {X Y : Type 0} (key : X → ℕ) (lock : Y → ℕ) (f : X → Y) → ((x : X) → lock (f x) ≡ key x) → (q : ℕ) (xs : List X) → at lock q (map f xs) ≡ option_map f (at key q xs)
at-map key lock f same q [] = refl
at-map key lock f same q (x ∷ xs) = rw (same x) (at_map_step f x (key x == q) _ _ (at-map key lock f same q xs))

found_step : {X : Type 0} (key : X → ℕ) (q : ℕ) (x : X) (t : Bool) (m : Option X) → (key x == q) ≡ t → ((y : X) → m ≡ Some y → key y ≡ q) → (y : X) → cond t (Some x) m ≡ Some y → key y ≡ q
found_step key q x true m e h y g = subst (λ z. key z ≡ q) (some_same x y g) (eqb-true _ _ e)
found_step key q x false m e h y g = h y g

-- what is found has the key
pub found : {X : Type 0} (key : X → ℕ) (q : ℕ) (xs : List X) (y : X) → at key q xs ≡ Some y → key y ≡ q
found key q [] y e = cc
found key q (x ∷ xs) y e = found_step key q x (key x == q) _ refl (found key q xs) y e

-- what is found is found at its own key
pub found_here : {X : Type 0} (key : X → ℕ) (q : ℕ) (xs : List X) (y : X) → at key q xs ≡ Some y → at key (key y) xs ≡ Some y
found_here key q xs y e = subst (λ n. at key n xs ≡ Some y) (sym (found key q xs y e)) e

none_step : {X : Type 0} (key : X → ℕ) (keep : X → Bool) (q : ℕ) (x : X) (xs : List X) (k t : Bool) → (key x == q) ≡ t → cond t (Some x) (at key q xs) ≡ None → (at key q xs ≡ None → at key q (filter keep xs) ≡ None) →
    at key q (cond k (x ∷ filter keep xs) (filter keep xs)) ≡ None
none_step key keep q x xs k true h e ih = cc
none_step key keep q x xs true false h e ih = rw h (ih e)
none_step key keep q x xs false false h e ih = ih e

-- what is absent stays so after a filter
pub at-filter_none : {X : Type 0} (key : X → ℕ) (keep : X → Bool) (q : ℕ) (xs : List X) → at key q xs ≡ None → at key q (filter keep xs) ≡ None
at-filter_none key keep q [] e = refl
at-filter_none key keep q (x ∷ xs) e = none_step key keep q x xs (keep x) (key x == q) refl e (at-filter_none key keep q xs)

kept_step : {X : Type 0} (key : X → ℕ) (keep : X → Bool) (q : ℕ) (x : X) (xs : List X) (k t : Bool) → keep x ≡ k → (key x == q) ≡ t → at key (key x) xs ≡ None → at key q (filter keep xs) ≡ option_filter keep (at key q xs) →
    at key q (cond k (x ∷ filter keep xs) (filter keep xs)) ≡ option_filter keep (cond t (Some x) (at key q xs))
kept_step key keep q x xs true true ke h n ih = rw (h, ke)
kept_step key keep q x xs false true ke h n ih = rw ke (at-filter_none key keep q xs (subst (λ z. at key z xs ≡ None) (eqb-true _ _ h) n))
kept_step key keep q x xs true false ke h n ih = rw h ih
kept_step key keep q x xs false false ke h n ih = ih

-- after a filter
pub at-filter : {X : Type 0} (key : X → ℕ) (keep : X → Bool) (q : ℕ) (xs : List X) → Distinct key xs → at key q (filter keep xs) ≡ option_filter keep (at key q xs)
at-filter key keep q [] d = refl
at-filter key keep q (x ∷ xs) d = kept_step key keep q x xs (keep x) (key x == q) refl refl d.0 (at-filter key keep q xs d.1)

-- after an append
pub at-append : {X : Type 0} (key : X → ℕ) (q : ℕ) (xs ys : List X) → at key q (xs ++ ys) ≡ option_or (at key q xs) (at key q ys)
at-append key q xs ys = find-append (λ x. key x == q) xs ys

-- ---- what a filtered option holds
pub filtered_some : {X : Type 0} (test : X → Bool) (o : Option X) (y : X) → option_filter test o ≡ Some y → (o ≡ Some y) × (test y ≡ true)
filtered_some test None y e = cc
filtered_some test (Some x) y e = go (test x) refl e
  where
    go : (b : Bool) → test x ≡ b → cond b (Some x) None ≡ Some y → (Some x ≡ Some y) × (test y ≡ true)
    go true t h = (h, ap test (sym (some_same x y h)) ∙ t)
    go false t h = cc

pub filtered_pass : {X : Type 0} (test : X → Bool) (x : X) → test x ≡ true → option_filter test (Some x) ≡ Some x
filtered_pass test x t = rw t

pub filtered_fail : {X : Type 0} (test : X → Bool) (x : X) → test x ≡ false → option_filter test (Some x) ≡ None
filtered_fail test x t = rw t

-- ---- distinct keys
distinct_step : {X : Type 0} (key : X → ℕ) (x : X) (b : Bool) (xs : List X) → at key (key x) xs ≡ None → Distinct key xs → Distinct key (cond b (x ∷ xs) xs)
distinct_step key x true xs n d = (n, d)
distinct_step key x false xs n d = d

pub distinct-filter : {X : Type 0} (key : X → ℕ) (keep : X → Bool) (xs : List X) → Distinct key xs → Distinct key (filter keep xs)
distinct-filter key keep [] d = tt
distinct-filter key keep (x ∷ xs) d = distinct_step key x (keep x) _ (at-filter_none key keep (key x) xs d.0) (distinct-filter key keep xs d.1)

pub distinct-map : {X Y : Type 0} (key : X → ℕ) (lock : Y → ℕ) (f : X → Y) → ((x : X) → lock (f x) ≡ key x) → (xs : List X) → Distinct key xs → Distinct lock (map f xs)
distinct-map key lock f same [] d = tt
distinct-map key lock f same (x ∷ xs) d = (rw (same x) (at-map key lock f same (key x) xs ∙ ap (option_map f) d.0), distinct-map key lock f same xs d.1)

absent_step : {X : Type 0} (key : X → ℕ) (q : ℕ) (x y : X) (xs : List X) (t : Bool) → (key x == q) ≡ t → cond t (Some x) (at key q xs) ≡ None → (at key q xs ≡ None → at key q (xs ++ y ∷ []) ≡ None) → cond t (Some x) (at key q (xs ++ y ∷ [])) ≡ None
absent_step key q x y xs true h e ih = cc
absent_step key q x y xs false h e ih = ih e

-- what is absent stays so after an append of another key
pub at-append_none : {X : Type 0} (key : X → ℕ) (q : ℕ) (xs : List X) (y : X) → (key y == q) ≡ false → at key q xs ≡ None → at key q (xs ++ y ∷ []) ≡ None
at-append_none key q [] y ne e = rw ne
at-append_none key q (x ∷ xs) y ne e = absent_step key q x y xs (key x == q) refl e (at-append_none key q xs y ne)

-- a key that is in the list and one that isn't differ
pub absent_differs : {X : Type 0} (key : X → ℕ) (q : ℕ) (x : X) (xs : List X) → at key q (x ∷ xs) ≡ None → (key x == q) ≡ false
absent_differs key q x xs e = go (key x == q) refl e
  where
    go : (t : Bool) → (key x == q) ≡ t → cond t (Some x) (at key q xs) ≡ None → t ≡ false
    go true h n = cc
    go false h n = refl

pub absent_rest : {X : Type 0} (key : X → ℕ) (q : ℕ) (x : X) (xs : List X) → at key q (x ∷ xs) ≡ None → at key q xs ≡ None
absent_rest key q x xs e = go (key x == q) e
  where
    go : (t : Bool) → cond t (Some x) (at key q xs) ≡ None → at key q xs ≡ None
    go true n = cc
    go false n = n

pub same_flip : (a b : ℕ) → (a == b) ≡ false → (b == a) ≡ false
same_flip a b e = search rules

-- after an append of a key that was absent
pub distinct-append : {X : Type 0} (key : X → ℕ) (xs : List X) (y : X) → at key (key y) xs ≡ None → Distinct key xs → Distinct key (xs ++ y ∷ [])
distinct-append key [] y n d = (refl, tt)
distinct-append key (x ∷ xs) y n d = (
  at-append_none key (key x) xs y (same_flip _ _ (absent_differs key (key y) x xs n)) d.0,
  distinct-append key xs y (absent_rest key (key y) x xs n) d.1,
)

-- ---- a change of what is found
-- each element after a map comes from one before
pub comes-map : {X Y : Type 0} (key : X → ℕ) (lock : Y → ℕ) (f : X → Y) → ((x : X) → lock (f x) ≡ key x) → (q : ℕ) (xs : List X) (y : Y) → at lock q (map f xs) ≡ Some y → (x : X) × (at key q xs ≡ Some x) × (y ≡ f x)
comes-map key lock f same q xs y e = mapped_some f (at key q xs) y (sym (at-map key lock f same q xs) ∙ e)

-- each element after a filter was there and passes
pub comes-filter : {X : Type 0} (key : X → ℕ) (keep : X → Bool) (q : ℕ) (xs : List X) (y : X) → Distinct key xs → at key q (filter keep xs) ≡ Some y → (at key q xs ≡ Some y) × (keep y ≡ true)
comes-filter key keep q xs y d e = filtered_some keep (at key q xs) y (sym (at-filter key keep q xs d) ∙ e)

-- each element after an append was there, or is the new one
pub comes-append : {X : Type 0} (key : X → ℕ) (q : ℕ) (xs : List X) (x y : X) → at key q (xs ++ y ∷ []) ≡ Some x → (at key q xs ≡ Some x) ⊎ ((x ≡ y) × (key y ≡ q))
comes-append key q xs x y e = go (at key q xs) (key y == q) refl (sym (at-append key q xs (y ∷ [])) ∙ e)
  where
    go : (o : Option _) (t : Bool) → (key y == q) ≡ t → option_or o (cond t (Some y) None) ≡ Some x → (o ≡ Some x) ⊎ ((x ≡ y) × (key y ≡ q))
    go (Some z) t h g = inl g
    go None true h g = inr (sym (some_same y x g), eqb-true _ _ h)
    go None false h g = cc
