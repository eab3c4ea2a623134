-- facts of every element that is found at its own key
use Rattle.std.proofs.Common.{◌≡◌, ◌==◌, ◌||◌, ◌⊎◌, inl, inr, ◌++◌, ℕ, Bool, true, false, cond, List, [], ◌∷◌, refl, sym, ap, ◌∙◌, subst, None, Some}
use Rattle.std.specs.Prelude.{map, filter}
use Rattle.std.specs.List.{list_any}
use Rattle.std.proofs.lemmas.Bool.{eqb-true}
use Rattle.list_laws.specs.Keyed.{at, Distinct, Each}
use Rattle.list_laws.proofs.Filters.{some_same, or_true}
use Rattle.list_laws.proofs.Finding.{same_number, found_here, comes-map, comes-filter, comes-append}

-- of the first element
pub each_head : {X : Type 0} (key : X → ℕ) (P : X → Type 0) (x : X) (xs : List X) → Each key P (x ∷ xs) → P x
each_head key P x xs e = e x (rw (same_number (key x)))

-- of the others
pub each_rest : {X : Type 0} (key : X → ℕ) (P : X → Type 0) (x : X) (xs : List X) → Distinct key (x ∷ xs) → Each key P (x ∷ xs) → Each key P xs
each_rest {X} key P x xs d e = λ y h. go y h (key x == key y) refl
  where
    go : (y : X) → at key (key y) xs ≡ Some y → (b : Bool) → (key x == key y) ≡ b → P y
    go y h true t = let n : at key (key y) xs ≡ None = subst (λ z. at key z xs ≡ None) (eqb-true _ _ t) d.0 in cc
    go y h false t = e y (rw t h)

-- of what is found
pub each_found : {X : Type 0} (key : X → ℕ) (P : X → Type 0) (q : ℕ) (xs : List X) (x : X) → Each key P xs → at key q xs ≡ Some x → P x
each_found key P q xs x e h = e x (found_here key q xs x h)

pub each-map : {X Y : Type 0} (key : X → ℕ) (lock : Y → ℕ) (f : X → Y) → ((x : X) → lock (f x) ≡ key x) → (P : X → Type 0) (Q : Y → Type 0) → ((x : X) → P x → Q (f x)) → (xs : List X) → Each key P xs → Each lock Q (map f xs)
each-map key lock f same P Q step xs e = λ y h.
    let c = comes-map key lock f same (lock y) xs y h in
    subst Q (sym c.2) (step c.0 (each_found key P (lock y) xs c.0 e c.1))

pub each-filter : {X : Type 0} (key : X → ℕ) (keep : X → Bool) (P : X → Type 0) (xs : List X) → Distinct key xs → Each key P xs → Each key P (filter keep xs)
each-filter key keep P xs d e = λ y h. e y ((comes-filter key keep (key y) xs y d h).0)

pub each-append : {X : Type 0} (key : X → ℕ) (P : X → Type 0) (xs : List X) (y : X) → Each key P xs → P y → Each key P (xs ++ y ∷ [])
each-append {X} key P xs y e p = λ x h. go x (comes-append key (key x) xs x y h)
  where
    go : (x : X) → (at key (key x) xs ≡ Some x) ⊎ ((x ≡ y) × (key y ≡ key x)) → P x
    go x (inl h) = e x h
    go x (inr s) = subst P (sym s.0) p

-- ---- equal filters, maps and tests
same_step : {X : Type 0} (x : X) (a b : Bool) (l m : List X) → a ≡ b → l ≡ m → cond a (x ∷ l) l ≡ cond b (x ∷ m) m
same_step x true b l m e h = rw (← e) (ap (λ z. x ∷ z) h)
same_step x false b l m e h = rw (← e) h

pub filter-same : {X : Type 0} (key : X → ℕ) (t u : X → Bool) (xs : List X) → Distinct key xs → Each key (λ x. t x ≡ u x) xs → filter t xs ≡ filter u xs
filter-same key t u [] d e = refl
filter-same key t u (x ∷ xs) d e = same_step x (t x) (u x) _ _ (each_head key (λ y. t y ≡ u y) x xs e) (filter-same key t u xs d.1 (each_rest key (λ y. t y ≡ u y) x xs d e))

pub map-same : {X Y : Type 0} (key : X → ℕ) (f g : X → Y) (xs : List X) → Distinct key xs → Each key (λ x. f x ≡ g x) xs → map f xs ≡ map g xs
map-same key f g [] d e = refl
map-same key f g (x ∷ xs) d e = rw (each_head key (λ y. f y ≡ g y) x xs e, map-same key f g xs d.1 (each_rest key (λ y. f y ≡ g y) x xs d e))

pub any-same : {X : Type 0} (key : X → ℕ) (t u : X → Bool) (xs : List X) → Distinct key xs → Each key (λ x. t x ≡ u x) xs → list_any t xs ≡ list_any u xs
any-same key t u [] d e = refl
any-same key t u (x ∷ xs) d e = rw (each_head key (λ y. t y ≡ u y) x xs e, any-same key t u xs d.1 (each_rest key (λ y. t y ≡ u y) x xs d e))

-- ---- whether any passes, by what is found
some_step : {X : Type 0} (key : X → ℕ) (t : X → Bool) (q : ℕ) (x y : X) (xs : List X) (b : Bool) → (at key q xs ≡ Some y → list_any t xs ≡ true) → cond b (Some x) (at key q xs) ≡ Some y → t y ≡ true → (t x || list_any t xs) ≡ true
some_step key t q x y xs true ih e p = rw (ap t (some_same x y e) ∙ p)
some_step key t q x y xs false ih e p = rw (ih e) (or_true (t x))

-- where what is found passes, some passes
pub any_some : {X : Type 0} (key : X → ℕ) (t : X → Bool) (q : ℕ) (xs : List X) (y : X) → at key q xs ≡ Some y → t y ≡ true → list_any t xs ≡ true
any_some key t q [] y e p = cc
any_some key t q (x ∷ xs) y e p = some_step key t q x y xs (key x == q) (λ h. any_some key t q xs y h p) e p

-- where none passes, what is found fails
pub any_no : {X : Type 0} (key : X → ℕ) (t : X → Bool) (q : ℕ) (xs : List X) (y : X) → list_any t xs ≡ false → at key q xs ≡ Some y → t y ≡ false
any_no key t q xs y n e = go (t y) refl
  where
    go : (b : Bool) → t y ≡ b → b ≡ false
    go true p = let h : list_any t xs ≡ true = any_some key t q xs y e p in cc
    go false p = refl

-- an element that passes, found at its own key
abbrev pub Passes : {X : Type 0} → (X → ℕ) → (X → Bool) → List X → Type 0
Passes {X} key t xs = (y : X) × (at key (key y) xs ≡ Some y) × (t y ≡ true)

later : {X : Type 0} (key : X → ℕ) (t : X → Bool) (x : X) (xs : List X) → at key (key x) xs ≡ None → Passes key t xs → Passes key t (x ∷ xs)
later {X} key t x xs n (y, h, p) = (y, skip (key x == key y) refl, p)
  where
    skip : (b : Bool) → (key x == key y) ≡ b → cond b (Some x) (at key (key y) xs) ≡ Some y
    skip true s = let m : at key (key y) xs ≡ None = subst (λ z. at key z xs ≡ None) (eqb-true _ _ s) n in cc
    skip false s = h

passes_step : {X : Type 0} (key : X → ℕ) (t : X → Bool) (x : X) (xs : List X) (b : Bool) → t x ≡ b → at key (key x) xs ≡ None → (list_any t xs ≡ true → Passes key t xs) → (b || list_any t xs) ≡ true → Passes key t (x ∷ xs)
passes_step key t x xs true p n ih e = (x, rw (same_number (key x)), p)
passes_step key t x xs false p n ih e = later key t x xs n (ih e)

-- where some passes, one is found that does
pub any_found : {X : Type 0} (key : X → ℕ) (t : X → Bool) (xs : List X) → Distinct key xs → list_any t xs ≡ true → Passes key t xs
any_found key t [] d e = cc
any_found key t (x ∷ xs) d e = passes_step key t x xs (t x) refl d.0 (any_found key t xs d.1) e

-- where each found fails, none passes
pub any_none_found : {X : Type 0} (key : X → ℕ) (t : X → Bool) (xs : List X) → Distinct key xs → Each key (λ x. t x ≡ false) xs → list_any t xs ≡ false
any_none_found key t [] d e = refl
any_none_found key t (x ∷ xs) d e = rw (each_head key (λ y. t y ≡ false) x xs e) (any_none_found key t xs d.1 (each_rest key (λ y. t y ≡ false) x xs d e))
