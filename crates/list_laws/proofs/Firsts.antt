-- what is found first
use Rattle.std.proofs.Common.{◌≡◌, ◌==◌, ◌&&◌, ℕ, Bool, true, false, cond, List, [], ◌∷◌, refl, sym, ap, ◌∙◌, Option, None, Some}
use Rattle.std.specs.Prelude.{map, filter, find}
use Rattle.std.specs.Option.{option_map}
use Rattle.list_laws.specs.Keyed.{at, Distinct, Each}
use Rattle.list_laws.proofs.Elements.{each_head, each_rest}
use Rattle.list_laws.proofs.Finding.{same_number}
use Rattle.std.proofs.lemmas.Bool.{eqb-true}

same_step : {X : Type 0} (x : X) (a b : Bool) (l m : Option X) → a ≡ b → l ≡ m → cond a (Some x) l ≡ cond b (Some x) m
same_step x true b l m e h = rw (← e)
same_step x false b l m e h = rw (← e) h

-- the first that passes, by two tests that agree on each that is found
pub find-same : {X : Type 0} (key : X → ℕ) (t u : X → Bool) (xs : List X) → Distinct key xs → Each key (λ x. t x ≡ u x) xs → find t xs ≡ find u xs
find-same key t u [] d e = refl
find-same key t u (x ∷ xs) d e = same_step x (t x) (u x) (find t xs) (find u xs) (each_head key (λ y. t y ≡ u y) x xs e) (find-same key t u xs d.1 (each_rest key (λ y. t y ≡ u y) x xs d e))

step : {X Y : Type 0} (view : X → Y) (t : Y → Bool) (x : X) (a : Bool) (l : List Y) (m : Option X) → find t l ≡ option_map view m → find t (cond a (view x ∷ l) l) ≡ option_map view (cond (a && t (view x)) (Some x) m)
step view t x true l m e = go (t (view x))
  where
    go : (b : Bool) → cond b (Some (view x)) (find t l) ≡ option_map view (cond b (Some x) m)
    go true = refl
    go false = e
step view t x false l m e = e

cons_step : {X Y : Type 0} (view : X → Y) (x : X) (a : Bool) (l : List X) → map view (cond a (x ∷ l) l) ≡ cond a (view x ∷ map view l) (map view l)
cons_step view x true l = refl
cons_step view x false l = refl

-- the first view that passes, of those that are kept
pub find-views : {X Y : Type 0} (view : X → Y) (keep : X → Bool) (t : Y → Bool) (xs : List X) → find t (map view (filter keep xs)) ≡ option_map view (find (λ x. keep x && t (view x)) xs)
find-views view keep t [] = refl
find-views view keep t (x ∷ xs) = ap (find t) (cons_step view x (keep x) (filter keep xs)) ∙ step view t x (keep x) (map view (filter keep xs)) (find (λ y. keep y && t (view y)) xs) (find-views view keep t xs)

-- what is found first passes
pub find_passes : {X : Type 0} (t : X → Bool) (xs : List X) (x : X) → find t xs ≡ Some x → t x ≡ true
find_passes t [] x e = cc
find_passes t (y ∷ ys) x e = go (λ h. find_passes t ys x h) (t y) refl e
  where
    go : (find t ys ≡ Some x → t x ≡ true) → (b : Bool) → t y ≡ b → cond b (Some y) (find t ys) ≡ Some x → t x ≡ true
    go rest true s h = let same : y ≡ x = cc in ap t (sym same) ∙ s
    go rest false s h = rest h

-- and is found at its own key
pub find_own : {X : Type 0} (key : X → ℕ) (t : X → Bool) (xs : List X) (x : X) → Distinct key xs → find t xs ≡ Some x → at key (key x) xs ≡ Some x
find_own key t [] x d e = cc
find_own key t (y ∷ ys) x d e = go (λ h. find_own key t ys x d.1 h) (t y) e
  where
    later : (b : Bool) → (key y == key x) ≡ b → at key (key x) ys ≡ Some x → cond b (Some y) (at key (key x) ys) ≡ Some x
    later true s h = let n : at key (key x) ys ≡ None = ap (λ k. at key k ys) (sym (eqb-true _ _ s)) ∙ d.0 in cc
    later false s h = h

    go : (find t ys ≡ Some x → at key (key x) ys ≡ Some x) → (b : Bool) → cond b (Some y) (find t ys) ≡ Some x → cond (key y == key x) (Some y) (at key (key x) ys) ≡ Some x
    go rest true h = let same : y ≡ x = cc in ap (λ z. cond (key y == key z) (Some y) (at key (key z) ys)) (sym same) ∙ ap (λ (b : Bool). cond b (Some y) (at key (key y) ys)) (same_number (key y)) ∙ ap Some same
    go rest false h = later (key y == key x) refl (rest h)
