-- Each stage's status is among the statuses, and stands at its place.
use Rattle.std.proofs.Common.{◌≡◌, ◌==◌, ◌||◌, ◌+◌, ℕ, zero, suc, Bool, true, false, cond, List, [], ◌∷◌, ◌++◌, refl, ap, ◌∙◌, subst, Some, slice_get, add-one}
use Rattle.std.specs.Prelude.{fold}
use Rattle.std.specs.List.{list_any}
use Rattle.std.proofs.lemmas.Bool.{eqb-true, eq-eqb}
use Rattle.list_laws.proofs.Filters.{or_true}
use Rattle.job_plans.specs.declared.Stage.{Stage}
use Rattle.job_plans.specs.Plans.{with_status, place_of}

abbrev pub is_in : ℕ → List ℕ → Bool
is_in e xs = list_any (λ d. d == e) xs

-- what is in a list stands at its place
pub placed : (e : ℕ) (xs : List ℕ) → is_in e xs ≡ true → slice_get xs (place_of e xs) ≡ Some e
placed e [] h = cc
placed e (d ∷ xs) h = go (d == e) refl h (placed e xs)
  where
    go : (b : Bool) → (d == e) ≡ b → (b || is_in e xs) ≡ true → (is_in e xs ≡ true → slice_get xs (place_of e xs) ≡ Some e) → slice_get (d ∷ xs) (cond b 0 (place_of e xs + 1)) ≡ Some e
    go true i h rest = ap Some (eqb-true _ _ i)
    go false i h rest = ap (slice_get (d ∷ xs)) (add-one (place_of e xs)) ∙ rest h

in_append : (e : ℕ) (xs : List ℕ) (y : ℕ) → is_in e xs ≡ true → is_in e (xs ++ y ∷ []) ≡ true
in_append e [] y h = cc
in_append e (d ∷ xs) y h = go (d == e) h (in_append e xs y)
  where
    go : (b : Bool) → (b || is_in e xs) ≡ true → (is_in e xs ≡ true → is_in e (xs ++ y ∷ []) ≡ true) → (b || is_in e (xs ++ y ∷ [])) ≡ true
    go true h rest = refl
    go false h rest = rest h

in_last : (xs : List ℕ) (y : ℕ) → is_in y (xs ++ y ∷ []) ≡ true
in_last [] y = ap (λ b. b || false) (eq-eqb y y refl)
in_last (d ∷ xs) y = ap (λ b. (d == y) || b) (in_last xs y) ∙ or_true (d == y)

kept_in : (e : ℕ) (stage : Stage) (xs : List ℕ) → is_in e xs ≡ true → is_in e (with_status xs stage) ≡ true
kept_in e stage xs h = go (is_in stage.status xs)
  where
    go : (b : Bool) → is_in e (cond b xs (xs ++ stage.status ∷ [])) ≡ true
    go true = h
    go false = in_append e xs stage.status h

new_in : (stage : Stage) (xs : List ℕ) → is_in stage.status (with_status xs stage) ≡ true
new_in stage xs = go (is_in stage.status xs) refl
  where
    go : (b : Bool) → is_in stage.status xs ≡ b → is_in stage.status (cond b xs (xs ++ stage.status ∷ [])) ≡ true
    go true h = h
    go false h = in_last xs stage.status

still_in : (e : ℕ) (stages : List Stage) (xs : List ℕ) → is_in e xs ≡ true → is_in e (fold with_status xs stages) ≡ true
still_in e [] xs h = h
still_in e (s ∷ stages) xs h = still_in e stages (with_status xs s) (kept_in e s xs h)

-- the status of each stage is in the list
pub all_in : (stages : List Stage) (xs : List ℕ) (v : ℕ) (stage : Stage) → slice_get stages v ≡ Some stage → is_in stage.status (fold with_status xs stages) ≡ true
all_in [] xs v stage e = cc
all_in (s ∷ stages) xs zero stage e =
    let same : s ≡ stage = cc in
    subst (λ (t : Stage). is_in t.status (fold with_status (with_status xs s) stages) ≡ true) same (still_in s.status stages (with_status xs s) (new_in s xs))
all_in (s ∷ stages) xs (suc v) stage e = all_in stages (with_status xs s) v stage e
