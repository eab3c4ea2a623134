-- lists whose elements have a number as key
use Rattle.std.specs.Prelude.{ℕ, Bool, true, false, ◌≡◌, ◌==◌, List, [], ◌∷◌, find, Option, None, Some, if◌then◌else◌}

-- the first element of a key
abbrev pub at : {X : Type 0} → (X → ℕ) → ℕ → List X → Option X
at key q xs = find (λ x. key x == q) xs

-- no key comes twice
abbrev pub Distinct : {X : Type 0} → (X → ℕ) → List X → Type 0
Distinct key [] = Unit {0}
Distinct key (x ∷ xs) = (at key (key x) xs ≡ None) × Distinct key xs

-- a fact of every element that is found at its own key: where keys are distinct, of every element
abbrev pub Each : {X : Type 0} → (X → ℕ) → (X → Type 0) → List X → Type 0
Each {X} key P xs = (x : X) → at key (key x) xs ≡ Some x → P x

-- what is there, if it passes
abbrev pub option_filter : {X : Type 0} → (X → Bool) → Option X → Option X
option_filter test None = None
option_filter test (Some x) = if test x then Some x else None

-- 1 where it is true
abbrev pub one_if : Bool → ℕ
one_if true = 1
one_if false = 0
