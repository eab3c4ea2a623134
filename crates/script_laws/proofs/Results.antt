-- facts of what is read, where it is read without a fault
use Rattle.std.proofs.Common.{◌≡◌, ℕ, Bool, true, false, cond, refl, subst, Option, Some, None, Result, Ok, Err}
use Rattle.std.specs.Prelude.{nat_le, length}
use Rattle.script_words.specs.declared.faults.Kind.{Kind}
use Rattle.script_words.specs.declared.faults.Kind.TheVariants.{UnknownWord}
use Rattle.script_words.specs.Words.{Row, ◌>>=◌, found, ended}

-- what is read without a fault is as P says
pub record Gives {A : Type 0} (r : Result A Kind) (P : A → Type 0) : Type 0 where
  pub fact : (x : A) → r ≡ Ok x → P x

pub next : {A B : Type 0} (r : Result A Kind) (f : A → Result B Kind) (P : A → Type 0) (Q : B → Type 0) → Gives r P → ((x : A) → P x → Gives (f x) Q) → Gives (r >>= f) Q
next (Ok x) f P Q h g = g x (h.fact x refl)
next (Err e) f P Q h g = record { fact = λ x e. cc }

pub choice : {A : Type 0} (b : Bool) (x y : Result A Kind) (P : A → Type 0) → (b ≡ true → Gives x P) → (b ≡ false → Gives y P) → Gives (cond b x y) P
choice true x y P f g = f refl
choice false x y P f g = g refl

ok_same : {A : Type 0} (x y : A) → ◌≡◌ {A = Result A Kind} (Ok x) (Ok y) → x ≡ y
ok_same x y e = cc

pub gives : {A : Type 0} (x : A) (P : A → Type 0) → P x → Gives (Ok x) P
gives x P p = record { fact = λ y e. subst P (ok_same x y e) p }

pub fails : {A : Type 0} (kind : Kind) (P : A → Type 0) → Gives (Err kind) P
fails kind P = record { fact = λ x e. cc }

pub anything : {A : Type 0} (r : Result A Kind) → Gives r (λ x. Unit {0})
anything r = record { fact = λ x e. tt }

pub weaker : {A : Type 0} (r : Result A Kind) (P Q : A → Type 0) → Gives r P → ((x : A) → P x → Q x) → Gives r Q
weaker r P Q h g = record { fact = λ x e. g x (h.fact x e) }

pub found_there : {A : Type 0} (o : Option A) (kind : Kind) → Gives (found o kind) (λ x. o ≡ Some x)
found_there (Some x) kind = gives x (λ y. Some x ≡ Some y) refl
found_there None kind = fails kind (λ y. None ≡ Some y)

pub ended_here : {A : Type 0} (row : Row) (n : ℕ) (x : A) (P : A → Type 0) → P x → Gives (ended row n x) P
unfolding ended
ended_here row n x P p = choice (nat_le (length row) n) _ _ P (λ _. gives x P p) (λ _. fails UnknownWord P)

-- ---- what came out without a fault, told backwards
pub next_ok : {A B : Type 0} (r : Result A Kind) (f : A → Result B Kind) (y : B) → (r >>= f) ≡ Ok y → (x : A) × (r ≡ Ok x) × (f x ≡ Ok y)
next_ok (Ok x) f y e = (x, refl, e)
next_ok (Err k) f y e = cc

pub then_ok : {A : Type 0} (b : Bool) (r : Result A Kind) (k : Kind) (y : A) → cond b r (Err k) ≡ Ok y → (b ≡ true) × (r ≡ Ok y)
then_ok true r k y e = (refl, e)
then_ok false r k y e = cc

pub else_ok : {A : Type 0} (b : Bool) (r : Result A Kind) (k : Kind) (y : A) → cond b (Err k) r ≡ Ok y → (b ≡ false) × (r ≡ Ok y)
else_ok true r k y e = cc
else_ok false r k y e = (refl, e)

pub found_ok : {A : Type 0} (o : Option A) (k : Kind) (y : A) → found o k ≡ Ok y → o ≡ Some y
found_ok (Some x) k y e = cc
found_ok None k y e = cc

pub ended_ok : {A : Type 0} (row : Row) (n : ℕ) (x y : A) → ended row n x ≡ Ok y → (nat_le (length row) n ≡ true) × (x ≡ y)
unfolding ended
ended_ok row n x y e = let t = then_ok (nat_le (length row) n) (Ok x) UnknownWord y e in (t.0, ok_same x y t.1)
