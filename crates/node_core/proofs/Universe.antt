-- the names of which an advance speaks: those that its courier wants or holds at first, and those of process ids of 32 bits
use Rattle.std.proofs.Common.{◌≡◌, ◌⊎◌, inl, inr, ◌<◌, ◌==◌, ◌||◌, ◌^◌, ℕ, zero, suc, Bool, true, false, List, [], ◌∷◌, ◌++◌, refl, sym, ap, subst, arith}
use Rattle.std.specs.Prelude.{All}
use Rattle.std.proofs.lemmas.Bool.{eq-eqb}
use Rattle.std.proofs.lemmas.List.Elements.{All-head, All-tail}
use Rattle.unix_names.specs.declared.Name.{Name}
use Rattle.unix_names.specs.declared.Name.TheVariants as name
use Rattle.unix_names.specs.Names.{pid_of}
use Rattle.record_bag.specs.Bags.{held_names}
use Rattle.courier_core.specs.declared.Courier.{Courier}
use Rattle.courier_core.specs.Wants.{is_name, lists}
use Rattle.courier_core.proofs.Order.{is_name-true}
use Rattle.courier_core.proofs.Keeping.{lists-left, lists-right}

pub names_below : ℕ → List Name
names_below zero = []
names_below (suc n) = name.V (record { 0 = n }) ∷ name.G (record { 0 = n }) ∷ names_below n

below-cases : (k n : ℕ) → k < suc n → (k ≡ n) ⊎ (k < n)
below-cases k zero lt = inl (omega arith)
below-cases zero (suc n) lt = inr (omega arith)
below-cases (suc k) (suc n) lt = elim (below-cases k n (omega arith)) [ inl e ↦ inl (ap suc e) | inr l ↦ inr (omega arith) ]

or_left : (a b : Bool) → a ≡ true → (a || b) ≡ true
or_left true b h = refl
or_left false b h = cc

or_right : (a b : Bool) → b ≡ true → (a || b) ≡ true
or_right true b h = refl
or_right false b h = h

here : (x : Name) (n : ℕ) (ns : List Name) → pid_of x ≡ n → (is_name (name.V (record { 0 = n })) x || (is_name (name.G (record { 0 = n })) x || lists ns x)) ≡ true
here (name.V q) n ns e = or_left (n == q.0) (false || lists ns (name.V q)) (eq-eqb n q.0 (sym e))
here (name.G q) n ns e = or_left (n == q.0) (lists ns (name.G q)) (eq-eqb n q.0 (sym e))

pub lists-below : (n : ℕ) (x : Name) → pid_of x < n → lists (names_below n) x ≡ true
unfolding names_below
lists-below zero x lt = absurd (omega arith)
lists-below (suc n) x lt = elim (below-cases (pid_of x) n lt) [
  | inl e ↦ here x n (names_below n) e
  | inr l ↦ or_right (is_name (name.V (record { 0 = n })) x) (is_name (name.G (record { 0 = n })) x || lists (names_below n) x) (or_right (is_name (name.G (record { 0 = n })) x) (lists (names_below n) x) (lists-below n x l))
]

pub universe : Courier → List Name
universe c = c.wants ++ held_names c.bag ++ names_below (2 ^ 32)

-- each of them is listed there
pub record IsUniverse (U : List Name) : Type 0 where
  pub all : (x : Name) → pid_of x < 2 ^ 32 → lists U x ≡ true

pub universe-all : (c : Courier) → IsUniverse (universe c)
unfolding universe
universe-all c = record { all = λ x lt. lists-right (c.wants ++ held_names c.bag) (names_below (2 ^ 32)) x (lists-below (2 ^ 32) x lt) }

pub universe-wants : (c : Courier) (x : Name) → lists c.wants x ≡ true → lists (universe c) x ≡ true
unfolding universe
universe-wants c x e = lists-left (c.wants ++ held_names c.bag) (names_below (2 ^ 32)) x (lists-left c.wants (held_names c.bag) x e)

pub universe-holds : (c : Courier) (x : Name) → lists (held_names c.bag) x ≡ true → lists (universe c) x ≡ true
unfolding universe
universe-holds c x e = lists-left (c.wants ++ held_names c.bag) (names_below (2 ^ 32)) x (lists-right c.wants (held_names c.bag) x e)

-- what holds of all holds of each that is listed
pub all-listed : (P : Name → Type 0) (ns : List Name) (x : Name) → All P ns → lists ns x ≡ true → P x
all-listed P [] x all e = cc
all-listed P (n ∷ ns) x all e = go (is_name n x) refl e (λ t. all-listed P ns x (All-tail P n ns all) t)
  where
    go : (b : Bool) → is_name n x ≡ b → (b || lists ns x) ≡ true → (lists ns x ≡ true → P x) → P x
    go true same e rest = subst P (is_name-true n x same) (All-head P n ns all)
    go false same e rest = rest e
