-- names stand in one order, which has no two names at one place
use Rattle.std.proofs.Common.{ℕ, ◌⊎◌, inl, inr, ◌≡◌, ◌<◌, refl, arith, ap}
use Rattle.std.proofs.lemmas.Bool.{ltb-true, lt-ltb}
use Rattle.unix_names.specs.Names.{IsBefore}
use Rattle.unix_names.specs.declared.names.Name.{Name}
use Rattle.unix_names.specs.declared.names.Name.TheVariants.{V, G}

pub IsBefore-self : (a : Name) → IsBefore a a → ⊥
IsBefore-self (V p) h = let less = ltb-true p.0 p.0 h in omega (arith, less)
IsBefore-self (G g) h = let less = ltb-true g.0 g.0 h in omega (arith, less)

pub IsBefore-trans : (a b c : Name) → IsBefore a b → IsBefore b c → IsBefore a c
IsBefore-trans (V p) (V q) (V r) h k = let one = ltb-true p.0 q.0 h in let two = ltb-true q.0 r.0 k in lt-ltb p.0 r.0 (omega (arith, one, two))
IsBefore-trans (V p) (V q) (G r) h k = refl
IsBefore-trans (V p) (G q) (V r) h k = cc
IsBefore-trans (V p) (G q) (G r) h k = refl
IsBefore-trans (G p) (V q) c h k = cc
IsBefore-trans (G p) (G q) (V r) h k = k
IsBefore-trans (G p) (G q) (G r) h k = let one = ltb-true p.0 q.0 h in let two = ltb-true q.0 r.0 k in lt-ltb p.0 r.0 (omega (arith, one, two))

apart : (m n : ℕ) → (m < n) ⊎ ((m ≡ n) ⊎ (n < m))
apart m n = grind arith

pub IsBefore-cases : (a b : Name) → IsBefore a b ⊎ ((a ≡ b) ⊎ IsBefore b a)
IsBefore-cases (V p) (V q) = cases (apart p.0 q.0) where
  cases : (p.0 < q.0) ⊎ ((p.0 ≡ q.0) ⊎ (q.0 < p.0)) → IsBefore (V p) (V q) ⊎ ((V p ≡ V q) ⊎ IsBefore (V q) (V p))
  cases (inl less) = inl (lt-ltb p.0 q.0 less)
  cases (inr (inl same)) = inr (inl (ap (λ n. V (record { 0 = n })) same))
  cases (inr (inr more)) = inr (inr (lt-ltb q.0 p.0 more))
IsBefore-cases (V p) (G q) = inl refl
IsBefore-cases (G p) (V q) = inr (inr refl)
IsBefore-cases (G p) (G q) = cases (apart p.0 q.0) where
  cases : (p.0 < q.0) ⊎ ((p.0 ≡ q.0) ⊎ (q.0 < p.0)) → IsBefore (G p) (G q) ⊎ ((G p ≡ G q) ⊎ IsBefore (G q) (G p))
  cases (inl less) = inl (lt-ltb p.0 q.0 less)
  cases (inr (inl same)) = inr (inl (ap (λ n. G (record { 0 = n })) same))
  cases (inr (inr more)) = inr (inr (lt-ltb q.0 p.0 more))
