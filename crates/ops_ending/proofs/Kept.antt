-- taking those out one by one that fail a test
use Rattle.std.proofs.Common.{◌≡◌, ◌<◌, ℕ, zero, suc, Bool, false, cond, List, [], ◌∷◌, ◌++◌, length, get_or, take, drop, sym, ap, arith}
use Rattle.std.specs.Prelude.{filter, remove}

-- one that fails is taken out, and the next stands there
pub failed-goes : {X : Type 0} (test : X → Bool) (xs : List X) (a : ℕ) (d : X) → a < length xs → test (get_or xs a d) ≡ false → take a (remove xs a) ++ filter test (drop a (remove xs a)) ≡ take a xs ++ filter test (drop a xs)
failed-goes test [] a d within fails = absurd (omega arith)
failed-goes test (x ∷ xs) zero d within fails = sym (ap (λ (b : Bool). cond b (x ∷ filter test xs) (filter test xs)) fails)
failed-goes test (x ∷ xs) (suc a) d within fails = ap (λ l. x ∷ l) (failed-goes test xs a d (omega arith) fails)
