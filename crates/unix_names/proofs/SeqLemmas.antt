use Rattle.std.proofs.Common.{◌≡◌, ◌↔◌, ◌&&◌, Bool, true, false, List, [], ◌∷◌, refl}
use Rattle.std.specs.Prelude.{IsTrue}
use Rattle.std.specs.Cmp.Lexicographic.{pointwise}

both_true : (a b : Bool) → IsTrue (a && b) → IsTrue a × IsTrue b
both_true true b h = (refl, h)
both_true false b h = absurd (cc)

-- two lists are equal item by item exactly where they are equal, if the test of items says so of items
pub pointwise-same : {T : Type 0} {E : T → T → Bool} → ((x y : T) → IsTrue (E x y) ↔ (x ≡ y)) → (xs ys : List T) → IsTrue (pointwise E xs ys) ↔ (xs ≡ ys)
pointwise-same same [] [] = (λ h. refl, λ e. refl)
pointwise-same same [] (y ∷ ys) = (λ h. absurd (cc), λ e. absurd (cc))
pointwise-same same (x ∷ xs) [] = (λ h. absurd (cc), λ e. absurd (cc))
pointwise-same {T} {E} same (x ∷ xs) (y ∷ ys) =
    let rest = pointwise-same {E = E} same xs ys in (
      λ h. let b = both_true (E x y) (pointwise E xs ys) h in
          let heads = (same x y).0 b.0 in
          let tails = rest.0 b.1 in
          cc,
      λ e. let heads : x ≡ y = cc in
          let tails : xs ≡ ys = cc in
          rw ((same x y).1 heads, rest.1 tails) refl,
    )
