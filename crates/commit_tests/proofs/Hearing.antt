-- what the taker has seen when it has heard of the give
use Rattle.std.proofs.Common.{◌≡◌, ℕ, ◌+◌, ◌<◌, ◌≤◌, ◌^◌, List, [], ◌∷◌, ◌++◌, length, Option, Some, refl, sym, ◌∙◌, ap, subst, arith}
use Rattle.token_laws.specs.declared.Move.{Move}
use Rattle.token_laws.specs.declared.Move.TheVariants.{Give, Take}
use Rattle.token_laws.specs.Tokens.{node_of, lawful}
use Rattle.pasts.specs.Pasts.{steps_of, Knows}
use Rattle.past_lists.specs.Own.{added, count}
use Rattle.past_lists.proofs.Seen.{steps_added, added_here, added_old, added_length}

module _ (k : ℕ) (seen : List (Option Move)) (is : seen ≡ added [] k Give) where
  steps : steps_of seen ≡ Give ∷ []
  steps = ap steps_of is ∙ steps_added [] k Give (omega arith)

  pub may_take : lawful (steps_of seen ++ Take ∷ [])
  may_take = subst (λ (l : List Move). lawful (l ++ Take ∷ [])) (sym steps) (omega arith, tt)

  pub has_room : (n : ℕ) → n ≡ 1 → count node_of n (steps_of seen) < 2 ^ 40
  has_room n e = subst (λ (m : ℕ). count node_of m (steps_of seen) < 2 ^ 40) (sym e) (subst (λ (l : List Move). count node_of 1 l < 2 ^ 40) (sym steps) (omega arith))

  pub later : (m : ℕ) → length seen ≤ m → k < m
  later m le = let a = added_length [] k Give (omega arith) in let b = ap (λ (s : List (Option Move)). length s) is in omega arith

  pub heard : Knows seen k Give
  heard = subst (λ (s : List (Option Move)). Knows s k Give) (sym is) (added_here [] k Give (omega arith))

  pub still : (m : ℕ) → Knows (added seen m Take) k Give
  still m = added_old seen m k Take Give heard
