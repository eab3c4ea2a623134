-- two pasts within what one or the other knows, and lines at the places of known turns
use Rattle.std.proofs.Common.{◌≡◌, ⊎_elim, ◌≤◌, ℕ, zero, suc, List, [], ◌∷◌, ◌++◌, length, refl, sym, subst, arith, Option, None, Some}
use mathlib.Core.Option.{some-ne-none}
use Rattle.unix_calls.specs.declared.Entry.{Entry}
use Rattle.unix_calls.specs.declared.Turn.{Turn}
use Rattle.pasts.specs.Pasts.{steps_of, Knows, Stands, union, IsPast, HasAll}
use Rattle.past_lists.specs.Own.{added}
use Rattle.past_lists.proofs.Seen.{union_left, union_right, union_cases, same_place}
use Rattle.cluster_state.specs.Possible.{node_of}
use Rattle.past_laws.specs.Laws.{spread, IsWithin, KnowsAll}

abbrev pub Part : Type 0
Part = List (Option Turn)

-- ---- two pasts of one list within their union
module _ (log : List Turn) (p q : Part) (P : IsPast node_of log p) (Q : IsPast node_of log q) where
  stands : (j : ℕ) (x : Turn) → Knows (union p q) j x → Stands log j x
  stands j x k = ⊎_elim (λ h. P.part j x h) (λ h. Q.part j x h) (union_cases p q j x k)

  pub left_within : IsWithin (union p q) p
  left_within = record { part = λ j x k. union_left p q j x k; closed = λ j k x y lt a b e. P.closed j k x y lt (stands j x a) b e }

  right_part : (j : ℕ) (x : Turn) → Knows q j x → Knows (union p q) j x
  right_part j x k = ⊎_elim (λ h. h) (λ r. union_left p q j x (subst (λ (y : Turn). Knows p j y) (same_place log j r.0 x (P.part j r.0 r.1) (Q.part j x k)) r.1)) (union_right p q j x k)

  pub right_within : IsWithin (union p q) q
  right_within = record { part = right_part; closed = λ j k x y lt a b e. Q.closed j k x y lt (stands j x a) b e }

  pub left_all : (n : ℕ) → HasAll node_of log p n → KnowsAll (union p q) p n
  left_all n all j x k is = all j x (stands j x k) is

-- ---- the lines of the known turns, with one turn more
pub spread_old : (p : Part) (lines : List (Option Entry)) (place j : ℕ) (x : Turn) (line known : Option Entry) → length p ≤ place → length lines ≡ length (steps_of p) → Knows (spread p lines) j known → Knows (spread (added p place x) (lines ++ line ∷ [])) j known
spread_old [] lines place j x line known le len k = absurd (some-ne-none (Some known) (sym k))
spread_old (o ∷ p) lines zero j x line known le len k = absurd (omega arith)
spread_old (None ∷ p) lines (suc place) zero x line known le len k = absurd (cc k)
spread_old (None ∷ p) lines (suc place) (suc j) x line known le len k = spread_old p lines place j x line known (omega arith) len k
spread_old (Some y ∷ p) [] (suc place) j x line known le len k = absurd (omega arith)
spread_old (Some y ∷ p) (l ∷ lines) (suc place) zero x line known le len k = k
spread_old (Some y ∷ p) (l ∷ lines) (suc place) (suc j) x line known le len k = spread_old p lines place j x line known (omega arith) (omega arith) k

pub spread_new : (p : Part) (lines : List (Option Entry)) (place : ℕ) (x : Turn) (line : Option Entry) → length p ≤ place → length lines ≡ length (steps_of p) → Knows (spread (added p place x) (lines ++ line ∷ [])) place line
spread_new [] (l ∷ lines) place x line le len = absurd (omega arith)
spread_new [] [] zero x line le len = refl
spread_new [] [] (suc place) x line le len = spread_new [] [] place x line (omega arith) len
spread_new (o ∷ p) lines zero x line le len = absurd (omega arith)
spread_new (None ∷ p) lines (suc place) x line le len = spread_new p lines place x line (omega arith) len
spread_new (Some y ∷ p) [] (suc place) x line le len = absurd (omega arith)
spread_new (Some y ∷ p) (l ∷ lines) (suc place) x line le len = spread_new p lines place x line (omega arith) (omega arith)
