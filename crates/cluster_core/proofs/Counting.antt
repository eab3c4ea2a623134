-- how many turns each node made
use Rattle.std.proofs.Common.{◌≡◌, ◌+◌, ◌-◌, ◌<◌, ◌≤◌, ◌≢◌, ◌==◌, ℕ, zero, suc, Bool, true, false, cond, List, [], ◌∷◌, ◌++◌, filter, take, get_or, set, length, refl, sym, ap, ◌∙◌, subst, arith, length-append, length-set, eq-eqb, ne_eqb}
use Rattle.std.specs.Prelude.{slice_index, slice_set}
use Rattle.std.proofs.lemmas.List.{get_or-set_same, get_or-set_other, get_or_default}
use Rattle.std.proofs.lemmas.List.Elements.{filter-append}
use Rattle.std.proofs.lemmas.List.Sums.{sum_by-set}
use Rattle.std.proofs.Math.Seq.{take-suc}
use Rattle.std.specs.Prelude.{sum_by}
use mathlib.Core.Logic.{dite}
use mathlib.Core.Option.{some, some-injective, some-ne-none}
use native.Mathlib.Decide.{ℕ_discrete}
use lib.ListN.{get_elem?}
use Rattle.unix_calls.specs.declared.Turn.{Turn}
use Rattle.cluster_state.specs.Possible.{node_of}
use Rattle.cluster_core.specs.MethodGoingOn.{AreInside, IsTally}
use Rattle.cluster_core.specs.RunOn.{turns_of, most_turns, AreFew}

one_of : Turn → ℕ → ℕ
one_of x k = turns_of k (x ∷ [])

pub one_here : (x : Turn) (k : ℕ) → node_of x ≡ k → turns_of k (x ∷ []) ≡ 1
one_here x k e = ap (λ (b : Bool). length (cond b (x ∷ []) [])) (eq-eqb (node_of x) k e)

pub one_elsewhere : (x : Turn) (k : ℕ) → node_of x ≢ k → turns_of k (x ∷ []) ≡ 0
one_elsewhere x k e = ap (λ (b : Bool). length (cond b (x ∷ []) [])) (ne_eqb (node_of x) k e)

pub turns_join : (k : ℕ) (xs ys : List Turn) → turns_of k (xs ++ ys) ≡ turns_of k xs + turns_of k ys
turns_join k xs ys = ap (λ (l : List Turn). length l) (filter-append (λ (x : Turn). node_of x == k) xs ys) ∙ length-append (filter (λ (x : Turn). node_of x == k) xs) (filter (λ (x : Turn). node_of x == k) ys)

-- a node's turns after one turn more
pub turns_here : (x : Turn) (xs : List Turn) → turns_of (node_of x) (xs ++ x ∷ []) ≡ turns_of (node_of x) xs + 1
turns_here x xs = turns_join (node_of x) xs (x ∷ []) ∙ ap (λ (n : ℕ). turns_of (node_of x) xs + n) (one_here x (node_of x) refl)

pub turns_elsewhere : (x : Turn) (xs : List Turn) (k : ℕ) → node_of x ≢ k → turns_of k (xs ++ x ∷ []) ≡ turns_of k xs
turns_elsewhere x xs k ne = let z : turns_of k xs + 0 ≡ turns_of k xs = omega arith in turns_join k xs (x ∷ []) ∙ ap (λ (n : ℕ). turns_of k xs + n) (one_elsewhere x k ne) ∙ z

-- the tally after one turn more
pub tally_more : (nodes : ℕ) (xs : List Turn) (x : Turn) (made : List ℕ) → node_of x < nodes → IsTally nodes xs made → IsTally nodes (xs ++ x ∷ []) (slice_set made (node_of x) (slice_index made (node_of x) + 1))
tally_more nodes xs x made lt t = record { many = length-set made (node_of x) (slice_index made (node_of x) + 1) ∙ t.many; count = at }
  where
    at : (k : ℕ) → k < nodes → slice_index (slice_set made (node_of x) (slice_index made (node_of x) + 1)) k ≡ turns_of k (xs ++ x ∷ [])
    at k less = dite (ℕ_discrete (node_of x) k)
        (λ e. subst (λ (n : ℕ). slice_index (slice_set made (node_of x) (slice_index made (node_of x) + 1)) n ≡ turns_of n (xs ++ x ∷ [])) e
        (get_or-set_same made (node_of x) (slice_index made (node_of x) + 1) 0 (subst (λ (n : ℕ). node_of x < n) (sym t.many) lt) ∙ ap (λ (n : ℕ). n + 1) (t.count (node_of x) lt) ∙ sym (turns_here x xs)))
        (λ ne. get_or-set_other made (node_of x) k (slice_index made (node_of x) + 1) 0 (λ e. ne (sym e)) ∙ t.count k less ∙ sym (turns_elsewhere x xs k ne))

-- a node may make a turn that has made fewer than it may
pub few_more : (most : ℕ) (xs : List Turn) (x : Turn) → ((k : ℕ) → turns_of k xs ≤ most) → turns_of (node_of x) xs < most → (k : ℕ) → turns_of k (xs ++ x ∷ []) ≤ most
few_more most xs x few less k = dite (ℕ_discrete (node_of x) k)
    (λ e. subst (λ (n : ℕ). turns_of n (xs ++ x ∷ []) ≤ most) e (let h = turns_here x xs in omega (arith, h, less)))
    (λ ne. let h = turns_elsewhere x xs k ne in let f = few k in omega (arith, h, f))

-- a part of the turns at the beginning
pub turns_begin : (k i : ℕ) (xs : List Turn) → turns_of k (take i xs) ≤ turns_of k xs
turns_begin k zero xs = omega arith
turns_begin k (suc i) [] = omega arith
turns_begin k (suc i) (x ∷ xs) = go (node_of x == k) (turns_begin k i xs)
  where
    go : (b : Bool) → turns_of k (take i xs) ≤ turns_of k xs → length (cond b (x ∷ filter (λ (y : Turn). node_of y == k) (take i xs)) (filter (λ (y : Turn). node_of y == k) (take i xs))) ≤ length (cond b (x ∷ filter (λ (y : Turn). node_of y == k) xs) (filter (λ (y : Turn). node_of y == k) xs))
    go true h = omega (arith, h)
    go false h = h

pub get_here : (xs : List Turn) (i : ℕ) (d : Turn) → i < length xs → get_elem? xs i ≡ some (get_or xs i d)
get_here [] i d lt = absurd (omega (arith, lt))
get_here (x ∷ xs) zero d lt = refl
get_here (x ∷ xs) (suc i) d lt = get_here xs i d (omega (arith, lt))

-- what is left to count
pub left_smaller : (most : ℕ) (made : List ℕ) (k : ℕ) → k < length made → slice_index made k < most → sum_by (λ (m : ℕ). most - m) (slice_set made k (slice_index made k + 1)) < sum_by (λ (m : ℕ). most - m) made
left_smaller most made k lt less = let h = sum_by-set (λ (m : ℕ). most - m) made k (slice_index made k + 1) 0 lt in omega (arith, h, less)

-- nothing is counted yet
pub tally_none : (nodes : ℕ) (made : List ℕ) → length made ≡ nodes → ((k : ℕ) → k < nodes → slice_index made k ≡ 0) → IsTally nodes [] made
tally_none nodes made many none = record { many = many; count = none }

-- ---- the turns are counted one by one
module _ (nodes : ℕ) (steps : List Turn) (i : ℕ) (d : Turn) (made : List ℕ) (k : ℕ) (here : i < length steps) (is : k ≡ node_of (get_or steps i d)) (t : IsTally nodes (take i steps) made) where
  inside_here : AreInside nodes steps → node_of (get_or steps i d) < nodes
  inside_here inside = inside i (get_or steps i d) (get_here steps i d here)

  pub count_found : AreInside nodes steps → k < length made
  count_found inside = let h = inside_here inside in let m = t.many in omega (arith, h, m, is)

  pub count_fits : (e : ℕ) → AreInside nodes steps → AreFew steps → get_or made k e ≤ most_turns
  count_fits e inside few =
      let same : get_or made k e ≡ get_or made k 0 = get_or_default made k e 0 (count_found inside) in
      let h = inside_here inside in
      let less : k < nodes = omega (arith, h, is) in
      let c = t.count k less in
      let b = turns_begin k i steps in
      let f = few k in
      omega (arith, c, b, f, same)

  pub count_on : AreInside nodes steps → IsTally nodes (take (i + 1) steps) (slice_set made k (slice_index made k + 1))
  count_on inside =
      let next : suc i ≡ i + 1 = omega arith in
      subst (λ (l : List Turn). IsTally nodes l (slice_set made k (slice_index made k + 1))) (sym (take-suc steps i d here) ∙ ap (λ (n : ℕ). take n steps) next)
      (subst (λ (n : ℕ). IsTally nodes (take i steps ++ get_or steps i d ∷ []) (slice_set made n (slice_index made n + 1))) (sym is) (tally_more nodes (take i steps) (get_or steps i d) made (inside_here inside) t))
