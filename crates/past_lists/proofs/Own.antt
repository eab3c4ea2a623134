-- the list of a node's own places and steps
use Rattle.std.proofs.Common.{◌≡◌, ℕ, zero, suc, ◌+◌, ◌==◌, ◌≤◌, ◌≢◌, Bool, true, false, List, [], ◌∷◌, ◌++◌, length, Option, Some, None, refl, ap, sym, ◌∙◌, subst, arith, eq-eqb, ne_eqb}
use mathlib.Core.Option.{some, some-injective, some-ne-none}
use mathlib.Core.Logic.{dite}
use mathlib.Core.List.{IsPrefix}
use native.Mathlib.Decide.{ℕ_discrete}
use Rattle.pasts.specs.Pasts.{steps_of, Knows, IsPast, HasAll}
use Rattle.past_lists.specs.Own.{added, count, pick, own_list, own_of}
use Rattle.past_lists.proofs.Seen.{hit, miss}

module _ {S : Type 0} (node_of : S → ℕ) where
  pub picked : (x : S) (n : ℕ) (e : ℕ × S) (l : List (ℕ × S)) → node_of x ≡ n → pick (node_of x == n) e l ≡ e ∷ l
  picked x n e l is = ap (λ (b : Bool). pick b e l) (eq-eqb (node_of x) n is)

  pub left_out : (x : S) (n : ℕ) (e : ℕ × S) (l : List (ℕ × S)) → node_of x ≢ n → pick (node_of x == n) e l ≡ l
  left_out x n e l is = ap (λ (b : Bool). pick b e l) (ne_eqb (node_of x) n is)

  pub own_count : (n i : ℕ) (a : List (Option S)) → length (own_list node_of n i a) ≡ count node_of n (steps_of a)
  own_count n i [] = refl
  own_count n i (None ∷ a) = own_count n (suc i) a
  own_count n i (Some x ∷ a) = let r = own_count n (suc i) a in let l = own_list node_of n (suc i) a in
      dite (ℕ_discrete (node_of x) n) (λ e. let h = hit (node_of x) n e in let p = ap (λ (z : List (ℕ × S)). length z) (picked x n (i, x) l e) in omega arith)
      (λ ne. let h = miss (node_of x) n ne in let p = ap (λ (z : List (ℕ × S)). length z) (left_out x n (i, x) l ne) in omega arith)

  pub own_added : (n i k : ℕ) (a : List (Option S)) (x : S) → length a ≤ k → node_of x ≡ n → own_list node_of n i (added a k x) ≡ own_list node_of n i a ++ (i + k, x) ∷ []
  own_added n i zero [] x h e = let z : i ≡ i + 0 = omega arith in picked x n (i, x) [] e ∙ ap (λ (m : ℕ). (m, x) ∷ []) z
  own_added n i (suc k) [] x h e = let z : suc i + k ≡ i + suc k = omega arith in own_added n (suc i) k [] x (omega arith) e ∙ ap (λ (m : ℕ). (m, x) ∷ []) z
  own_added n i zero (o ∷ a) x h e = absurd (omega arith)
  own_added n i (suc k) (None ∷ a) x h e = let z : suc i + k ≡ i + suc k = omega arith in own_added n (suc i) k a x (omega arith) e ∙ ap (λ (m : ℕ). own_list node_of n (suc i) a ++ (m, x) ∷ []) z
  own_added n i (suc k) (Some y ∷ a) x h e =
      let z : suc i + k ≡ i + suc k = omega arith in
      let r = own_added n (suc i) k a x (omega arith) e ∙ ap (λ (m : ℕ). own_list node_of n (suc i) a ++ (m, x) ∷ []) z in
      ap (λ (l : List (ℕ × S)). pick (node_of y == n) (i, y) l) r ∙ spread (node_of y == n) (i, y) (own_list node_of n (suc i) a) ((i + suc k, x) ∷ [])
    where
      spread : (b : Bool) (e : ℕ × S) (l m : List (ℕ × S)) → pick b e (l ++ m) ≡ pick b e l ++ m
      spread true e l m = refl
      spread false e l m = refl

  abbrev pub Within : ℕ → List (Option S) → List (Option S) → Type 0
  Within n a b = (j : ℕ) (x : S) → node_of x ≡ n → Knows a j x → Knows b j x

  pub own_none : (n i : ℕ) (b : List (Option S)) → Within n b [] → own_list node_of n i b ≡ []
  own_none n i [] h = refl
  own_none n i (None ∷ b) h = own_none n (suc i) b (λ j x e k. absurd (some-ne-none (Some x) (sym (h (suc j) x e k))))
  own_none n i (Some y ∷ b) h = left_out y n (i, y) (own_list node_of n (suc i) b) (λ e. some-ne-none (Some y) (sym (h zero y e refl))) ∙ own_none n (suc i) b (λ j x e k. absurd (some-ne-none (Some x) (sym (h (suc j) x e k))))

  pub none_some : (x : S) → some None ≡ some (Some x) → ⊥
  none_some x e = absurd (cc e)

  pub some_some : (x y : S) → some (Some x) ≡ some (Some y) → x ≡ y
  some_some x y e = cc e

  -- who knows the same of a node has the same list of it
  pub own_same : (n i : ℕ) (a b : List (Option S)) → Within n a b → Within n b a → own_list node_of n i a ≡ own_list node_of n i b
  own_same n i [] b h g = sym (own_none n i b g)
  own_same n i (o ∷ a) [] h g = own_none n i (o ∷ a) h
  own_same n i (None ∷ a) (None ∷ b) h g = own_same n (suc i) a b (λ j. h (suc j)) (λ j. g (suc j))
  own_same n i (None ∷ a) (Some y ∷ b) h g = own_same n (suc i) a b (λ j. h (suc j)) (λ j. g (suc j)) ∙ sym (left_out y n (i, y) (own_list node_of n (suc i) b) (λ e. none_some y (g zero y e refl)))
  own_same n i (Some x ∷ a) (None ∷ b) h g = left_out x n (i, x) (own_list node_of n (suc i) a) (λ e. none_some x (h zero x e refl)) ∙ own_same n (suc i) a b (λ j. h (suc j)) (λ j. g (suc j))
  own_same n i (Some x ∷ a) (Some y ∷ b) h g =
      let r = own_same n (suc i) a b (λ j. h (suc j)) (λ j. g (suc j)) in
      let l = own_list node_of n (suc i) a in
      let m = own_list node_of n (suc i) b in
      dite (ℕ_discrete (node_of x) n)
      (λ e. let s : y ≡ x = some_some y x (h zero x e refl) in picked x n (i, x) l e ∙ (ap (λ (z : List (ℕ × S)). (i, x) ∷ z) r ∙ (ap (λ (z : S). (i, z) ∷ m) (sym s) ∙ sym (picked y n (i, y) m (ap node_of s ∙ e)))))
      (λ ne. left_out x n (i, x) l ne ∙ (r ∙ sym (left_out y n (i, y) m (λ e. ne (ap node_of (some_some x y (g zero y e refl)) ∙ e)))))

  pub past_tail : (x : S) (log : List S) (o : Option S) (a : List (Option S)) → IsPast node_of (x ∷ log) (o ∷ a) → IsPast node_of log a
  past_tail x log o a P = record { short = let s = P.short in omega arith; part = λ j y k. P.part (suc j) y k; closed = λ j k y z lt st kn same. P.closed (suc j) (suc k) y z (omega arith) st kn same }

  -- a past's list of a node begins that of the whole
  pub past_prefix : (n i : ℕ) (log : List S) (a : List (Option S)) → IsPast node_of log a → IsPrefix (own_list node_of n i a) (own_of node_of n i log)
  past_prefix n i log [] P = (own_of node_of n i log, refl)
  past_prefix n i [] (o ∷ a) P = let s = P.short in absurd (omega arith)
  past_prefix n i (x ∷ log) (None ∷ a) P = dite (ℕ_discrete (node_of x) n)
      (λ e. let nil = own_none n (suc i) a (λ j y is k. absurd (none_some x (P.closed zero (suc j) x y (omega arith) refl k (e ∙ sym is)))) in (own_of node_of n i (x ∷ log), ap (λ (l : List (ℕ × S)). l ++ own_of node_of n i (x ∷ log)) nil))
      (λ ne. subst (λ (l : List (ℕ × S)). IsPrefix (own_list node_of n (suc i) a) l) (sym (left_out x n (i, x) (own_of node_of n (suc i) log) ne)) (past_prefix n (suc i) log a (past_tail x log None a P)))
  past_prefix n i (x ∷ log) (Some y ∷ a) P =
      let same : x ≡ y = some-injective x y (P.part zero y refl) in
      let r = past_prefix n (suc i) log a (past_tail x log (Some y) a P) in
      let l = own_list node_of n (suc i) a in
      let m = own_of node_of n (suc i) log in
      subst (λ (z : S). IsPrefix (pick (node_of z == n) (i, z) l) (pick (node_of x == n) (i, x) m)) same (both_begin (node_of x == n) (i, x) l m r)
    where
      both_begin : (b : Bool) (e : ℕ × S) (l m : List (ℕ × S)) → IsPrefix l m → IsPrefix (pick b e l) (pick b e m)
      both_begin true e l m r = (r.0, ap (λ (z : List (ℕ × S)). e ∷ z) r.1)
      both_begin false e l m r = r

  -- who knows all of a node has just its list
  pub own_whole : (n : ℕ) (log : List S) (a : List (Option S)) → IsPast node_of log a → HasAll node_of log a n → own_list node_of n 0 a ≡ own_of node_of n 0 log
  own_whole n log a P all = whole_from n 0 log a P all
    where
      whole_from : (n i : ℕ) (log : List S) (a : List (Option S)) → IsPast node_of log a → HasAll node_of log a n → own_list node_of n i a ≡ own_of node_of n i log
      whole_from n i [] [] P all = refl
      whole_from n i [] (o ∷ a) P all = let s = P.short in absurd (omega arith)
      whole_from n i (x ∷ log) [] P all = sym (left_out x n (i, x) (own_of node_of n (suc i) log) (λ e. some-ne-none (Some x) (sym (all zero x refl e))) ∙ sym (whole_from n (suc i) log [] (record { short = omega arith; part = λ j y k. absurd (some-ne-none (Some y) (sym k)); closed = λ j k y z lt st kn same. absurd (some-ne-none (Some z) (sym kn)) }) (λ j y st e. absurd (some-ne-none (Some y) (sym (all (suc j) y st e))))))
      whole_from n i (x ∷ log) (None ∷ a) P all = whole_from n (suc i) log a (past_tail x log None a P) (λ j. all (suc j)) ∙ sym (left_out x n (i, x) (own_of node_of n (suc i) log) (λ e. none_some x (all zero x refl e)))
      whole_from n i (x ∷ log) (Some y ∷ a) P all =
          let same : x ≡ y = some-injective x y (P.part zero y refl) in
          let r = whole_from n (suc i) log a (past_tail x log (Some y) a P) (λ j. all (suc j)) in
          ap (λ (z : S). pick (node_of z == n) (i, z) (own_list node_of n (suc i) a)) (sym same) ∙ ap (λ (l : List (ℕ × S)). pick (node_of x == n) (i, x) l) r
