-- two pasts of one list, node by node
use Rattle.std.proofs.Common.{◌≡◌, ℕ, zero, suc, ◌==◌, inl, inr, ⊎_elim, List, [], ◌∷◌, Option, Some, None, refl, ap, sym, ◌∙◌, subst, arith, append-nil}
use mathlib.Core.Option.{some-injective}
use mathlib.Core.Logic.{dite}
use mathlib.Core.List.{IsPrefix}
use native.Mathlib.Decide.{ℕ_discrete}
use Rattle.pasts.specs.Pasts.{Knows, union, IsPast, HasAll}
use Rattle.past_lists.specs.Own.{pick, own_list}
use Rattle.past_lists.specs.Beginnings.{IsLonger, PastsBegin, PastsJoin}
use Rattle.past_lists.proofs.Seen.{union_past}
use Rattle.past_lists.proofs.Own.{picked, left_out, own_none, own_same, none_some, past_tail, past_prefix, own_whole}

module _ {A : Type 0} where
  pub of_nothing : (xs : List A) → IsPrefix [] xs
  of_nothing xs = (xs, refl)

  pub whole_prefix : (xs : List A) → IsPrefix xs xs
  whole_prefix xs = ([], append-nil xs)

  pub cons_longer : (e : A) (xs ys zs : List A) → IsLonger xs ys zs → IsLonger (e ∷ xs) (e ∷ ys) (e ∷ zs)
  cons_longer e xs ys zs = ⊎_elim (λ h. inl ((h.0.0, ap (λ l. e ∷ l) h.0.1), ap (λ l. e ∷ l) h.1)) (λ h. inr ((h.0.0, ap (λ l. e ∷ l) h.0.1), ap (λ l. e ∷ l) h.1))

module _ {A : Type 0} where
  pub same_longer : (xs ys zs us vs ws : List A) → xs ≡ us → ys ≡ vs → zs ≡ ws → IsLonger us vs ws → IsLonger xs ys zs
  same_longer xs ys zs us vs ws a b c l = subst (λ (u : List A). IsLonger u ys zs) (sym a) (subst (λ (v : List A). IsLonger us v zs) (sym b) (subst (λ (w : List A). IsLonger us vs w) (sym c) l))

  pub empty_prefix : (xs : List A) → IsPrefix xs [] → xs ≡ []
  empty_prefix [] h = refl
  empty_prefix (x ∷ xs) h = absurd (cc h.1)

  -- where one of two lists is empty, the longer is the other
  pub longer_first : (xs ys zs : List A) → IsLonger xs ys zs → ys ≡ [] → zs ≡ xs
  longer_first xs ys zs l e = ⊎_elim (λ h. h.1 ∙ (e ∙ sym (empty_prefix xs (subst (λ (u : List A). IsPrefix xs u) e h.0)))) (λ h. h.1) l

  pub longer_last : (xs ys zs : List A) → IsLonger xs ys zs → xs ≡ [] → zs ≡ ys
  longer_last xs ys zs l e = ⊎_elim (λ h. h.1) (λ h. h.1 ∙ (e ∙ sym (empty_prefix ys (subst (λ (u : List A). IsPrefix ys u) e h.0)))) l

  pub longer_than_none : (xs ys zs : List A) → ys ≡ [] → zs ≡ xs → IsLonger xs ys zs
  longer_than_none xs ys zs e f = inr (subst (λ (u : List A). IsPrefix u xs) (sym e) (of_nothing xs), f)

  pub none_than_longer : (xs ys zs : List A) → xs ≡ [] → zs ≡ ys → IsLonger xs ys zs
  none_than_longer xs ys zs e f = inl (subst (λ (u : List A). IsPrefix u ys) (sym e) (of_nothing ys), f)

module _ {S : Type 0} (node_of : S → ℕ) where
  abbrev own : ℕ → ℕ → List (Option S) → List (ℕ × S)
  own = own_list node_of

  pub joined_past : (log : List S) (p q : List (Option S)) → IsPast node_of log p → IsPast node_of log q → IsPast node_of log (union p q)
  joined_past log p q P Q = union_past node_of (λ xs. Unit {0}) log p q P Q

  -- a past to which the first step is unknown has no step of that step's node
  pub none_behind : (n i : ℕ) (x : S) (log : List S) (a : List (Option S)) → IsPast node_of (x ∷ log) (None ∷ a) → node_of x ≡ n → own n i a ≡ []
  none_behind n i x log a P e = own_none node_of n i a (λ j y is k. absurd (none_some node_of x (P.closed zero (suc j) x y (omega arith) refl k (e ∙ sym is))))

  -- what the first step of a past is
  pub first_is : (x y : S) (log : List S) (a : List (Option S)) → IsPast node_of (x ∷ log) (Some y ∷ a) → x ≡ y
  first_is x y log a P = some-injective x y (P.part zero y refl)

  pub joined_longer : (n i : ℕ) (log : List S) (p q : List (Option S)) → IsPast node_of log p → IsPast node_of log q → IsLonger (own n i p) (own n i q) (own n i (union p q))
  joined_longer n i log [] q P Q = inl (of_nothing (own n i q), refl)
  joined_longer n i log (a ∷ p) [] P Q = inr (of_nothing (own n i (a ∷ p)), refl)
  joined_longer n i [] (a ∷ p) (b ∷ q) P Q = let s = P.short in absurd (omega arith)
  joined_longer n i (x ∷ log) (None ∷ p) (None ∷ q) P Q = joined_longer n (suc i) log p q (past_tail node_of x log None p P) (past_tail node_of x log None q Q)
  joined_longer n i (x ∷ log) (Some y ∷ p) (None ∷ q) P Q =
      let r = joined_longer n (suc i) log p q (past_tail node_of x log (Some y) p P) (past_tail node_of x log None q Q) in
      let u = own n (suc i) p in
      let v = own n (suc i) q in
      let w = own n (suc i) (union p q) in
      dite (ℕ_discrete (node_of y) n)
      (λ e. let nil = none_behind n (suc i) x log q Q (ap node_of (first_is x y log p P) ∙ e) in
      longer_than_none (own n i (Some y ∷ p)) v (own n i (Some y ∷ union p q)) nil (ap (λ (l : List (ℕ × S)). pick (node_of y == n) (i, y) l) (longer_first u v w r nil)))
      (λ ne. same_longer (own n i (Some y ∷ p)) v (own n i (Some y ∷ union p q)) u v w (left_out node_of y n (i, y) u ne) refl (left_out node_of y n (i, y) w ne) r)
  joined_longer n i (x ∷ log) (None ∷ p) (Some y ∷ q) P Q =
      let r = joined_longer n (suc i) log p q (past_tail node_of x log None p P) (past_tail node_of x log (Some y) q Q) in
      let u = own n (suc i) p in
      let v = own n (suc i) q in
      let w = own n (suc i) (union p q) in
      dite (ℕ_discrete (node_of y) n)
      (λ e. let nil = none_behind n (suc i) x log p P (ap node_of (first_is x y log q Q) ∙ e) in
      none_than_longer u (own n i (Some y ∷ q)) (own n i (Some y ∷ union p q)) nil (ap (λ (l : List (ℕ × S)). pick (node_of y == n) (i, y) l) (longer_last u v w r nil)))
      (λ ne. same_longer u (own n i (Some y ∷ q)) (own n i (Some y ∷ union p q)) u v w refl (left_out node_of y n (i, y) v ne) (left_out node_of y n (i, y) w ne) r)
  joined_longer n i (x ∷ log) (Some y ∷ p) (Some z ∷ q) P Q =
      let r = joined_longer n (suc i) log p q (past_tail node_of x log (Some y) p P) (past_tail node_of x log (Some z) q Q) in
      let u = own n (suc i) p in
      let v = own n (suc i) q in
      let w = own n (suc i) (union p q) in
      let same : z ≡ y = sym (first_is x z log q Q) ∙ first_is x y log p P in
      let right : own n i (Some z ∷ q) ≡ own n i (Some y ∷ q) = ap (λ (t : S). own n i (Some t ∷ q)) same in
      dite (ℕ_discrete (node_of y) n)
      (λ e. same_longer (own n i (Some y ∷ p)) (own n i (Some z ∷ q)) (own n i (Some y ∷ union p q)) ((i, y) ∷ u) ((i, y) ∷ v) ((i, y) ∷ w) (picked node_of y n (i, y) u e) (right ∙ picked node_of y n (i, y) v e) (picked node_of y n (i, y) w e) (cons_longer (i, y) u v w r))
      (λ ne. same_longer (own n i (Some y ∷ p)) (own n i (Some z ∷ q)) (own n i (Some y ∷ union p q)) u v w (left_out node_of y n (i, y) u ne) (right ∙ left_out node_of y n (i, y) v ne) (left_out node_of y n (i, y) w ne) r)

  -- who learns nothing new of a node that it knows whole
  pub own_stays : (n : ℕ) (log : List S) (p u : List (Option S)) → HasAll node_of log p n → IsPast node_of log u → ((j : ℕ) (x : S) → Knows p j x → Knows u j x) → own n 0 u ≡ own n 0 p
  own_stays n log p u all U more = own_same node_of n 0 u p (λ j x is k. all j x (U.part j x k) is) (λ j x is k. more j x k)

  pub begin : (log : List S) (past : List (Option S)) → IsPast node_of log past → PastsBegin node_of log past
  begin log past P = record { begins = λ n. past_prefix node_of n 0 log past P; all = λ n all. own_whole node_of n log past P all }

  pub join : (log : List S) (p q : List (Option S)) → IsPast node_of log p → IsPast node_of log q → PastsJoin node_of log p q
  join log p q P Q = record { past = joined_past log p q P Q; longer = λ n. joined_longer n 0 log p q P Q }
