-- pasts by one number a node
use Rattle.std.proofs.Common.{◌≡◌, ◌↔◌, ◌-◌, ◌==◌, ◌<◌, ◌≤◌, ◌≢◌, ℕ, zero, suc, max, Bool, true, false, cond, List, [], ◌∷◌, filter, length, refl, sym, ap, ◌∙◌, subst, arith, Option, None, Some, eq-eqb, ne_eqb}
use mathlib.Core.Logic.{dite}
use mathlib.Core.Option.{some, some-injective, some-ne-none}
use native.Mathlib.Decide.{ℕ_discrete}
use Rattle.unix_calls.specs.declared.Turn.{Turn}
use Rattle.unix_calls.specs.declared.World.{World}
use Rattle.pasts.specs.Pasts.{steps_of, Knows, Stands, union, first_of, IsPast, IsLawfulPast, HasAll}
use Rattle.node_core.specs.Advance.{Ask}
use Rattle.cluster_state.specs.Cluster.{first_cluster}
use Rattle.cluster_state.specs.Possible.{node_of, Possible}
use Rattle.past_laws.specs.Numbers.{if_any, one_fewer, count, first_steps, NumbersChoose, first_turns, IsEnough}
use Rattle.past_laws.proofs.Pasts.{merge, causal, true_past}

fewer_le : (k n : ℕ) (numbers : ℕ → ℕ) → one_fewer k numbers n ≤ numbers n
fewer_le k n numbers = go (n == k)
  where
    go : (b : Bool) → cond b (numbers n - 1) (numbers n) ≤ numbers n
    go true = omega arith
    go false = omega arith

fewer_here : (k : ℕ) (numbers : ℕ → ℕ) → one_fewer k numbers k ≡ numbers k - 1
fewer_here k numbers = ap (λ (b : Bool). cond b (numbers k - 1) (numbers k)) (eq-eqb k k refl)

fewer_elsewhere : (k n : ℕ) (numbers : ℕ → ℕ) → n ≢ k → one_fewer k numbers n ≡ numbers n
fewer_elsewhere k n numbers ne = ap (λ (b : Bool). cond b (numbers n - 1) (numbers n)) (ne_eqb n k ne)

fewer_same : (k n : ℕ) (a b : ℕ → ℕ) → a n ≡ b n → one_fewer k a n ≡ one_fewer k b n
fewer_same k n a b e = ap (λ (m : ℕ). cond (n == k) (m - 1) m) e

fewer_larger : (k n : ℕ) (a b : ℕ → ℕ) → max (one_fewer k a n) (one_fewer k b n) ≡ one_fewer k (λ i. max (a i) (b i)) n
fewer_larger k n a b = go (n == k)
  where
    go : (t : Bool) → max (cond t (a n - 1) (a n)) (cond t (b n - 1) (b n)) ≡ cond t (max (a n) (b n) - 1) (max (a n) (b n))
    go true = omega arith
    go false = refl

module _ {S : Type 0} where
  any_some : (n : ℕ) (x : S) → 0 < n → if_any n x ≡ Some x
  any_some zero x lt = absurd (omega (arith, lt))
  any_some (suc n) x lt = refl

  any_none : (n : ℕ) (x : S) → n ≡ 0 → if_any n x ≡ None
  any_none n x e = ap (λ (m : ℕ). if_any m x) e

  any_known : (n : ℕ) (x y : S) → some (if_any n x) ≡ some (Some y) → (0 < n) × (x ≡ y)
  any_known zero x y e = absurd (cc e)
  any_known (suc n) x y e = (omega arith, cc e)

  any_larger : (m n : ℕ) (x : S) → first_of (if_any m x) (if_any n x) ≡ if_any (max m n) x
  any_larger zero zero x = refl
  any_larger zero (suc n) x = sym (any_some (max zero (suc n)) x (omega arith))
  any_larger (suc m) n x = sym (any_some (max (suc m) n) x (omega arith))

  none_known : (x : S) → some None ≡ some (Some x) → ⊥
  none_known x e = absurd (cc e)

  some_known : (x y : S) → some (Some x) ≡ some (Some y) → x ≡ y
  some_known x y e = cc e

module _ {S : Type 0} (node : S → ℕ) where
  first_short : (numbers : ℕ → ℕ) (log : List S) → length (first_steps node numbers log) ≡ length log
  first_short numbers [] = refl
  first_short numbers (x ∷ xs) = ap suc (first_short (one_fewer (node x) numbers) xs)

  -- who is chosen has a number left
  first_left : (numbers : ℕ → ℕ) (log : List S) (j : ℕ) (x : S) → Knows (first_steps node numbers log) j x → 0 < numbers (node x)
  first_left numbers [] j x e = absurd (some-ne-none (Some x) (sym e))
  first_left numbers (y ∷ ys) zero x e = let h = any_known (numbers (node y)) y x e in subst (λ (z : S). 0 < numbers (node z)) h.1 h.0
  first_left numbers (y ∷ ys) (suc j) x e = let h = first_left (one_fewer (node y) numbers) ys j x e in let l = fewer_le (node y) (node x) numbers in omega (arith, h, l)

  first_part : (numbers : ℕ → ℕ) (log : List S) (j : ℕ) (x : S) → Knows (first_steps node numbers log) j x → Stands log j x
  first_part numbers [] j x e = absurd (some-ne-none (Some x) (sym e))
  first_part numbers (y ∷ ys) zero x e = ap (λ (z : S). some z) (any_known (numbers (node y)) y x e).1
  first_part numbers (y ∷ ys) (suc j) x e = first_part (one_fewer (node y) numbers) ys j x e

  first_closed : (numbers : ℕ → ℕ) (log : List S) (j k : ℕ) (x y : S) → j < k → Stands log j x → Knows (first_steps node numbers log) k y → node x ≡ node y → Knows (first_steps node numbers log) j x
  first_closed numbers [] j k x y lt st kn same = absurd (some-ne-none x (sym st))
  first_closed numbers (z ∷ zs) j zero x y lt st kn same = absurd (omega (arith, lt))
  first_closed numbers (z ∷ zs) zero (suc k) x y lt st kn same =
      let is = some-injective z x st in
      let left = first_left (one_fewer (node z) numbers) zs k y kn in
      let l = fewer_le (node z) (node y) numbers in
      let here : 0 < numbers (node y) = omega (arith, left, l) in
      ap (λ (o : Option S). some o) (any_some (numbers (node z)) z (subst (λ (n : ℕ). 0 < numbers n) (sym (ap node is ∙ same)) here) ∙ ap (λ (s : S). Some s) is)
  first_closed numbers (z ∷ zs) (suc j) (suc k) x y lt st kn same = first_closed (one_fewer (node z) numbers) zs j k x y (omega (arith, lt)) st kn same

  first_past : (numbers : ℕ → ℕ) (log : List S) → IsPast node log (first_steps node numbers log)
  first_past numbers log = record { short = let s = first_short numbers log in omega (arith, s); part = first_part numbers log; closed = first_closed numbers log }

  -- ---- counts
  count_here : (x : S) (xs : List S) (n : ℕ) → node x ≡ n → count node n (x ∷ xs) ≡ suc (count node n xs)
  count_here x xs n e = ap (λ (b : Bool). length (cond b (x ∷ filter (λ (y : S). node y == n) xs) (filter (λ (y : S). node y == n) xs))) (eq-eqb (node x) n e)

  count_elsewhere : (x : S) (xs : List S) (n : ℕ) → node x ≢ n → count node n (x ∷ xs) ≡ count node n xs
  count_elsewhere x xs n ne = ap (λ (b : Bool). length (cond b (x ∷ filter (λ (y : S). node y == n) xs) (filter (λ (y : S). node y == n) xs))) (ne_eqb (node x) n ne)

  first_all : (numbers : ℕ → ℕ) (log : List S) (n : ℕ) → count node n log ≤ numbers n → HasAll node log (first_steps node numbers log) n
  first_all numbers [] n le j x st is = absurd (some-ne-none x (sym st))
  first_all numbers (y ∷ ys) n le zero x st is =
      let same = some-injective y x st in
      let c = count_here y ys n (ap node same ∙ is) in
      let here : 0 < numbers n = omega (arith, c, le) in
      ap (λ (o : Option S). some o) (any_some (numbers (node y)) y (subst (λ (m : ℕ). 0 < numbers m) (sym (ap node same ∙ is)) here) ∙ ap (λ (s : S). Some s) same)
  first_all numbers (y ∷ ys) n le (suc j) x st is = first_all (one_fewer (node y) numbers) ys n rest j x st is
    where
      rest : count node n ys ≤ one_fewer (node y) numbers n
      rest = dite (ℕ_discrete (node y) n)
          (λ e. let c = count_here y ys n e in let f = subst (λ (m : ℕ). one_fewer m numbers n ≡ numbers n - 1) (sym e) (fewer_here n numbers) in omega (arith, c, f, le))
          (λ ne. let c = count_elsewhere y ys n ne in let f = fewer_elsewhere (node y) n numbers (λ e. ne (sym e)) in omega (arith, c, f, le))

  -- ---- two choices
  first_same : (a b : ℕ → ℕ) (log : List S) → ((n : ℕ) → a n ≡ b n) → first_steps node a log ≡ first_steps node b log
  first_same a b [] e = refl
  first_same a b (x ∷ xs) e =
      ap (λ (n : ℕ). if_any n x ∷ first_steps node (one_fewer (node x) a) xs) (e (node x))
      ∙ ap (λ (l : List (Option S)). if_any (b (node x)) x ∷ l) (first_same (one_fewer (node x) a) (one_fewer (node x) b) xs (λ n. fewer_same (node x) n a b (e n)))

  first_larger : (a b : ℕ → ℕ) (log : List S) → union (first_steps node a log) (first_steps node b log) ≡ first_steps node (λ n. max (a n) (b n)) log
  first_larger a b [] = refl
  first_larger a b (x ∷ xs) =
      ap (λ (o : Option S). o ∷ union (first_steps node (one_fewer (node x) a) xs) (first_steps node (one_fewer (node x) b) xs)) (any_larger (a (node x)) (b (node x)) x)
      ∙ ap (λ (l : List (Option S)). if_any (max (a (node x)) (b (node x))) x ∷ l)
      (first_larger (one_fewer (node x) a) (one_fewer (node x) b) xs
      ∙ first_same (λ n. max (one_fewer (node x) a n) (one_fewer (node x) b n)) (one_fewer (node x) (λ n. max (a n) (b n))) xs (λ n. fewer_larger (node x) n a b))

  -- ---- each past is a choice
  -- a step of a node that is counted is known
  counted : (p : List (Option S)) (n : ℕ) → 0 < count node n (steps_of p) → (j : ℕ) × (x : S) × Knows p j x × (node x ≡ n)
  counted [] n lt = absurd (omega (arith, lt))
  counted (None ∷ p) n lt = let h = counted p n lt in (suc h.0, h.1, h.2, h.3)
  counted (Some x ∷ p) n lt = dite (ℕ_discrete (node x) n)
      (λ e. (zero, x, refl, e))
      (λ ne. let c = count_elsewhere x (steps_of p) n ne in let h = counted p n (omega (arith, lt, c)) in (suc h.0, h.1, h.2, h.3))

  tail : (z : S) (log : List S) (o : Option S) (p : List (Option S)) → IsPast node (z ∷ log) (o ∷ p) → IsPast node log p
  tail z log o p P = record { short = let s = P.short in omega (arith, s); part = λ j y k. P.part (suc j) y k; closed = λ j k x y lt st kn same. P.closed (suc j) (suc k) x y (omega (arith, lt)) st kn same }

  uncounted : (z : S) (log : List S) (p : List (Option S)) → IsPast node (z ∷ log) (None ∷ p) → count node (node z) (steps_of p) ≡ 0
  uncounted z log p P = go (count node (node z) (steps_of p)) refl
    where
      go : (n : ℕ) → count node (node z) (steps_of p) ≡ n → count node (node z) (steps_of p) ≡ 0
      go zero e = e
      go (suc n) e = let h = counted p (node z) (omega (arith, e)) in absurd (none_known z (P.closed zero (suc h.0) z h.1 (omega arith) refl h.2 (sym h.3)))

  each_past : (numbers : ℕ → ℕ) (log : List S) (p : List (Option S)) → ((n : ℕ) → numbers n ≡ count node n (steps_of p)) → IsPast node log p → (j : ℕ) (x : S) → Knows p j x ↔ Knows (first_steps node numbers log) j x
  each_past numbers [] p is P j x = ((λ k. absurd (some-ne-none x (sym (P.part j x k)))), (λ k. absurd (some-ne-none (Some x) (sym k))))
  each_past numbers (z ∷ log) [] is P j x = ((λ k. absurd (some-ne-none (Some x) (sym k))), (λ k. let l = first_left numbers (z ∷ log) j x k in let c = is (node x) in absurd (omega (arith, l, c))))
  each_past numbers (z ∷ log) (None ∷ p) is P zero x =
      let none = any_none (numbers (node z)) z (is (node z) ∙ uncounted z log p P) in
      ((λ k. absurd (none_known x k)), (λ k. absurd (none_known x (ap (λ (o : Option S). some o) (sym none) ∙ k))))
  each_past numbers (z ∷ log) (None ∷ p) is P (suc j) x = each_past (one_fewer (node z) numbers) log p rest (tail z log None p P) j x
    where
      rest : (n : ℕ) → one_fewer (node z) numbers n ≡ count node n (steps_of p)
      rest n = dite (ℕ_discrete (node z) n)
          (λ e. let u = subst (λ (m : ℕ). count node m (steps_of p) ≡ 0) e (uncounted z log p P) in let f = subst (λ (m : ℕ). one_fewer m numbers n ≡ numbers n - 1) (sym e) (fewer_here n numbers) in let i = is n in omega (arith, u, f, i))
          (λ ne. fewer_elsewhere (node z) n numbers (λ e. ne (sym e)) ∙ is n)
  each_past numbers (z ∷ log) (Some w ∷ p) is P zero x =
      let same = some-injective z w (P.part zero w refl) in
      let c = count_here w (steps_of p) (node z) (sym (ap node same)) in
      let i = is (node z) in
      let here = any_some (numbers (node z)) z (omega (arith, c, i)) ∙ ap (λ (s : S). Some s) same in
      ((λ k. ap (λ (o : Option S). some o) here ∙ k), (λ k. ap (λ (o : Option S). some o) (sym here) ∙ k))
  each_past numbers (z ∷ log) (Some w ∷ p) is P (suc j) x = each_past (one_fewer (node z) numbers) log p rest (tail z log (Some w) p P) j x
    where
      same : z ≡ w
      same = some-injective z w (P.part zero w refl)

      rest : (n : ℕ) → one_fewer (node z) numbers n ≡ count node n (steps_of p)
      rest n = dite (ℕ_discrete (node z) n)
          (λ e. let c = count_here w (steps_of p) n (sym (ap node same) ∙ e) in let f = subst (λ (m : ℕ). one_fewer m numbers n ≡ numbers n - 1) (sym e) (fewer_here n numbers) in let i = is n in omega (arith, c, f, i))
          (λ ne. let c = count_elsewhere w (steps_of p) n (λ e. ne (ap node same ∙ e)) in let f = fewer_elsewhere (node z) n numbers (λ e. ne (sym e)) in f ∙ is n ∙ c)

  pub numbers_choose : (log : List S) → NumbersChoose node log
  numbers_choose log = record {
    past = λ numbers. first_past numbers log;
    all = λ numbers n le. first_all numbers log n le;
    larger = λ a b. first_larger a b log;
    each = λ p P. each_past (λ n. count node n (steps_of p)) log p (λ n. refl) P;
  }

  pub chosen_past : (numbers : ℕ → ℕ) (log : List S) (lawful : List S → Type 0) → lawful (steps_of (first_steps node numbers log)) → IsLawfulPast node lawful log (first_steps node numbers log)
  chosen_past numbers log lawful here = record { past = first_past numbers log; lawful_here = here }

  pub all_chosen : (numbers : ℕ → ℕ) (log : List S) (n : ℕ) → count node n log ≤ numbers n → HasAll node log (first_steps node numbers log) n
  all_chosen numbers log n le = first_all numbers log n le

module _ (world : World) (ask : Ask) (log : List Turn) (whole : Possible world ask log) where
  pub larger_possible : (a b : ℕ → ℕ) → Possible world ask (first_turns a log) → Possible world ask (first_turns b log) → Possible world ask (first_turns (λ n. max (a n) (b n)) log)
  larger_possible a b p q =
      subst (λ (l : List (Option Turn)). Possible world ask (steps_of l)) ((numbers_choose node_of log).larger a b)
      (merge world ask log (first_steps node_of a log) (first_steps node_of b log) whole (chosen_past node_of a log (Possible world ask) p) (chosen_past node_of b log (Possible world ask) q))

  pub own_enough : (numbers : ℕ → ℕ) (here : Possible world ask (first_turns numbers log)) (n : ℕ) → count node_of n log ≤ numbers n → IsEnough world ask log whole numbers here n
  own_enough numbers here n le =
      let all = all_chosen node_of numbers log n le in
      let P = chosen_past node_of numbers log (Possible world ask) here in
      record {
        state = (true_past world ask (first_cluster world) log (first_steps node_of numbers log) here.cluster whole.cluster here.entries whole.entries P.past here.ran whole.ran).states n all;
        turn = λ x is more. causal world ask log (first_steps node_of numbers log) x whole P (subst (HasAll node_of log (first_steps node_of numbers log)) (sym is) all) more;
      }
