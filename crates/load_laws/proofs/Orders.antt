-- the variables of a made world are numbered as files number
use Rattle.std.proofs.Common.{◌≡◌, inl, inr, ◌++◌, ℕ, zero, suc, ◌+◌, ◌≤◌, List, [], ◌∷◌, refl, sym, ap, ◌∙◌, subst, arith, append-nil, None}
use Rattle.std.specs.List.{flat_map, filter_map}
use Rattle.std.proofs.lemmas.List.Elements.{filter_map-append}
use Rattle.std.proofs.lemmas.Grind.{flat_map-append}
use Rattle.unix_calls.specs.declared.Script.{Script}
use Rattle.unix_calls.specs.declared.Statement.{Statement}
use Rattle.script_laws.specs.Writable.{assigned, assigned_by, AreInOrder}
use Rattle.load_maker.specs.Made.{Row, drawn, stepped, after_statement, after_workers, after_leaders, child_count}
use Rattle.load_laws.specs.Worlds.{firsts, drawn_statement, worker, fork, wait, leader}
use Rattle.load_laws.proofs.Sizes.{AreSizes, few-children, each-drawn}

order-append : (m n t : ℕ) (vs ws : List ℕ) → AreInOrder m vs n → AreInOrder n ws t → AreInOrder m (vs ++ ws) t
order-append m n t [] ws a b = subst (λ k. AreInOrder k ws t) (sym a) b
order-append m n t (v ∷ vs) ws (inl a) b = inl (a.0, order-append m n t vs ws a.1 b)
order-append m n t (v ∷ vs) ws (inr a) b = inr (a.0, order-append (m + 1) n t vs ws a.1 b)

-- the numbers from m on, one after the other
order-new : (m n t : ℕ) → t ≡ m + n → AreInOrder m (firsts (λ i. m + i) n) t
order-new m zero t e = omega arith
order-new m (suc n) t e = order-append m (m + n) t (firsts (λ i. m + i) n) ((m + n) ∷ []) (order-new m n (m + n) refl) (inr (refl, omega arith))

-- numbers that are taken
order-old : (m n : ℕ) → n ≤ m → AreInOrder m (firsts (λ i. i) n) m
order-old m zero le = refl
order-old m (suc n) le = order-append m m m (firsts (λ i. i) n) (n ∷ []) (order-old m n (omega arith)) (inl (omega arith, refl))

zeros : (n : ℕ) → firsts (λ i. 0 + i) n ≡ firsts (λ i. i) n
zeros zero = refl
zeros (suc n) = ap (λ (ns : List ℕ). ns ++ (0 + n) ∷ []) (zeros n) ∙ ap (λ k. firsts (λ i. i) n ++ k ∷ []) (omega arith)

assigns-drawn : (nodes x : ℕ) → assigned (drawn_statement nodes x) ≡ None
assigns-drawn nodes x = each-drawn (λ (row : Row) (s : Statement). assigned s ≡ None) (drawn 6 (stepped x)) nodes (stepped x) refl refl refl refl refl refl

worker-assigns : (nodes x i : ℕ) → assigned_by (worker nodes x i) ≡ []
worker-assigns nodes x i = rw (assigns-drawn nodes x, assigns-drawn nodes (after_statement x)) refl

forks-assign : (workers nodes x n : ℕ) → filter_map assigned (firsts (fork workers nodes x) n) ≡ firsts (λ i. i) n
forks-assign workers nodes x zero = refl
forks-assign workers nodes x (suc n) = filter_map-append assigned (firsts (fork workers nodes x) n) (fork workers nodes x n ∷ []) ∙ ap (λ (ns : List ℕ). ns ++ n ∷ []) (forks-assign workers nodes x n)

waits-assign : (n : ℕ) → filter_map assigned (firsts (λ _. wait) n) ≡ []
waits-assign zero = refl
waits-assign (suc n) = filter_map-append assigned (firsts (λ _. wait) n) (wait ∷ []) ∙ append-nil (filter_map assigned (firsts (λ _. wait) n)) ∙ waits-assign n

leader-assigns : (workers nodes children x : ℕ) → assigned_by (leader workers nodes children x) ≡ firsts (λ i. i) children
leader-assigns workers nodes children x =
    filter_map-append assigned (firsts (fork workers nodes x) children) (firsts (λ _. wait) children)
    ∙ ap (λ (ns : List ℕ). filter_map assigned (firsts (fork workers nodes x) children) ++ ns) (waits-assign children)
    ∙ append-nil (filter_map assigned (firsts (fork workers nodes x) children))
    ∙ forks-assign workers nodes x children

workers-assign : (nodes x n : ℕ) → flat_map assigned_by (firsts (λ i. worker nodes (after_workers i x) i) n) ≡ []
workers-assign nodes x zero = refl
workers-assign nodes x (suc n) =
    flat_map-append assigned_by (firsts (λ i. worker nodes (after_workers i x) i) n) (worker nodes (after_workers n x) n ∷ [])
    ∙ ap (λ (ns : List ℕ). flat_map assigned_by (firsts (λ i. worker nodes (after_workers i x) i) n) ++ (ns ++ [])) (worker-assigns nodes (after_workers n x) n)
    ∙ append-nil (flat_map assigned_by (firsts (λ i. worker nodes (after_workers i x) i) n))
    ∙ workers-assign nodes x n

module _ (nodes leaders followers workers : ℕ) (s : AreSizes nodes leaders followers workers) (x : ℕ) where
  abbrev Leaders : ℕ → List Script
  Leaders n = firsts (λ j. leader workers nodes (child_count followers j) (after_leaders followers j x)) n

  one-more : (n : ℕ) → flat_map assigned_by (Leaders (suc n)) ≡ flat_map assigned_by (Leaders n) ++ firsts (λ i. i) (child_count followers n)
  one-more n =
      let last : Script = leader workers nodes (child_count followers n) (after_leaders followers n x) in
      flat_map-append assigned_by (Leaders n) (last ∷ [])
      ∙ ap (λ (ns : List ℕ). flat_map assigned_by (Leaders n) ++ ns) (append-nil (assigned_by last) ∙ leader-assigns workers nodes (child_count followers n) (after_leaders followers n x))

  -- the first leader takes all numbers of children, and the others take none that is new
  first-order : AreInOrder 0 (firsts (λ i. i) (child_count followers 0)) workers
  first-order =
      let w = s.are_workers in
      subst (λ (ns : List ℕ). AreInOrder 0 ns workers) (zeros (child_count followers 0)) (order-new 0 (child_count followers 0) workers (omega arith))

  leaders-order : (n : ℕ) → AreInOrder 0 (flat_map assigned_by (Leaders (suc n))) workers
  leaders-order zero = subst (λ (ns : List ℕ). AreInOrder 0 ns workers) (sym (one-more 0)) first-order
  leaders-order (suc n) =
      subst (λ (ns : List ℕ). AreInOrder 0 ns workers) (sym (one-more (suc n)))
      (order-append 0 workers workers (flat_map assigned_by (Leaders (suc n))) (firsts (λ i. i) (child_count followers (suc n)))
      (leaders-order n) (order-old workers (child_count followers (suc n)) (few-children nodes leaders followers workers (suc n) s)))

  some-leaders : (n : ℕ) → 1 ≤ n → AreInOrder 0 (flat_map assigned_by (Leaders n)) workers
  some-leaders zero some = absurd (omega arith)
  some-leaders (suc n) some = leaders-order n

  pub scripts-order : (seed : ℕ) → AreInOrder 0 (flat_map assigned_by (firsts (λ i. worker nodes (after_workers i seed) i) workers ++ Leaders leaders) ++ firsts (λ j. workers + j) leaders) (workers + leaders)
  scripts-order seed =
      order-append 0 workers (workers + leaders) (flat_map assigned_by (firsts (λ i. worker nodes (after_workers i seed) i) workers ++ Leaders leaders)) (firsts (λ j. workers + j) leaders)
      (subst (λ (ns : List ℕ). AreInOrder 0 ns workers)
      (sym (flat_map-append assigned_by (firsts (λ i. worker nodes (after_workers i seed) i) workers) (Leaders leaders) ∙ ap (λ (ns : List ℕ). ns ++ flat_map assigned_by (Leaders leaders)) (workers-assign nodes seed workers)))
      (some-leaders leaders s.some_leader))
      (order-new workers leaders (workers + leaders) refl)
