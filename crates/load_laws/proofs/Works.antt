-- how much a made world makes
use Rattle.std.proofs.Common.{◌≡◌, ◌++◌, ℕ, zero, suc, ◌+◌, ◌*◌, ◌<◌, ◌≤◌, min, List, [], ◌∷◌, refl, sym, ap, ◌∙◌, arith, fold, Option, unwrap_or, append-nil, append_assoc}
use Rattle.std.proofs.lemmas.List.Sums.{fold-append}
use Rattle.unix_calls.specs.declared.Script.{Script}
use Rattle.unix_calls.specs.declared.Statement.{Statement}
use Rattle.unix_calls.specs.declared.Statement.TheVariants as statement
use Rattle.unix_calls.specs.declared.Work.{Work}
use Rattle.unix_calls.specs.Work.{work, together, work_of, with_statement, script_work, with_script, works, total_work}
use Rattle.load_maker.specs.Made.{Row, drawn, stepped, after_statement, after_workers, after_leaders, after_children, child_count}
use Rattle.load_laws.specs.Worlds.{firsts, drawn_statement, worker, fork, wait, leader, start}
use Rattle.load_laws.proofs.Lists.{length-firsts, get-left, get-right, get-firsts}
use Rattle.load_laws.proofs.Sizes.{AreSizes, drawn-less, few-children, few-workers, each-drawn}

same-work : (a b c d : ℕ) → a ≡ c → b ≡ d → work a b ≡ work c d
same-work a b c d e f = ap (λ n. work n b) e ∙ ap (work c) f

-- sums that are small are sums
small-sum : (p q r t : ℕ) → p + r ≤ 1000000 → q + t ≤ 1000000 → together (work p q) (work r t) ≡ work (p + r) (q + t)
small-sum p q r t a b = same-work _ _ _ _ (omega arith) (omega arith)

one-more : (p q : ℕ) → p ≤ 1000 → q ≤ 5000 → together (work p q) (work 0 1) ≡ work p (q + 1)
one-more p q a b = small-sum p q 0 1 (omega arith) (omega arith) ∙ same-work _ _ _ _ (omega arith) refl

drawn-work : (earlier : List Work) (w : Work) (nodes x : ℕ) → with_statement earlier w (drawn_statement nodes x) ≡ together w (work 0 1)
drawn-work earlier w nodes x = each-drawn (λ (row : Row) (s : Statement). with_statement earlier w s ≡ together w (work 0 1)) (drawn 6 (stepped x)) nodes (stepped x) refl refl refl refl refl refl

-- a worker is one process and eight statements
worker-work : (earlier : List Work) (nodes x i : ℕ) → script_work earlier (worker nodes x i).statements ≡ work 1 8
worker-work earlier nodes x i =
    ap (λ w. fold (with_statement earlier) w (drawn_statement nodes (after_statement x) ∷ statement.Pending ∷ statement.Mask 0 ∷ statement.Exit i ∷ [])) (drawn-work earlier (work 1 3) nodes x)
    ∙ ap (λ w. fold (with_statement earlier) w (statement.Pending ∷ statement.Mask 0 ∷ statement.Exit i ∷ [])) (drawn-work earlier (work 1 4) nodes (after_statement x))

fork-work : (earlier : List Work) (workers nodes x i p q : ℕ) → work_of earlier (drawn workers (stepped (after_children i x))) ≡ work 1 8 → p ≤ 100 → q ≤ 1000
    → with_statement earlier (work p q) (fork workers nodes x i) ≡ work (p + 1) (q + 9)
fork-work earlier workers nodes x i p q w a b =
    ap (λ v. together (together (work p q) (work 0 1)) v) w
    ∙ ap (λ v. together v (work 1 8)) (one-more p q (omega arith) (omega arith))
    ∙ small-sum p (q + 1) 1 8 (omega arith) (omega arith)
    ∙ same-work _ _ _ _ refl (omega arith)

forks-work : (earlier : List Work) (workers nodes x n : ℕ) → ((k : ℕ) → k < workers → work_of earlier k ≡ work 1 8) → n ≤ workers → workers ≤ 8
    → fold (with_statement earlier) (work 1 2) (firsts (fork workers nodes x) n) ≡ work (1 + n) (2 + 9 * n)
forks-work earlier workers nodes x zero known le few = refl
forks-work earlier workers nodes x (suc n) known le few =
    fold-append (with_statement earlier) (work 1 2) (firsts (fork workers nodes x) n) (fork workers nodes x n ∷ [])
    ∙ ap (λ w. with_statement earlier w (fork workers nodes x n)) (forks-work earlier workers nodes x n known (omega arith) few)
    ∙ fork-work earlier workers nodes x n (1 + n) (2 + 9 * n) (known (drawn workers (stepped (after_children n x))) (drawn-less workers (stepped (after_children n x)) (omega arith))) (omega arith) (omega arith)
    ∙ same-work _ _ _ _ (omega arith) (omega arith)

waits-work : (earlier : List Work) (p q n : ℕ) → p ≤ 100 → q ≤ 100 → n ≤ 8 → fold (with_statement earlier) (work p q) (firsts (λ _. wait) n) ≡ work p (q + n)
waits-work earlier p q zero a b few = same-work _ _ _ _ refl (omega arith)
waits-work earlier p q (suc n) a b few =
    fold-append (with_statement earlier) (work p q) (firsts (λ _. wait) n) (wait ∷ [])
    ∙ ap (λ w. together w (work 0 1)) (waits-work earlier p q n a b (omega arith))
    ∙ one-more p (q + n) (omega arith) (omega arith)
    ∙ same-work _ _ _ _ refl (omega arith)

-- a leader and its children
leader-work : (earlier : List Work) (workers nodes children x : ℕ) → ((k : ℕ) → k < workers → work_of earlier k ≡ work 1 8) → children ≤ workers → workers ≤ 8
    → script_work earlier (leader workers nodes children x).statements ≡ work (1 + children) (2 + 10 * children)
leader-work earlier workers nodes children x known le few =
    fold-append (with_statement earlier) (work 1 2) (firsts (fork workers nodes x) children) (firsts (λ _. wait) children)
    ∙ ap (λ w. fold (with_statement earlier) w (firsts (λ _. wait) children)) (forks-work earlier workers nodes x children known le few)
    ∙ waits-work earlier (1 + children) (2 + 9 * children) children (omega arith) (omega arith) (omega arith)
    ∙ same-work _ _ _ _ refl (omega arith)

module _ (nodes leaders followers workers : ℕ) (s : AreSizes nodes leaders followers workers) (seed x : ℕ) where
  abbrev led_work : ℕ → Work
  led_work j = work (1 + child_count followers j) (2 + 10 * child_count followers j)

  abbrev Works : ℕ → List Work
  Works n = firsts (λ _. work 1 8) workers ++ firsts led_work n

  worker-works : (n : ℕ) → works (firsts (λ i. worker nodes (after_workers i seed) i) n) ≡ firsts (λ _. work 1 8) n
  worker-works zero = refl
  worker-works (suc n) =
      fold-append with_script [] (firsts (λ i. worker nodes (after_workers i seed) i) n) (worker nodes (after_workers n seed) n ∷ [])
      ∙ ap (λ (ws : List Work). with_script ws (worker nodes (after_workers n seed) n)) (worker-works n)
      ∙ ap (λ w. firsts (λ _. work 1 8) n ++ w ∷ []) (worker-work (firsts (λ _. work 1 8) n) nodes (after_workers n seed) n)

  known-worker : (n k : ℕ) → k < workers → work_of (Works n) k ≡ work 1 8
  known-worker n k lt = ap (λ (o : Option Work). unwrap_or o (work 0 0)) (get-left (firsts (λ _. work 1 8) workers) (firsts led_work n) k (work 1 8) (get-firsts (λ _. work 1 8) workers k lt))

  known-leader : (n j : ℕ) → j < n → work_of (Works n) (workers + j) ≡ led_work j
  known-leader n j lt = ap (λ (o : Option Work). unwrap_or o (work 0 0))
      (get-right (firsts (λ _. work 1 8) workers) (firsts led_work n) j (workers + j) (ap (λ l. l + j) (sym (length-firsts (λ _. work 1 8) workers))) ∙ get-firsts led_work n j lt)

  abbrev Leaders : ℕ → List Script
  Leaders n = firsts (λ j. leader workers nodes (child_count followers j) (after_leaders followers j x)) n

  leader-works : (n : ℕ) → fold with_script (firsts (λ _. work 1 8) workers) (Leaders n) ≡ Works n
  leader-works zero = sym (append-nil (firsts (λ _. work 1 8) workers))
  leader-works (suc n) =
      let last : Script = leader workers nodes (child_count followers n) (after_leaders followers n x) in
      fold-append with_script (firsts (λ _. work 1 8) workers) (Leaders n) (last ∷ [])
      ∙ ap (λ (ws : List Work). with_script ws last) (leader-works n)
      ∙ ap (λ w. Works n ++ w ∷ []) (leader-work (Works n) workers nodes (child_count followers n) (after_leaders followers n x) (known-worker n) (few-children nodes leaders followers workers n s) (few-workers nodes leaders followers workers s))
      ∙ append_assoc (firsts (λ _. work 1 8) workers) (firsts led_work n) (led_work n ∷ [])

  pub all-works : works (firsts (λ i. worker nodes (after_workers i seed) i) workers ++ Leaders leaders) ≡ Works leaders
  all-works =
      fold-append with_script [] (firsts (λ i. worker nodes (after_workers i seed) i) workers) (Leaders leaders)
      ∙ ap (λ (ws : List Work). fold with_script ws (Leaders leaders)) (worker-works workers)
      ∙ leader-works leaders

  -- what the first leaders and their children make
  starts-work : (n : ℕ) → n ≤ leaders → total_work (Works leaders) (firsts (start nodes workers) n) ≡ work (n + min (8 * n) followers) (2 * n + 10 * min (8 * n) followers)
  starts-work zero le = same-work _ _ _ _ (omega arith) (omega arith)
  starts-work (suc n) le =
      let few = s.few_leaders in
      fold-append (λ total t. together total (work_of (Works leaders) t.script)) (work 0 0) (firsts (start nodes workers) n) (start nodes workers n ∷ [])
      ∙ ap (λ w. together w (work_of (Works leaders) (workers + n))) (starts-work n (omega arith))
      ∙ ap (λ w. together (work (n + min (8 * n) followers) (2 * n + 10 * min (8 * n) followers)) w) (known-leader leaders n (omega arith))
      ∙ small-sum (n + min (8 * n) followers) (2 * n + 10 * min (8 * n) followers) (1 + child_count followers n) (2 + 10 * child_count followers n) (omega arith) (omega arith)
      ∙ same-work _ _ _ _ (omega arith) (omega arith)

  pub whole-work : total_work (works (firsts (λ i. worker nodes (after_workers i seed) i) workers ++ Leaders leaders)) (firsts (start nodes workers) leaders) ≡ work (leaders + followers) (2 * leaders + 10 * followers)
  whole-work =
      let led = s.led in
      ap (λ (ws : List Work). total_work ws (firsts (start nodes workers) leaders)) all-works
      ∙ starts-work leaders (omega arith)
      ∙ same-work _ _ _ _ (omega arith) (omega arith)
