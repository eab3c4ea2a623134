-- a made file is no longer than an input may be
use Rattle.std.proofs.Common.{◌++◌, ℕ, zero, suc, ◌+◌, ◌*◌, ◌<◌, ◌≤◌, ◌^◌, ◌%◌, ◌≡◌, List, [], ◌∷◌, length, length-append, codes, refl, ap, ◌∙◌, arith, mod-lt}
use Rattle.std.specs.Fmt.{decimal}
use Rattle.std.specs.List.{flat_map}
use Rattle.std.proofs.lemmas.Grind.{flat_map-append}
use Rattle.unix_calls.specs.declared.Statement.{Statement}
use Rattle.text_laws.proofs.Numbers.{IsNumber-decimal}
use Rattle.load_maker.specs.Made.{Row, rest_of, line_of, drawn, stepped, after_statement, after_workers, after_children, after_leaders, child_count, statement_row, worker_rows, all_workers, fork_row, fork_rows, wait_rows, leader_head, leader_rows, all_leaders, start_row, all_starts, leader_count, follower_count, worker_count}
use Rattle.load_laws.specs.Laws.{MadeIsShort}
use Rattle.load_laws.proofs.Sizes.{AreSizes, sizes, drawn-less, few-children, few-workers, each-drawn}

-- a byte behind each word, and a newline
abbrev room : Row → ℕ
room [] = 1
room (word ∷ words) = suc (length word) + room words

rest-room : (words : Row) → length (rest_of words) ≡ room words
rest-room [] = refl
rest-room (word ∷ words) = let l = length-append word (rest_of words) in let r = rest-room words in omega arith

line-room : (row : Row) → length (line_of row) ≤ room row
line-room [] = omega arith
line-room (word ∷ words) = let l = length-append word (rest_of words) in let r = rest-room words in omega arith

-- a row whose line has at most 64 bytes
abbrev IsShort : Row → Type 0
IsShort row = room row ≤ 64

-- the text of some rows is no longer than so many of these lines
abbrev Within : ℕ → List Row → Type 0
Within n rows = length (flat_map line_of rows) ≤ 64 * n

within-nil : Within 0 []
within-nil = omega arith

within-cons : (n : ℕ) (row : Row) (rows : List Row) → IsShort row → Within n rows → Within (suc n) (row ∷ rows)
within-cons n row rows short rest =
    let l = length-append (line_of row) (flat_map line_of rows) in
    let r = line-room row in
    omega arith

abbrev AreShort : List Row → Type 0
AreShort [] = Unit {0}
AreShort (row ∷ rows) = IsShort row × AreShort rows

within-all : (rows : List Row) → AreShort rows → Within (length rows) rows
within-all [] short = within-nil
within-all (row ∷ rows) short = within-cons (length rows) row rows short.0 (within-all rows short.1)

within-append : (n m : ℕ) (rows more : List Row) → Within n rows → Within m more → Within (n + m) (rows ++ more)
within-append n m rows more a b =
    let l = ap length (flat_map-append line_of rows more) ∙ length-append (flat_map line_of rows) (flat_map line_of more) in
    omega arith

within-more : (n m : ℕ) (rows : List Row) → n ≤ m → Within n rows → Within m rows
within-more n m rows le h = omega arith

within-push : (n : ℕ) (rows : List Row) (row : Row) → Within n rows → IsShort row → Within (n + 1) (rows ++ row ∷ [])
within-push n rows row h short = within-append n 1 rows (row ∷ []) h (within-cons 0 row [] short within-nil)

few-digits : (n : ℕ) → n < 2 ^ 32 → length (decimal n) ≤ 10
few-digits n h = (IsNumber-decimal n h).few

module _ (nodes leaders followers workers : ℕ) (s : AreSizes nodes leaders followers workers) where
  node-digits : (x : ℕ) → length (decimal (drawn nodes x)) ≤ 10
  node-digits x = let lt = drawn-less nodes x s.some_node in let few = s.few_nodes in few-digits (drawn nodes x) (omega arith)

  short-drawn : (x : ℕ) → IsShort (statement_row nodes x)
  short-drawn x =
      let digits = node-digits (stepped (stepped x)) in
      each-drawn (λ (row : Row) (s : Statement). IsShort row) (drawn 6 (stepped x)) nodes (stepped x)
      (omega arith) (omega arith) (omega arith) (omega arith) (omega arith) (omega arith)

  worker-within : (i x : ℕ) → i < 2 ^ 32 → Within 9 (worker_rows nodes i x)
  worker-within i x h =
      let digits = few-digits i h in
      within-all (worker_rows nodes i x)
      (omega arith, (omega arith, (omega arith, (short-drawn x, (short-drawn (after_statement x), (omega arith, (omega arith, (omega arith, (omega arith, tt)))))))))

  workers-within : (n x : ℕ) → n ≤ workers → Within (9 * n) (all_workers nodes n x)
  workers-within zero x le = within-nil
  workers-within (suc n) x le =
      let few = few-workers nodes leaders followers workers s in
      within-more (9 * n + 9) (9 * suc n) (all_workers nodes (suc n) x) (omega arith)
      (within-append (9 * n) 9 (all_workers nodes n x) (worker_rows nodes n (after_workers n x)) (workers-within n x (omega arith)) (worker-within n (after_workers n x) (omega arith)))

  short-fork : (i x : ℕ) → i < workers → IsShort (fork_row workers nodes i x)
  short-fork i x lt =
      let few = few-workers nodes leaders followers workers s in
      let which = drawn-less workers (stepped x) (omega arith) in
      let child = few-digits i (omega arith) in
      let worker = few-digits (drawn workers (stepped x)) (omega arith) in
      let node = node-digits (stepped (stepped x)) in
      omega arith

  forks-within : (n x : ℕ) → n ≤ workers → Within n (fork_rows workers nodes n x)
  forks-within zero x le = within-nil
  forks-within (suc n) x le =
      within-more (n + 1) (suc n) (fork_rows workers nodes (suc n) x) (omega arith)
      (within-push n (fork_rows workers nodes n x) (fork_row workers nodes n (after_children n x)) (forks-within n x (omega arith)) (short-fork n (after_children n x) (omega arith)))

  waits-within : (n : ℕ) → Within n (wait_rows n)
  waits-within zero = within-nil
  waits-within (suc n) =
      within-more (n + 1) (suc n) (wait_rows (suc n)) (omega arith)
      (within-push n (wait_rows n) (codes "wait" ∷ codes "any" ∷ []) (waits-within n) (omega arith))

  leader-within : (children j x : ℕ) → children ≤ workers → j < 2 ^ 32 → Within 19 (leader_rows workers nodes children j x)
  leader-within children j x le h =
      let few = few-workers nodes leaders followers workers s in
      let digits = few-digits j h in
      within-more (2 + (children + (children + 1))) 19 (leader_rows workers nodes children j x) (omega arith)
      (within-append 2 (children + (children + 1)) (leader_head j) (fork_rows workers nodes children x ++ (wait_rows children ++ (codes "end" ∷ []) ∷ []))
      (within-all (leader_head j) (omega arith, (omega arith, tt)))
      (within-append children (children + 1) (fork_rows workers nodes children x) (wait_rows children ++ (codes "end" ∷ []) ∷ []) (forks-within children x le)
      (within-push children (wait_rows children) (codes "end" ∷ []) (waits-within children) (omega arith))))

  leaders-within : (n x : ℕ) → n ≤ leaders → Within (19 * n) (all_leaders workers nodes followers n x)
  leaders-within zero x le = within-nil
  leaders-within (suc n) x le =
      let few = s.few_leaders in
      within-more (19 * n + 19) (19 * suc n) (all_leaders workers nodes followers (suc n) x) (omega arith)
      (within-append (19 * n) 19 (all_leaders workers nodes followers n x) (leader_rows workers nodes (child_count followers n) n (after_leaders followers n x))
      (leaders-within n x (omega arith)) (leader-within (child_count followers n) n (after_leaders followers n x) (few-children nodes leaders followers workers n s) (omega arith)))

  short-start : (j : ℕ) → j < 2 ^ 32 → IsShort (start_row nodes j)
  short-start j h =
      let lt = mod-lt j s.some_node in
      let few = s.few_nodes in
      let node = few-digits (j % nodes) (omega arith) in
      let digits = few-digits j h in
      omega arith

  starts-within : (n : ℕ) → n ≤ leaders → Within n (all_starts nodes n)
  starts-within zero le = within-nil
  starts-within (suc n) le =
      let few = s.few_leaders in
      within-more (n + 1) (suc n) (all_starts nodes (suc n)) (omega arith)
      (within-push n (all_starts nodes n) (start_row nodes n) (starts-within n (omega arith)) (short-start n (omega arith)))

  short-cluster : IsShort (codes "cluster" ∷ decimal nodes ∷ [])
  short-cluster = let few = s.few_nodes in let digits = few-digits nodes (omega arith) in omega arith

  abbrev Rows : ℕ → List Row
  Rows seed = (codes "cluster" ∷ decimal nodes ∷ []) ∷ (all_workers nodes workers seed ++ all_leaders workers nodes followers leaders (after_workers workers seed) ++ all_starts nodes leaders)

  -- 9 rows a worker, at most 19 a leader, one a start and one for the cluster
  rows-within : (seed : ℕ) → Within (suc (9 * workers + 19 * leaders + leaders)) (Rows seed)
  rows-within seed =
      let state = after_workers workers seed in
      within-cons (9 * workers + 19 * leaders + leaders) (codes "cluster" ∷ decimal nodes ∷ [])
      (all_workers nodes workers seed ++ all_leaders workers nodes followers leaders state ++ all_starts nodes leaders) short-cluster
      (within-append (9 * workers + 19 * leaders) leaders (all_workers nodes workers seed ++ all_leaders workers nodes followers leaders state) (all_starts nodes leaders)
      (within-append (9 * workers) (19 * leaders) (all_workers nodes workers seed) (all_leaders workers nodes followers leaders state)
      (workers-within workers seed (omega arith)) (leaders-within leaders state (omega arith)))
      (starts-within leaders (omega arith)))

  pub text-short : (seed : ℕ) → length (flat_map line_of (Rows seed)) ≤ 1048576
  text-short seed =
      let few = few-workers nodes leaders followers workers s in
      let few_led = s.few_leaders in
      let h = rows-within seed in
      omega arith

pub made_short : MadeIsShort
made_short seed nodes size a b c d = text-short nodes (leader_count size) (follower_count size) (worker_count size) (sizes nodes size a b c d) seed
