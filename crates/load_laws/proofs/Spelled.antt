-- the rows of a made file are lines of the grammar
use Rattle.std.proofs.Common.{inl, ◌++◌, ℕ, zero, suc, ◌+◌, ◌<◌, ◌≤◌, ◌^◌, ◌%◌, List, [], ◌∷◌, codes, refl, sym, ap, ◌∙◌, subst, arith, mod-lt, append-nil, Option, Some, None}
use Rattle.std.specs.Fmt.{decimal}
use Rattle.std.specs.List.{AllZip}
use Rattle.unix_names.specs.declared.Signal.TheVariants.{Usr1}
use Rattle.unix_names.specs.declared.Act.TheVariants.{Catch}
use Rattle.unix_names.specs.Signals.{number_of}
use Rattle.unix_names.specs.Sets.{added}
use Rattle.unix_calls.specs.declared.Script.{Script}
use Rattle.unix_calls.specs.declared.Start.{Start}
use Rattle.unix_calls.specs.declared.Statement.{Statement}
use Rattle.unix_calls.specs.declared.Statement.TheVariants as statement
use Rattle.text_laws.proofs.Numbers.{IsNumber-decimal, digits_value-decimal}
use Rattle.script_words.specs.Words.{Word, Row}
use Rattle.script_laws.specs.Grammar.{Naming, IsCalled, IsFor, Spells, SpellsStart, Lines, ends, skips, starts, begins, says, closes}
use Rattle.load_maker.specs.Made.{drawn, stepped, after_statement, after_workers, after_children, after_leaders, child_count, worker_name, leader_name, child_name, start_name, statement_row, worker_rows, all_workers, fork_row, fork_rows, wait_rows, leader_rows, all_leaders, start_row, all_starts}
use Rattle.load_laws.specs.Worlds.{firsts, drawn_statement, worker, fork, wait, leader, start}
use Rattle.load_laws.proofs.Lists.{length-firsts, get-left, get-right, get-firsts}
use Rattle.load_laws.proofs.Sizes.{AreSizes, drawn-less, few-children, few-workers, naming, each-drawn}

pub number-for : (n : ℕ) → n < 2 ^ 32 → IsFor (decimal n) n
number-for n h = (IsNumber-decimal n h, digits_value-decimal n h)

zip-push : {A B : Type 0} (R : A → B → Type 0) (xs : List A) (ys : List B) (x : A) (y : B) → AllZip R xs ys → R x y → AllZip R (xs ++ x ∷ []) (ys ++ y ∷ [])
zip-push R [] [] x y z r = (r, tt)
zip-push R [] (b ∷ ys) x y z r = absurd z
zip-push R (a ∷ xs) [] x y z r = absurd z
zip-push R (a ∷ xs) (b ∷ ys) x y z r = (z.0, zip-push R xs ys x y z.1 r)

module _ (names : Naming) (all : List Start) where
  -- lines behind lines
  pub lines-append : (o : Option (List Statement)) (ns ms : List Word) (ss rs : List Script) (ts us : List Start) (rows more : List Row)
      → Lines names all o ns ss ts rows → Lines names all None ms rs us more → Lines names all o (ns ++ ms) (ss ++ rs) (ts ++ us) (rows ++ more)
  lines-append o ns ms ss rs ts us rows more ends d = d
  lines-append o ns ms ss rs ts us rows' more (skips row {rows = rows} s l) d = skips row s (lines-append o ns ms ss rs ts us rows more l d)
  lines-append o ns ms ss rs ts us rows' more (starts {later = later} t row {rows = rows} h l) d = starts t row h (lines-append None ns ms ss rs later us rows more l d)
  lines-append o ns' ms ss' rs ts us rows' more (begins {names = ns} {scripts = ss} name script {rows = rows} l) d = begins name script (lines-append (Some script.statements) ns ms ss rs ts us rows more l d)
  lines-append o ns ms ss rs ts us rows' more (says {statements = statements} s row {rows = rows} h l) d = says s row h (lines-append (Some statements) ns ms ss rs ts us rows more l d)
  lines-append o ns ms ss rs ts us rows' more (closes {rows = rows} l) d = closes (lines-append None ns ms ss rs ts us rows more l d)

  abbrev AreSaid : List Row → List Statement → Type 0
  AreSaid rows ss = AllZip (Spells names) rows ss

  -- statements before statements
  said-before : (rows more : List Row) (ss later : List Statement) (ns : List Word) (rs : List Script) (ts : List Start)
      → AreSaid rows ss → Lines names all (Some later) ns rs ts more → Lines names all (Some (ss ++ later)) ns rs ts (rows ++ more)
  said-before [] more [] later ns rs ts z l = l
  said-before [] more (s ∷ ss) later ns rs ts z l = absurd z
  said-before (row ∷ rows) more [] later ns rs ts z l = absurd z
  said-before (row ∷ rows) more (s ∷ ss) later ns rs ts z l = says s row z.0 (said-before rows more ss later ns rs ts z.1 l)

  -- the statements of a script up to its end
  said-last : (rows more : List Row) (ss : List Statement) (ns : List Word) (rs : List Script) (ts : List Start)
      → AreSaid rows ss → Lines names all (Some []) ns rs ts more → Lines names all (Some ss) ns rs ts (rows ++ more)
  said-last [] more [] ns rs ts z l = l
  said-last [] more (s ∷ ss) ns rs ts z l = absurd z
  said-last (row ∷ rows) more [] ns rs ts z l = absurd z
  said-last (row ∷ rows) more (s ∷ ss) ns rs ts z l = says s row z.0 (said-last rows more ss ns rs ts z.1 l)

  says-drawn : (nodes x : ℕ) → 1 ≤ nodes → nodes ≤ 64 → Spells names (statement_row nodes x) (drawn_statement nodes x)
  says-drawn nodes x some few =
      let y = stepped x in
      let lt = drawn-less nodes (stepped y) some in
      each-drawn (Spells names) (drawn 6 y) nodes y
      refl
      (codes "0", refl, refl)
      (codes "0", codes "0", refl, refl, refl)
      (decimal (drawn nodes (stepped y)), refl, number-for (drawn nodes (stepped y)) (omega arith))
      (codes "0", codes "USR1", refl, refl, inl (Usr1, refl, refl))
      refl

  worker-lines : (nodes i x : ℕ) → 1 ≤ nodes → nodes ≤ 64 → i < 2 ^ 32 → Lines names all None (worker_name i ∷ []) (worker nodes x i ∷ []) [] (worker_rows nodes i x)
  worker-lines nodes i x some few h =
      begins (worker_name i) (worker nodes x i)
      (says (statement.Mask (added 0 Usr1)) (codes "mask" ∷ codes "USR1" ∷ []) (codes "USR1" ∷ [], refl, (Usr1 ∷ [], (inl refl, tt), refl))
      (says statement.Getpid (codes "getpid" ∷ []) refl
      (says (drawn_statement nodes x) (statement_row nodes x) (says-drawn nodes x some few)
      (says (drawn_statement nodes (after_statement x)) (statement_row nodes (after_statement x)) (says-drawn nodes (after_statement x) some few)
      (says statement.Pending (codes "pending" ∷ []) refl
      (says (statement.Mask 0) (codes "mask" ∷ []) ([], refl, ([], tt, refl))
      (says (statement.Exit i) (codes "exit" ∷ decimal i ∷ []) (decimal i, refl, number-for i h)
      (closes ends))))))))

  says-waits : (n : ℕ) → AreSaid (wait_rows n) (firsts (λ _. wait) n)
  says-waits zero = tt
  says-waits (suc n) = zip-push (Spells names) (wait_rows n) (firsts (λ _. wait) n) (codes "wait" ∷ codes "any" ∷ []) wait (says-waits n) (codes "any", refl, (refl, refl, refl))

module _ (nodes leaders followers workers : ℕ) (all : List Start) (s : AreSizes nodes leaders followers workers) where
  abbrev Names : Naming
  Names = naming workers leaders

  worker-called : (i : ℕ) → i < workers → IsCalled Names.scripts (worker_name i) i
  worker-called i lt = get-left (firsts worker_name workers) (firsts leader_name leaders) i (worker_name i) (get-firsts worker_name workers i lt)

  leader-called : (j : ℕ) → j < leaders → IsCalled Names.scripts (leader_name j) (workers + j)
  leader-called j lt = get-right (firsts worker_name workers) (firsts leader_name leaders) j (workers + j) (ap (λ n. n + j) (sym (length-firsts worker_name workers))) ∙ get-firsts leader_name leaders j lt

  child-called : (i : ℕ) → i < workers → IsCalled Names.variables (child_name i) i
  child-called i lt = get-left (firsts child_name workers) (firsts start_name leaders) i (child_name i) (get-firsts child_name workers i lt)

  start-called : (j : ℕ) → j < leaders → IsCalled Names.variables (start_name j) (workers + j)
  start-called j lt = get-right (firsts child_name workers) (firsts start_name leaders) j (workers + j) (ap (λ n. n + j) (sym (length-firsts child_name workers))) ∙ get-firsts start_name leaders j lt

  says-fork : (i x : ℕ) → i < workers → Spells Names (fork_row workers nodes i (after_children i x)) (fork workers nodes x i)
  says-fork i x lt =
      let state = after_children i x in
      let node = drawn nodes (stepped (stepped state)) in
      let which = drawn workers (stepped state) in
      let in_nodes = drawn-less nodes (stepped (stepped state)) s.some_node in
      let few = s.few_nodes in (
        child_name i,
        worker_name which,
        codes "at" ∷ decimal node ∷ [],
        refl,
        child-called i lt,
        worker-called which (drawn-less workers (stepped state) (omega arith)),
        (decimal node, refl, number-for node (omega arith)),
      )

  says-forks : (n x : ℕ) → n ≤ workers → AreSaid Names all (fork_rows workers nodes n x) (firsts (fork workers nodes x) n)
  says-forks zero x le = tt
  says-forks (suc n) x le = zip-push (Spells Names) (fork_rows workers nodes n x) (firsts (fork workers nodes x) n) (fork_row workers nodes n (after_children n x)) (fork workers nodes x n)
      (says-forks n x (omega arith)) (says-fork n x (omega arith))

  leader-lines : (children j x : ℕ) → children ≤ workers → Lines Names all None (leader_name j ∷ []) (leader workers nodes children x ∷ []) [] (leader_rows workers nodes children j x)
  leader-lines children j x le =
      begins (leader_name j) (leader workers nodes children x)
      (says (statement.Action (number_of Usr1) Catch) (codes "action" ∷ codes "USR1" ∷ codes "catch" ∷ []) (codes "USR1", refl, inl (Usr1, refl, refl))
      (said-before Names all (fork_rows workers nodes children x) (wait_rows children ++ (codes "end" ∷ []) ∷ []) (firsts (fork workers nodes x) children) (firsts (λ _. wait) children) [] [] [] (says-forks children x le)
      (said-last Names all (wait_rows children) ((codes "end" ∷ []) ∷ []) (firsts (λ _. wait) children) [] [] [] (says-waits Names all children) (closes ends))))

  all-worker-lines : (n x : ℕ) → n ≤ workers → Lines Names all None (firsts worker_name n) (firsts (λ i. worker nodes (after_workers i x) i) n) [] (all_workers nodes n x)
  all-worker-lines zero x le = ends
  all-worker-lines (suc n) x le =
      let few = few-workers nodes leaders followers workers s in
      lines-append Names all None (firsts worker_name n) (worker_name n ∷ []) (firsts (λ i. worker nodes (after_workers i x) i) n) (worker nodes (after_workers n x) n ∷ []) [] [] (all_workers nodes n x) (worker_rows nodes n (after_workers n x))
      (all-worker-lines n x (omega arith)) (worker-lines Names all nodes n (after_workers n x) s.some_node s.few_nodes (omega arith))

  abbrev leader_at : ℕ → ℕ → Script
  leader_at x j = leader workers nodes (child_count followers j) (after_leaders followers j x)

  all-leader-lines : (n x : ℕ) → Lines Names all None (firsts leader_name n) (firsts (leader_at x) n) [] (all_leaders workers nodes followers n x)
  all-leader-lines zero x = ends
  all-leader-lines (suc n) x =
      lines-append Names all None (firsts leader_name n) (leader_name n ∷ []) (firsts (leader_at x) n) (leader_at x n ∷ []) [] [] (all_leaders workers nodes followers n x) (leader_rows workers nodes (child_count followers n) n (after_leaders followers n x))
      (all-leader-lines n x) (leader-lines (child_count followers n) n (after_leaders followers n x) (few-children nodes leaders followers workers n s))

  start-spelled : (j : ℕ) → j < leaders → SpellsStart Names all (start_row nodes j) (start nodes workers j)
  start-spelled j lt = record {
    site = decimal (j % nodes);
    name = leader_name j;
    variable = start_name j;
    user = [];
    other = [];
    is = refl;
    node = let less = mod-lt j s.some_node in let few = s.few_nodes in number-for (j % nodes) (omega arith);
    script = leader-called j lt;
    var = start-called j lt;
    uid = inl (refl, refl);
    joined = refl;
  }

  all-start-lines : (n : ℕ) → n ≤ leaders → Lines Names all None [] [] (firsts (start nodes workers) n) (all_starts nodes n)
  all-start-lines zero le = ends
  all-start-lines (suc n) le =
      lines-append Names all None [] [] [] [] (firsts (start nodes workers) n) (start nodes workers n ∷ []) (all_starts nodes n) (start_row nodes n ∷ [])
      (all-start-lines n (omega arith)) (starts (start nodes workers n) (start_row nodes n) (start-spelled n (omega arith)) ends)

  -- all lines behind the first
  pub all-lines : (x y : ℕ)
      → Lines Names all None Names.scripts (firsts (λ i. worker nodes (after_workers i x) i) workers ++ firsts (leader_at y) leaders) (firsts (start nodes workers) leaders)
      (all_workers nodes workers x ++ all_leaders workers nodes followers leaders y ++ all_starts nodes leaders)
  all-lines x y =
      let few = s.some_leader in
      let rows : List Row = all_workers nodes workers x ++ all_leaders workers nodes followers leaders y ++ all_starts nodes leaders in
      let scripts : List Script = firsts (λ i. worker nodes (after_workers i x) i) workers ++ firsts (leader_at y) leaders in
      subst (λ (ns : List Word). Lines Names all None ns scripts (firsts (start nodes workers) leaders) rows) (append-nil Names.scripts)
      (subst (λ (ss : List Script). Lines Names all None (Names.scripts ++ []) ss (firsts (start nodes workers) leaders) rows) (append-nil scripts)
      (lines-append Names all None Names.scripts [] scripts [] [] (firsts (start nodes workers) leaders) (all_workers nodes workers x ++ all_leaders workers nodes followers leaders y) (all_starts nodes leaders)
      (lines-append Names all None (firsts worker_name workers) (firsts leader_name leaders) (firsts (λ i. worker nodes (after_workers i x) i) workers) (firsts (leader_at y) leaders) [] []
      (all_workers nodes workers x) (all_leaders workers nodes followers leaders y) (all-worker-lines workers x (omega arith)) (all-leader-lines leaders y))
      (all-start-lines leaders (omega arith))))
