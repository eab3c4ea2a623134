-- a made world can be run
use Rattle.std.proofs.Common.{◌≡◌, ◌≢◌, ◌++◌, ℕ, ◌+◌, ◌*◌, ◌%◌, ◌<◌, ◌≤◌, List, length, length-append, take, refl, sym, ap, ◌∙◌, subst, arith, mod-lt}
use Rattle.std.proofs.lemmas.Bool.{le-leb}
use Rattle.std.proofs.lemmas.List.Elements.{All-from_recursion, All-append, All-cons}
use Rattle.unix_names.specs.declared.Signal.TheVariants.{Usr1}
use Rattle.unix_names.specs.declared.Act.TheVariants.{Catch}
use Rattle.unix_names.specs.Signals.{number_of}
use Rattle.unix_calls.specs.declared.Script.{Script}
use Rattle.unix_calls.specs.declared.Start.{Start}
use Rattle.unix_calls.specs.declared.Statement.{Statement}
use Rattle.unix_calls.specs.declared.Statement.TheVariants as statement
use Rattle.unix_calls.specs.declared.World.{World}
use Rattle.unix_calls.specs.Valid.{EachAt, IsStatement, IsScript, IsStart, IsValid}
use Rattle.unix_calls.specs.Work.{is_little}
use Rattle.unix_calls.specs.declared.limits.TheConstants.{MOST_PROCESSES, MOST_WORK}
use Rattle.unix_names.specs.declared.limits.TheConstants.{PIDS_PER_NODE}
use Rattle.load_maker.specs.Made.{Row, drawn, stepped, after_statement, after_workers, after_leaders, after_children, child_count}
use Rattle.load_laws.specs.Worlds.{firsts, drawn_statement, worker, fork, wait, leader, start, world_of}
use Rattle.load_laws.proofs.Lists.{length-firsts, All-firsts, each-firsts, each-append, take-firsts}
use Rattle.load_laws.proofs.Sizes.{AreSizes, drawn-less, few-children, few-workers, each-drawn}
use Rattle.load_laws.proofs.Rounds.{starts-before}
use Rattle.load_laws.proofs.Works.{whole-work}

module _ (seed nodes leaders followers workers : ℕ) (s : AreSizes nodes leaders followers workers) where
  abbrev W : World
  W = world_of seed nodes leaders followers workers

  drawn-valid : (k x : ℕ) → IsStatement W k (drawn_statement nodes x)
  drawn-valid k x = each-drawn (λ (row : Row) (s : Statement). IsStatement W k s) (drawn 6 (stepped x)) nodes (stepped x)
      tt tt (tt, tt) (drawn-less nodes (stepped (stepped x)) s.some_node) tt tt

  worker-valid : (k x i : ℕ) → IsScript W k (worker nodes x i)
  worker-valid k x i =
      (omega arith, All-from_recursion (IsStatement W k) (worker nodes x i).statements (tt, (tt, (drawn-valid k x, (drawn-valid k (after_statement x), (tt, (tt, (tt, tt))))))))

  fork-valid : (j x i : ℕ) → i < workers → IsStatement W (workers + j) (fork workers nodes x i)
  fork-valid j x i lt =
      let state = after_children i x in
      let which = drawn-less workers (stepped state) (omega arith) in
      let some = s.some_leader in
      (omega arith, omega arith, drawn-less nodes (stepped (stepped state)) s.some_node)

  leader-valid : (j children x : ℕ) → children ≤ workers → IsScript W (workers + j) (leader workers nodes children x)
  leader-valid j children x le =
      let forks : List Statement = firsts (fork workers nodes x) children in
      let waits : List Statement = firsts (λ _. wait) children in
      let long = length-append forks waits in
      let long_forks = length-firsts (fork workers nodes x) children in
      let long_waits = length-firsts (λ (_ : ℕ). wait) children in
      let few = few-workers nodes leaders followers workers s in (
        omega arith,
        All-cons (IsStatement W (workers + j)) (statement.Action (number_of Usr1) Catch) (forks ++ waits) tt
            (All-append (IsStatement W (workers + j)) forks waits
            (All-firsts (IsStatement W (workers + j)) (fork workers nodes x) children (λ i lt. fork-valid j x i (omega arith)))
            (All-firsts (IsStatement W (workers + j)) (λ _. wait) children (λ i lt. tt))),
      )

  abbrev worker_at : ℕ → Script
  worker_at i = worker nodes (after_workers i seed) i

  abbrev leader_at : ℕ → Script
  leader_at j = leader workers nodes (child_count followers j) (after_leaders followers j (after_workers workers seed))

  scripts-valid : EachAt (IsScript W) W.scripts
  scripts-valid =
      each-append (IsScript W) (firsts worker_at workers) (firsts leader_at leaders) workers (length-firsts worker_at workers)
      (each-firsts (IsScript W) worker_at workers (λ i lt. worker-valid i (after_workers i seed) i))
      (each-firsts (λ k. IsScript W (workers + k)) leader_at leaders (λ j lt. leader-valid j (child_count followers j) (after_leaders followers j (after_workers workers seed)) (few-children nodes leaders followers workers j s)))

  many-scripts : length W.scripts ≡ workers + leaders
  many-scripts =
      let both = length-append (firsts worker_at workers) (firsts leader_at leaders) in
      let first = length-firsts worker_at workers in
      let second = length-firsts leader_at leaders in
      omega arith

  earlier-length : (j : ℕ) → length (firsts (start nodes workers) j) ≡ j
  earlier-length j = length-firsts (start nodes workers) j

  start-valid : (j : ℕ) → j < leaders → IsStart W (firsts (start nodes workers) j) (start nodes workers j)
  start-valid j lt = record {
    node = mod-lt j s.some_node;
    script = let many = many-scripts in omega arith;
    var = omega arith;
    pid = ap (λ n. PIDS_PER_NODE * (j % nodes) + 2 + n) (sym (starts-before nodes workers j s.some_node));
    own_var = All-firsts (λ other. other.var ≢ workers + j) (start nodes workers) j (λ i less e. omega arith);
    joined = tt;
  }

  starts-valid : EachAt (λ k. IsStart W (take k W.starts)) W.starts
  starts-valid = each-firsts (λ k. IsStart W (take k W.starts)) (start nodes workers) leaders
      (λ j lt. subst (λ (earlier : List Start). IsStart W earlier (start nodes workers j)) (sym (take-firsts (start nodes workers) leaders j lt)) (start-valid j lt))

  pub world-valid : IsValid W
  world-valid = record {
    limits = record {
      some_node = s.some_node;
      nodes = s.few_nodes;
      scripts = let many = many-scripts in let few = few-workers nodes leaders followers workers s in let led = s.few_leaders in omega arith;
      starts = let many = length-firsts (start nodes workers) leaders in let led = s.few_leaders in omega arith;
    };
    scripts = scripts-valid;
    starts = starts-valid;
    work = let all = s.all in
        ap is_little (whole-work nodes leaders followers workers s seed (after_workers workers seed))
        ∙ rw (le-leb (leaders + followers) MOST_PROCESSES (omega arith), le-leb (2 * leaders + 10 * followers) MOST_WORK (omega arith)) refl;
  }
