-- how many there are of each, and the naming
use Rattle.std.proofs.Common.{◌≡◌, ℕ, ◌+◌, ◌*◌, ◌/◌, ◌<◌, ◌≤◌, min, Bool, true, false, cond, ◌++◌, refl, arith, mod-lt}
use Rattle.unix_calls.specs.declared.Statement.{Statement}
use Rattle.unix_calls.specs.declared.Statement.TheVariants as statement
use Rattle.unix_calls.specs.declared.Arg.TheVariants.{Zero}
use Rattle.unix_names.specs.declared.Signal.TheVariants.{Usr1}
use Rattle.unix_names.specs.Signals.{number_of}
use Rattle.std.specs.Prelude.{◌==◌, [], ◌∷◌, codes}
use Rattle.std.specs.Fmt.{decimal}
use Rattle.script_laws.specs.Grammar.{Naming}
use Rattle.load_maker.specs.Made.{Row, drawn, stepped, statement_of, worker_name, leader_name, child_name, start_name, child_count, leader_count, follower_count, worker_count}
use Rattle.load_laws.specs.Worlds.{firsts, statement_for}
use Rattle.unix_calls.specs.declared.limits.TheConstants.{MOST_NODES}
use Rattle.load_maker.specs.declared.limits.TheConstants.{LARGEST_LOAD}

-- a cluster of some nodes, of which one in nine processes leads
pub record AreSizes (nodes leaders followers workers : ℕ) : Type 0 where
  pub some_node : 1 ≤ nodes
  pub few_nodes : nodes ≤ MOST_NODES
  pub some_leader : 1 ≤ leaders
  pub few_leaders : leaders ≤ 23
  pub are_workers : workers ≡ min followers 8
  pub led : followers ≤ 8 * leaders
  pub all : leaders + followers ≤ LARGEST_LOAD

pub sizes : (nodes size : ℕ) → 1 ≤ nodes → nodes ≤ MOST_NODES → 1 ≤ size → size ≤ LARGEST_LOAD → AreSizes nodes (leader_count size) (follower_count size) (worker_count size)
sizes nodes size a b c d = record {
  some_node = a;
  few_nodes = b;
  some_leader = omega arith;
  few_leaders = omega arith;
  are_workers = refl;
  led = omega arith;
  all = omega arith;
}

-- a node that is drawn is one
pub drawn-less : (n x : ℕ) → 1 ≤ n → drawn n x < n
drawn-less n x some = mod-lt (x / 65536) some

-- no leader has more children than there are workers
pub few-children : (nodes leaders followers workers j : ℕ) → AreSizes nodes leaders followers workers → child_count followers j ≤ workers
few-children nodes leaders followers workers j s = let w = s.are_workers in omega arith

pub few-workers : (nodes leaders followers workers : ℕ) → AreSizes nodes leaders followers workers → workers ≤ 8
few-workers nodes leaders followers workers s = let w = s.are_workers in omega arith

-- what scripts and variables are called
abbrev pub naming : ℕ → ℕ → Naming
naming workers leaders = record {
  scripts = firsts worker_name workers ++ firsts leader_name leaders;
  variables = firsts child_name workers ++ firsts start_name leaders;
}

-- what holds of each statement that may be drawn holds of the one that is
module _ (P : Row → Statement → Type 0) where
  pick : (b : Bool) (r r' : Row) (s s' : Statement) → P r s → P r' s' → P (cond b r r') (cond b s s')
  pick true r r' s s' p q = p
  pick false r r' s s' p q = q

  pub each-drawn : (number nodes x : ℕ)
      → P (codes "getppid" ∷ []) statement.Getppid
      → P (codes "getpgid" ∷ codes "0" ∷ []) (statement.Getpgid Zero)
      → P (codes "setpgid" ∷ codes "0" ∷ codes "0" ∷ []) (statement.Setpgid Zero false Zero)
      → P (codes "migrate" ∷ decimal (drawn nodes (stepped x)) ∷ []) (statement.Migrate (record { 0 = drawn nodes (stepped x) }))
      → P (codes "kill" ∷ codes "0" ∷ codes "USR1" ∷ []) (statement.Kill false Zero (number_of Usr1))
      → P (codes "setsid" ∷ []) statement.Setsid
      → P (statement_of number nodes x) (statement_for number nodes x)
  each-drawn number nodes x a b c d e f =
      pick (number == 0) _ _ _ _ a
      (pick (number == 1) _ _ _ _ b
      (pick (number == 2) _ _ _ _ c
      (pick (number == 3) _ _ _ _ d
      (pick (number == 4) _ _ _ _ e f))))
