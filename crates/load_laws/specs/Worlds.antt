-- the world of a made file
use Rattle.std.specs.Prelude.{ℕ, zero, suc, ◌+◌, ◌*◌, ◌/◌, ◌%◌, true, false, ◌==◌, if◌then◌else◌, Some, None, List, [], ◌∷◌, ◌++◌}
use Rattle.unix_names.specs.declared.Signal.TheVariants.{Usr1}
use Rattle.unix_names.specs.declared.Act.TheVariants.{Catch}
use Rattle.unix_names.specs.Signals.{number_of}
use Rattle.unix_names.specs.Sets.{added}
use Rattle.unix_calls.specs.declared.Arg.TheVariants.{Zero, Nobody}
use Rattle.unix_calls.specs.declared.Script.{Script}
use Rattle.unix_calls.specs.declared.Start.{Start}
use Rattle.unix_calls.specs.declared.Statement.{Statement}
use Rattle.unix_calls.specs.declared.Statement.TheVariants as statement
use Rattle.unix_calls.specs.declared.World.{World}
use Rattle.load_maker.specs.Made.{stepped, drawn, after_statement, after_workers, after_children, after_leaders, child_count, leader_count, follower_count, worker_count}
use Rattle.unix_names.specs.declared.limits.TheConstants.{PIDS_PER_NODE}

-- what f makes of the numbers below n, in order
abbrev pub firsts : {X : Type 0} → (ℕ → X) → ℕ → List X
firsts f zero = []
firsts f (suc n) = firsts f n ++ f n ∷ []

-- ---- workers
-- what the statement of a drawn number says; a migration draws its node too
abbrev pub statement_for : ℕ → ℕ → ℕ → Statement
statement_for number nodes x =
    if number == 0 then statement.Getppid
    else (if number == 1 then statement.Getpgid Zero
    else (if number == 2 then statement.Setpgid Zero false Zero
    else (if number == 3 then statement.Migrate (record { 0 = drawn nodes (stepped x) })
    else (if number == 4 then statement.Kill false Zero (number_of Usr1)
    else statement.Setsid))))

-- what the statement says that is drawn from a state
abbrev pub drawn_statement : ℕ → ℕ → Statement
drawn_statement nodes x = statement_for (drawn 6 (stepped x)) nodes (stepped x)

-- the i-th worker, drawn from a state
abbrev pub worker : ℕ → ℕ → ℕ → Script
worker nodes x i = record {
  statements = statement.Mask (added 0 Usr1) ∷ statement.Getpid ∷ drawn_statement nodes x ∷ drawn_statement nodes (after_statement x) ∷ statement.Pending ∷ statement.Mask 0 ∷ statement.Exit i ∷ [];
}

-- ---- leaders
-- the i-th child is held by the i-th variable
abbrev pub fork : ℕ → ℕ → ℕ → ℕ → Statement
fork workers nodes x i =
    let state = after_children i x in
    statement.Fork i (drawn workers (stepped state)) (Some (record { 0 = drawn nodes (stepped (stepped state)) }))

-- it sleeps until any child has ended
abbrev pub wait : Statement
wait = statement.Wait true true false Nobody false false

-- a leader with so many children, drawn from a state
abbrev pub leader : ℕ → ℕ → ℕ → ℕ → Script
leader workers nodes children x = record {
  statements = statement.Action (number_of Usr1) Catch ∷ firsts (fork workers nodes x) children ++ firsts (λ _. wait) children;
}

-- ---- the whole
-- the scripts are those of the workers and then those of the leaders
abbrev pub scripts_of : ℕ → ℕ → ℕ → ℕ → ℕ → List Script
scripts_of seed nodes leaders followers workers =
    firsts (λ i. worker nodes (after_workers i seed) i) workers
    ++ firsts (λ j. leader workers nodes (child_count followers j) (after_leaders followers j (after_workers workers seed))) leaders

-- The j-th leader starts at node j mod nodes, where as many have started before as there were rounds.
-- Its variable comes behind those of the children, of which the first leader has the most: as many as there are workers.
abbrev pub start : ℕ → ℕ → ℕ → Start
start nodes workers j = record {
  node = record { 0 = j % nodes };
  script = workers + j;
  var = workers + j;
  pid = record { 0 = PIDS_PER_NODE * (j % nodes) + 2 + j / nodes };
  uid = 0;
  joined = None;
}

-- the world of a seed, so many nodes, leaders and followers, and so many scripts of workers
abbrev pub world_of : ℕ → ℕ → ℕ → ℕ → ℕ → World
world_of seed nodes leaders followers workers = record {
  nodes = nodes;
  vars = workers + leaders;
  scripts = scripts_of seed nodes leaders followers workers;
  starts = firsts (start nodes workers) leaders;
}

-- the world that the file of a seed means, for so many nodes and processes
abbrev pub made_world : ℕ → ℕ → ℕ → World
made_world seed nodes size = world_of seed nodes (leader_count size) (follower_count size) (worker_count size)
