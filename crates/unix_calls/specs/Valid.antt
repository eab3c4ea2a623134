-- Which worlds can be run.
use Rattle.std.specs.Prelude.{◌≡◌, ◌≢◌, ℕ, ◌+◌, ◌*◌, ◌<◌, ◌≤◌, ◌==◌, List, Option, Some, IfSome, IsTrue, length, take, slice_get, count_by, All}
use Rattle.unix_names.specs.declared.NodeId.{NodeId}
use Rattle.unix_names.specs.declared.limits.TheConstants.{PIDS_PER_NODE}
use Rattle.unix_calls.specs.declared.limits.TheConstants.{MOST_NODES, MOST_SCRIPTS, MOST_STATEMENTS, MOST_STARTS}
use Rattle.unix_calls.specs.declared.world.Arg.{Arg}
use Rattle.unix_calls.specs.declared.world.Arg.TheVariants.{Zero, One, Nobody, Own, Maker, Var}
use Rattle.unix_calls.specs.declared.world.Script.{Script}
use Rattle.unix_calls.specs.declared.world.Start.{Start}
use Rattle.unix_calls.specs.declared.world.Statement.{Statement}
use Rattle.unix_calls.specs.declared.world.Statement.TheVariants.{Getpid, Getppid, Getpgid, Getsid, Fork, Exec, Exit, Wait, Kill, Setpgid, Setsid, Action, Mask, Pending, Migrate}
use Rattle.unix_calls.specs.declared.world.World.{World}
use Rattle.unix_calls.specs.Work.{works, total_work, is_little}

-- each item, with its number, is as P says
abbrev pub EachAt : {X : Type 0} → (ℕ → X → Type 0) → List X → Type 0
EachAt {X} P xs = (k : ℕ) (x : X) → slice_get xs k ≡ Some x → P k x

abbrev pub IsNode : World → NodeId → Type 0
IsNode world node = node.0 < world.nodes

abbrev pub IsVariable : World → ℕ → Type 0
IsVariable world v = v < world.vars

abbrev pub IsArgument : World → Arg → Type 0
IsArgument world (Var v) = IsVariable world v
IsArgument world _ = Unit {0}

-- a statement of the k-th script: variables and nodes are in range, and a fork or an exec names an earlier script
abbrev pub IsStatement : World → ℕ → Statement → Type 0
IsStatement world k (Getpgid arg) = IsArgument world arg
IsStatement world k (Getsid arg) = IsArgument world arg
IsStatement world k (Fork var script at) = IsVariable world var × (script < k) × IfSome at (IsNode world)
IsStatement world k (Exec script) = script < k
IsStatement world k (Wait sleeps any minus arg stopped continued) = IsArgument world arg
IsStatement world k (Kill minus arg sig) = IsArgument world arg
IsStatement world k (Setpgid pid minus pgid) = IsArgument world pid × IsArgument world pgid
IsStatement world k (Migrate node) = IsNode world node
IsStatement world k _ = Unit {0}

-- at most 256 statements
abbrev pub IsScript : World → ℕ → Script → Type 0
IsScript world k script = (length script.statements ≤ MOST_STATEMENTS) × All (IsStatement world k) script.statements

-- how many of the starts are at a node
abbrev pub starts_at : NodeId → List Start → ℕ
starts_at node starts = count_by (λ start. start.node.0 == node.0) starts

-- the j-th start of node n, counted from 0, has the pid 1,000,000 n + 2 + j
abbrev pub start_pid : NodeId → List Start → ℕ
start_pid node earlier = PIDS_PER_NODE * node.0 + 2 + starts_at node earlier

-- the k-th start, where earlier are the starts before it
pub record IsStart (world : World) (earlier : List Start) (start : Start) : Type 0 where
  pub node : IsNode world start.node
  pub script : start.script < length world.scripts
  pub var : IsVariable world start.var
  pub pid : start.pid.0 ≡ start_pid start.node earlier
  pub own_var : All (λ other. other.var ≢ start.var) earlier
  pub joined : IfSome start.joined (λ j. j < length earlier)

-- 1 to 64 nodes, at most 64 scripts, and at most 64 starts
pub record HasLimits (world : World) : Type 0 where
  pub some_node : 1 ≤ world.nodes
  pub nodes : world.nodes ≤ MOST_NODES
  pub scripts : length world.scripts ≤ MOST_SCRIPTS
  pub starts : length world.starts ≤ MOST_STARTS

-- a world that can be run
pub record IsValid (world : World) : Type 0 where
  pub limits : HasLimits world
  pub scripts : EachAt (IsScript world) world.scripts
  pub starts : EachAt (λ k. IsStart world (take k world.starts)) world.starts
  pub work : IsTrue (is_little (total_work (works world.scripts) world.starts))
