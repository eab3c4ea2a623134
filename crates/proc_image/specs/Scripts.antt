-- How a process runs its script: what it asks next, and how far it is after the answer.
use Rattle.std.specs.Prelude.{ℕ, suc, Bool, true, false, ℤ, pos, neg_ℤ, List, Option, None, Some, unwrap_or, option_and_then, slice_get, slice_set}
use Rattle.unix_names.specs.declared.Pid.{Pid}
use Rattle.unix_names.specs.declared.NodeId.{NodeId}
use Rattle.std.specs.Option.{option_map_or}
use Rattle.unix_calls.specs.declared.Arg.{Arg}
use Rattle.unix_calls.specs.declared.Arg.TheVariants.{Zero, One, Nobody, Own, Maker, Var}
use Rattle.unix_calls.specs.declared.Call.{Call}
use Rattle.unix_calls.specs.declared.Call.TheVariants as calls
use Rattle.unix_calls.specs.declared.Reply.{Reply}
use Rattle.unix_calls.specs.declared.Reply.TheVariants.{Number, Again}
use Rattle.unix_calls.specs.declared.Statement.{Statement}
use Rattle.unix_calls.specs.declared.Statement.TheVariants.{Getpid, Getppid, Getpgid, Getsid, Fork, Exec, Exit, Wait, Kill, Setpgid, Setsid, Action, Mask, Pending, Migrate}
use Rattle.unix_calls.specs.declared.World.{World}
use Rattle.unix_names.specs.declared.limits.TheConstants.{NO_PID}

-- how far a process is: who forked it, its script, the number of its next statement, and what its variables hold
pub record Progress : Type 0 where
  pub maker : Pid
  pub script : ℕ
  pub position : ℕ
  pub vars : List ℕ

-- the pid that no process has, and that a variable holds before it is assigned
abbrev pub nobody : ℕ
nobody = NO_PID

-- the pid that a statement names
abbrev pub argument : Pid → Progress → Arg → ℕ
argument own at Zero = 0
argument own at One = 1
argument own at Nobody = nobody
argument own at Own = own.0
argument own at Maker = at.maker.0
argument own at (Var v) = unwrap_or (slice_get at.vars v) nobody

-- a pid, or with a minus the group of that number
abbrev pub signed : Bool → ℕ → ℤ
signed false n = pos n
signed true n = neg_ℤ (pos n)

-- the number of waitpid: -1 is any child
abbrev pub selected : Bool → Bool → ℕ → ℤ
selected true minus n = neg_ℤ (pos 1)
selected false minus n = signed minus n

-- the call that a statement makes
abbrev pub call_of : Pid → Progress → Statement → Call
call_of own at Getpid = calls.Getpid
call_of own at Getppid = calls.Getppid
call_of own at (Getpgid arg) = calls.Getpgid (argument own at arg)
call_of own at (Getsid arg) = calls.Getsid (argument own at arg)
call_of own at (Fork _ _ _) = calls.Fork
call_of own at (Exec _) = calls.Exec
call_of own at (Exit n) = calls.Exit n
call_of own at (Wait _ any minus arg stopped continued) = calls.Waitpid (selected any minus (argument own at arg)) stopped continued
call_of own at (Kill minus arg sig) = calls.Kill (signed minus (argument own at arg)) sig
call_of own at (Setpgid arg minus group) = calls.Setpgid (argument own at arg) (signed minus (argument own at group))
call_of own at Setsid = calls.Setsid
call_of own at (Action sig act) = calls.Action sig act
call_of own at (Mask set) = calls.Mask set
call_of own at Pending = calls.Pending
call_of own at (Migrate _) = calls.Migrate

-- after the last statement stands `exit 0`
abbrev pub call_or_exit : Pid → Progress → Option Statement → Call
call_or_exit own at None = calls.Exit 0
call_or_exit own at (Some s) = call_of own at s

-- the next statement, or none past the last one
abbrev pub next_statement : World → Progress → Option Statement
next_statement world at = option_and_then (λ script. slice_get script.statements at.position) (slice_get world.scripts at.script)

-- what a process asks next
abbrev pub next_call : World → Pid → Progress → Call
next_call world own at = call_or_exit own at (next_statement world at)

abbrev pub passed : Progress → Progress
passed at = record { maker = at.maker; script = at.script; position = suc at.position; vars = at.vars }

-- exec goes on with the first statement of its script and keeps the variables
abbrev pub after_exec : ℕ → Progress → Progress
after_exec script at = record { maker = at.maker; script = script; position = 0; vars = at.vars }

-- what a fork puts into its variable: the child's pid, or where it was refused nobody
abbrev pub forked : Reply → ℕ
forked (Number n) = n
forked _ = nobody

abbrev pub after_fork : ℕ → Reply → Progress → Progress
after_fork var reply at = record { maker = at.maker; script = at.script; position = suc at.position; vars = slice_set at.vars var (forked reply) }

-- a sleeping wait that was answered Again stands again
abbrev pub after_wait : Bool → Reply → Progress → Progress
after_wait true Again at = at
after_wait _ _ at = passed at

-- how far a process is after the answer to a statement
abbrev pub after_reply : Reply → Progress → Statement → Progress
after_reply reply at (Fork var _ _) = after_fork var reply at
after_reply reply at (Exec script) = after_exec script at
after_reply reply at (Wait sleeps _ _ _ _ _) = after_wait sleeps reply at
after_reply reply at _ = passed at

abbrev pub after_reply_or_exit : Reply → Progress → Option Statement → Progress
after_reply_or_exit reply at None = at
after_reply_or_exit reply at (Some s) = after_reply reply at s

-- how far a process is after a reply
abbrev pub moved_on : World → Progress → Reply → Progress
moved_on world at reply = after_reply_or_exit reply at (next_statement world at)

-- a child begins its script with the caller's variables from before the fork
abbrev pub forked_by : Pid → Progress → ℕ → Progress
forked_by caller at script = record { maker = caller; script = script; position = 0; vars = at.vars }

abbrev pub child_of : Pid → Progress → Statement → Option Progress
child_of caller at (Fork _ script _) = Some (forked_by caller at script)
child_of caller at _ = None

-- the child of a caller whose next statement is a fork
abbrev pub next_child : World → Pid → Progress → Option Progress
next_child world caller at = option_and_then (child_of caller at) (next_statement world at)

-- the node that a fork or a migration names
abbrev pub node_of : Statement → Option NodeId
node_of (Fork _ _ at) = at
node_of (Migrate node_id) = Some node_id
node_of _ = None

-- the statement is a sleeping wait, and the reply Again
abbrev pub is_wait_again : Statement → Reply → Bool
is_wait_again (Wait true _ _ _ _ _) Again = true
is_wait_again _ _ = false

abbrev pub stands_again : World → Progress → Reply → Bool
stands_again world at reply = option_map_or (λ s. is_wait_again s reply) (next_statement world at) false
