-- What a shell does for jobs, step by step. Stages go by the numbers of their forks.
use Rattle.std.specs.Prelude.{ℕ, true, false, List, [], ◌∷◌, Some}
use Rattle.unix_names.specs.declared.NodeId.{NodeId}
use Rattle.unix_names.specs.declared.Signal.{Signal}
use Rattle.unix_names.specs.declared.Signal.TheVariants.{Stop}
use Rattle.unix_names.specs.Signals.{number_of}
use Rattle.unix_calls.specs.declared.Arg.TheVariants as arg
use Rattle.unix_calls.specs.declared.Statement.{Statement}
use Rattle.unix_calls.specs.declared.Statement.TheVariants as statement

pub data Act : Type 0 where
  -- it forks a stage that runs a script, at a node
  Begin : ℕ → ℕ → NodeId → Act
  -- it waits until the stage has stopped
  Await : ℕ → Act
  -- it puts the stage into the group of a first stage
  Join : ℕ → ℕ → Act
  -- it signals the group of a first stage
  Send : ℕ → Signal → Act
  -- it waits for the end of the stage
  Reap : ℕ → Act

-- the statement of a step: the v-th stage's pid is held by the v-th variable
abbrev pub statement_of : Act → Statement
statement_of (Begin v script node) = statement.Fork v script (Some node)
statement_of (Await v) = statement.Wait true false false (arg.Var v) true false
statement_of (Join v first) = statement.Setpgid (arg.Var v) false (arg.Var first)
statement_of (Send first s) = statement.Kill true (arg.Var first) (number_of s)
statement_of (Reap v) = statement.Wait true false false (arg.Var v) false false

-- what a stage does that ends with a status: it stops, and when it may go on it asks its pid and ends
abbrev pub stage_statements : ℕ → List Statement
stage_statements status = statement.Kill false arg.Own (number_of Stop) ∷ statement.Getpid ∷ statement.Exit status ∷ []
