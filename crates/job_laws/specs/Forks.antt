-- The shell of a job file, and its stages by their forks.
use Rattle.std.specs.Prelude.{ℕ, ◌≡◌, ◌==◌, List, [], ◌∷◌, length, fold, Option, None, Some, if◌then◌else◌}
use Rattle.unix_names.specs.declared.Pid.{Pid}
use Rattle.unix_calls.specs.declared.Call.{Call}
use Rattle.unix_calls.specs.declared.Call.TheVariants.{Fork}
use Rattle.unix_calls.specs.declared.Reply.{Reply}
use Rattle.unix_calls.specs.declared.Reply.TheVariants.{Number}
use Rattle.unix_calls.specs.declared.Entry.{Entry}
use Rattle.unix_calls.specs.declared.Entry.TheVariants.{Called, Happened}

-- the shell
abbrev pub shell : Pid
shell = record { 0 = 2 }

abbrev pub pid : ℕ → Pid
pid n = record { 0 = n }

-- ---- stages by their forks
abbrev pub forked_number : Call → Reply → List ℕ → List ℕ
forked_number Fork (Number n) forks = n ∷ forks
forked_number _ _ forks = forks

abbrev pub with_fork : List ℕ → Entry → List ℕ
with_fork forks (Called p call reply) = if p.0 == 2 then forked_number call reply forks else forks
with_fork forks (Happened p event) = forks

-- what the forks of the shell answered, the last one first
abbrev pub forks : List Entry → List ℕ
forks history = fold with_fork [] history

-- the stage that has this pid: the last that was forked as such
abbrev pub stage_in : List ℕ → ℕ → Option ℕ
stage_in [] p = None
stage_in (n ∷ older) p = if n == p then Some (length older) else stage_in older p

-- after this history a process is this stage
abbrev pub IsStage : List Entry → ℕ → Pid → Type 0
IsStage before v p = stage_in (forks before) p.0 ≡ Some v
