-- How much a world makes when all forks and execs are followed.
use Rattle.std.specs.Prelude.{ℕ, ◌+◌, ◌-◌, min, Bool, ◌&&◌, nat_le, List, [], ◌∷◌, ◌++◌, unwrap_or, slice_get, fold}
use Rattle.unix_calls.specs.declared.world.Script.{Script}
use Rattle.unix_calls.specs.declared.world.Start.{Start}
use Rattle.unix_calls.specs.declared.world.Statement.{Statement}
use Rattle.unix_calls.specs.declared.world.Statement.TheVariants.{Fork, Exec}
use Rattle.unix_calls.specs.declared.work.Work.{Work}
use Rattle.unix_calls.specs.declared.limits.TheConstants.{WORK_STOP, MOST_PROCESSES, MOST_WORK}

-- so many processes, and so many statements
abbrev pub work : ℕ → ℕ → Work
work processes statements = record { processes = processes; statements = statements }

-- sums stop at 1,000,000
abbrev pub together : Work → Work → Work
together a b = work (min (a.processes + b.processes) WORK_STOP) (min (a.statements + b.statements) WORK_STOP)

-- the work of a script, or none where there is no such script
abbrev pub work_of : List Work → ℕ → Work
work_of works script = unwrap_or (slice_get works script) (work 0 0)

-- an exec goes on in the process that there is already
abbrev pub without_itself : Work → Work
without_itself w = work (w.processes - 1) w.statements

-- a statement counts one, a fork or an exec also the work of its script
abbrev pub with_statement : List Work → Work → Statement → Work
with_statement earlier w (Fork var script at) = together (together w (work 0 1)) (work_of earlier script)
with_statement earlier w (Exec script) = together (together w (work 0 1)) (without_itself (work_of earlier script))
with_statement earlier w _ = together w (work 0 1)

-- a script is one process, and its end is one statement
abbrev pub script_work : List Work → List Statement → Work
script_work earlier statements = fold (with_statement earlier) (work 1 1) statements

abbrev pub with_script : List Work → Script → List Work
with_script earlier script = earlier ++ script_work earlier script.statements ∷ []

-- the work of each script
abbrev pub works : List Script → List Work
works scripts = fold with_script [] scripts

-- the work of all starts
abbrev pub total_work : List Work → List Start → Work
total_work works starts = fold (λ total start. together total (work_of works start.script)) (work 0 0) starts

-- at most 1,024 processes and 4,096 statements
abbrev pub is_little : Work → Bool
is_little w = nat_le w.processes MOST_PROCESSES && nat_le w.statements MOST_WORK
