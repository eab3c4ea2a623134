-- the numbers that a job and a table name
use Rattle.std.specs.Prelude.{ℕ, List, Some, ◌≡◌, ◌<◌, ◌^◌}
use Rattle.unix_names.specs.declared.Pid.{Pid}
use Rattle.unix_calls.specs.declared.Call.{Call}
use Rattle.unix_calls.specs.declared.Call.TheVariants as calls
use Rattle.unix_calls.specs.declared.Job.{Job}
use Rattle.unix_calls.specs.declared.Job.TheVariants.{Ask, Look, Push}
use Rattle.process_table.specs.declared.Row.{Row}
use Rattle.process_table.specs.Rows.{row_of}
use Rattle.decide_law.specs.Needs.{size}

-- the number fits in 32 bits
abbrev pub IsShort : ℕ → Type 0
IsShort n = n < 2 ^ 32

-- each number of a call is of this kind
abbrev pub CallNames : (ℕ → Type 0) → Call → Type 0
CallNames Given (calls.Getpgid t) = Given t
CallNames Given (calls.Getsid t) = Given t
CallNames Given (calls.Waitpid sel stopped continued) = Given (size sel)
CallNames Given (calls.Kill target sig) = Given (size target)
CallNames Given (calls.Setpgid t q) = Given t × Given (size q)
CallNames Given _ = Unit {0}

abbrev pub JobNames : (ℕ → Type 0) → Job → Type 0
JobNames Given (Ask call at) = CallNames Given call
JobNames Given Look = Unit {0}
JobNames Given (Push node) = Unit {0}

abbrev pub RowNames : (ℕ → Type 0) → Row → Type 0
RowNames Given r = Given r.pid.0 × Given r.parent.0 × Given r.group.0 × Given r.session.0

abbrev pub RowsName : (ℕ → Type 0) → List Row → Type 0
RowsName Given rows = (q : Pid) (r : Row) → row_of rows q ≡ Some r → RowNames Given r
