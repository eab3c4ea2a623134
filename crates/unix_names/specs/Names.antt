use Rattle.std.specs.Prelude.{ℕ, ◌/◌, nat_lt, Bool, true, false, IsTrue, if◌then◌else◌}
use Rattle.unix_names.specs.declared.names.Name.{Name}
use Rattle.unix_names.specs.declared.names.Name.TheVariants.{V, G}
use Rattle.unix_names.specs.declared.limits.TheConstants.{PIDS_PER_NODE}

-- the process id of a name
abbrev pub pid_of : Name → ℕ
pid_of (V p) = p.0
pid_of (G g) = g.0

-- the node that a process id was given out at, or node 0 where there is no such node
abbrev pub home : Name → ℕ → ℕ
home name nodes = if nat_lt (pid_of name / PIDS_PER_NODE) nodes then pid_of name / PIDS_PER_NODE else 0

-- whether a name comes before another: every process before every group, then the lower id
abbrev pub is_before : Name → Name → Bool
is_before (V p) (V q) = nat_lt p.0 q.0
is_before (V p) (G h) = true
is_before (G g) (V q) = false
is_before (G g) (G h) = nat_lt g.0 h.0

-- the first name comes before the second
abbrev pub IsBefore : Name → Name → Type 0
IsBefore n m = IsTrue (is_before n m)
