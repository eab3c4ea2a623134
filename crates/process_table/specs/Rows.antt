-- rows, and what is looked up in a table: the list of its rows in order of creation
use Rattle.std.specs.List.{list_any}
use Rattle.std.specs.Prelude.{◌≡◌, ◌==◌, ◌&&◌, ◌∷◌, if◌then◌else◌, [], Bool, List, None, Option, Some, false, filter, find, length, not, true, ℕ}
use Rattle.unix_names.specs.States.{is_living}
use Rattle.unix_names.specs.declared.Life.{Life}
use Rattle.unix_names.specs.declared.Life.TheVariants.{Ended, Runs, Stopped}
use Rattle.unix_names.specs.declared.Pid.{Pid}
use Rattle.process_table.specs.declared.rows.Row.{Row}

-- the id of a number
abbrev pub pid : ℕ → Pid
pid n = record { 0 = n }

-- ids of one number are one id
abbrev pub is_same : Pid → Pid → Bool
is_same p q = p.0 == q.0

-- the group is one of these
abbrev pub is_among : List Pid → Pid → Bool
is_among groups g = list_any (is_same g) groups

-- the row is that of this process
abbrev pub is_pid : Pid → Row → Bool
is_pid p r = r.pid.0 == p.0

-- the row is that of a child of this process
abbrev pub is_parent : Pid → Row → Bool
is_parent p r = r.parent.0 == p.0

-- the row is that of a member of this group, ended or not
abbrev pub in_group : Pid → Row → Bool
in_group g r = r.group.0 == g.0

-- the row is that of a process of this session
abbrev pub in_session : Pid → Row → Bool
in_session s r = r.session.0 == s.0

-- the process is stopped
abbrev pub is_stopped : Life → Bool
is_stopped Stopped = true
is_stopped Runs = false
is_stopped (Ended _) = false

-- the row is that of a living child of this process
abbrev pub is_living_child : Pid → Row → Bool
is_living_child p r = is_parent p r && is_living r.life

-- a child that has ended
abbrev pub is_ended_child : Pid → Row → Bool
is_ended_child p c = is_parent p c && not (is_living c.life)

-- the child's row has ended
abbrev pub is_ended_at : Pid → Row → Bool
is_ended_at p c = is_pid p c && not (is_living c.life)

-- the process leads its session
abbrev pub is_session_leader : Row → Bool
is_session_leader r = is_same r.session r.pid

-- the row of a process
abbrev pub row_of : List Row → Pid → Option Row
row_of rows p = find (is_pid p) rows

-- the row that a call's number names, where 0 is the caller
abbrev pub row_named : List Row → Row → ℕ → Option Row
row_named rows caller n = if n == 0 then Some caller else row_of rows (pid n)

-- the rows of a group, ended ones too
abbrev pub members : List Row → Pid → List Row
members rows g = filter (in_group g) rows

-- the rows of the children of a process, ended ones too
abbrev pub children : List Row → Pid → List Row
children rows p = filter (is_parent p) rows

-- how many children a process has, ended ones too
abbrev pub child_count : List Row → Pid → ℕ
child_count rows p = length (children rows p)

-- the row of a process passes a test
abbrev pub passes : (Row → Bool) → Option Row → Bool
passes t None = false
passes t (Some c) = t c

-- a test that only children of p pass is passed by some row exactly where it is by that of one of these processes
abbrev pub AreChildren : List Row → Pid → List Pid → Type 0
AreChildren rows p pids = (t : Row → Bool) → ((c : Row) → t c ≡ true → is_parent p c ≡ true) → list_any (λ q. passes t (row_of rows q)) pids ≡ list_any t rows

-- no pid comes twice
abbrev pub AreDistinct : List Row → Type 0
AreDistinct [] = Unit {0}
AreDistinct (r ∷ rows) = (row_of rows r.pid ≡ None) × AreDistinct rows
