-- tables that can come about
use Rattle.std.specs.Prelude.{true, false, ◌≡◌, ◌≢◌, ◌≤◌, ◌⊎◌, List, Option, None, Some}
use Rattle.unix_names.specs.declared.Pid.{Pid}
use Rattle.unix_names.specs.States.{is_living}
use Rattle.signal_state.specs.Signals.{IsKept}
use Rattle.process_table.specs.declared.Row.{Row}
use Rattle.process_table.specs.Rows.{row_of, is_stopped, child_count, AreDistinct}
use Rattle.unix_names.specs.declared.limits.TheConstants.{MOST_CHILDREN, NO_PID}

-- there is a row, of a living process
abbrev pub IsAlive : Option Row → Type 0
IsAlive None = ⊥
IsAlive (Some r) = is_living r.life ≡ true

-- one row, in its table
pub record IsSoundRow (rows : List Row) (r : Row) : Type 0 where
  -- it is not the system process, and not the pid that nobody has
  pub not_system : r.pid.0 ≢ 1
  pub not_nobody : r.pid.0 ≢ NO_PID
  -- its parent is the system process or lives, and is another process
  pub parent_lives : (r.parent.0 ≡ 1) ⊎ IsAlive (row_of rows r.parent)
  pub not_own_parent : r.parent.0 ≢ r.pid.0
  -- the members of its group have its session, and so have those of the group that its pid names
  pub group_session : (q : Pid) (c : Row) → row_of rows q ≡ Some c → c.group.0 ≡ r.group.0 → c.session ≡ r.session
  pub led_session : (q : Pid) (c : Row) → row_of rows q ≡ Some c → c.group.0 ≡ r.pid.0 → c.session ≡ r.session
  -- a living process is stopped by its life and by its signals alike
  pub stopped_alike : is_living r.life ≡ true → is_stopped r.life ≡ r.sig.stopped
  pub signals_kept : IsKept r.sig
  -- an ended process has no other change to report
  pub ended_unchanged : is_living r.life ≡ false → r.change ≡ None

pub record IsSound (rows : List Row) : Type 0 where
  pub distinct : AreDistinct rows
  pub each : (q : Pid) (r : Row) → row_of rows q ≡ Some r → IsSoundRow rows r
  -- no process but the system process has more children than a process may have
  pub few_children : (p : Pid) → p.0 ≢ 1 → child_count rows p ≤ MOST_CHILDREN
