-- how the table and the scripts stand while the shell lives
use Rattle.std.proofs.Common.{◌≡◌, ◌≢◌, ◌⊎◌, ◌<◌, ◌≤◌, ℕ, Bool, true, false, List, None, Some, slice_get}
use Rattle.unix_names.specs.declared.Pid.{Pid}
use Rattle.unix_names.specs.declared.Signal.{Signal}
use Rattle.unix_names.specs.declared.Signal.TheVariants.{Stop, Term}
use Rattle.unix_names.specs.declared.Life.TheVariants.{Runs, Stopped, Ended}
use Rattle.unix_names.specs.declared.WaitStatus.{WaitStatus}
use Rattle.unix_names.specs.declared.WaitStatus.TheVariants as status
use Rattle.unix_names.specs.States.{is_living}
use Rattle.unix_names.specs.Sets.{has}
use Rattle.unix_calls.specs.declared.World.{World}
use Rattle.signal_state.specs.Signals.{Signals}
use Rattle.signal_state.specs.Sig.{fresh}
use Rattle.process_table.specs.declared.Row.{Row}
use Rattle.process_table.specs.Rows.{row_of, child_count}
use Rattle.proc_image.specs.Scripts.{Progress}
use Rattle.proc_image.specs.Follows.{Running}
use Rattle.job_laws.specs.Orders.{Mark, Absent, Born, Seen, Member, Going, Reaped, Marks, is_held}
use Rattle.job_plans.specs.Plans.{Plan}
use Rattle.job_plans.specs.Acts.{stage_statements}
use Rattle.job_plans.specs.Worlds.{script_with}
use Rattle.job_laws.specs.Forks.{shell, pid}
use Rattle.job_laws.proofs.Family.{shell_row, IsChild}

-- a stage that has signalled itself to stop, and one that has stopped so
abbrev pub halting : Signals
halting = record { pending = 524288; mask = 0; ignored = 0; caught = 0; stopped = false; due = false }

abbrev pub halted : Signals
halted = record { pending = 0; mask = 0; ignored = 0; caught = 0; stopped = true; due = false }

-- a stage that was forked and not seen stopped: at its first statement; past it, with the stop pending; stopped, with that to report
pub data IsNew (k : ℕ) (r : Row) : Type 0 where
  first : k ≡ 0 → r.life ≡ Runs → r.change ≡ None → r.sig ≡ fresh → IsNew k r
  second : k ≡ 1 → r.life ≡ Runs → r.change ≡ None → r.sig ≡ halting → IsNew k r
  third : k ≡ 1 → r.life ≡ Stopped → r.change ≡ Some (status.Stopped Stop) → r.sig ≡ halted → IsNew k r

-- a stage that was seen stopped and not let go
pub record IsHalted (k : ℕ) (r : Row) : Type 0 where
  pub at : k ≡ 1
  pub life : r.life ≡ Stopped
  pub change : r.change ≡ None
  pub sig : r.sig ≡ halted

-- nothing is blocked, ignored or caught, and nothing else is pending but a stop and, where an end was asked for, an end
pub record IsLoose (b : Bool) (x : Signals) : Type 0 where
  pub mask : x.mask ≡ 0
  pub ignored : x.ignored ≡ 0
  pub caught : x.caught ≡ 0
  pub only : (s : Signal) → has x.pending s ≡ true → (s ≡ Stop) ⊎ ((s ≡ Term) × (b ≡ true))

abbrev pub IsItsEnd : Bool → ℕ → WaitStatus → Type 0
IsItsEnd b e w = (w ≡ status.Exited e) ⊎ ((w ≡ status.Killed Term) × (b ≡ true))

-- a stage that was let go: before its getpid or before its exit; or at its end
pub data IsLetGo (b : Bool) (e k : ℕ) (r : Row) : Type 0 where
  lives : (k ≡ 1) ⊎ (k ≡ 2) → is_living r.life ≡ true → IsLoose b r.sig → IsLetGo b e k r
  over : (w : WaitStatus) → r.life ≡ Ended w → IsItsEnd b e w → IsLetGo b e k r

-- a stage of this mark, with this status, at this statement
abbrev pub IsStageAs : Mark → ℕ → ℕ → Row → Type 0
IsStageAs Absent e k r = ⊥
IsStageAs Born e k r = IsNew k r
IsStageAs Seen e k r = IsHalted k r
IsStageAs Member e k r = IsHalted k r
IsStageAs (Going b) e k r = IsLetGo b e k r
IsStageAs Reaped e k r = ⊥

-- the group of a stage of this mark, where this is the pid of its job's first stage
abbrev pub group_at : Mark → ℕ → Pid
group_at Member g = pid g
group_at (Going b) g = pid g
group_at _ g = shell

module _ (world : World) where
  -- a process of this pid, mark, status and group
  pub record HasStage (q : ℕ) (m : Mark) (e : ℕ) (g : Pid) (rows : List Row) (running : Running) : Type 0 where
    pub row : Row
    pub there : row_of rows (pid q) ≡ Some row
    pub child : IsChild row
    pub group : row.group ≡ g
    pub at : Progress
    pub runs : running q ≡ Some at
    pub script : slice_get world.scripts at.script ≡ Some (script_with (stage_statements e))
    pub state : IsStageAs m e at.position row

  module _ (plan : Plan) where
    -- the stages have these marks and pids, and the first n of them are forked
    pub record Core (marks : Marks) (p : ℕ → ℕ) (n : ℕ) (rows : List Row) (running : Running) : Type 0 where
      pub shell_there : row_of rows shell ≡ Some shell_row
      pub held : (v : ℕ) → is_held (marks v) ≡ true → HasStage (p v) (marks v) (plan.status v) (group_at (marks v) (p (plan.first v))) rows running
      pub nobody : (q : Pid) (r : Row) → row_of rows q ≡ Some r → (q.0 ≡ 2) ⊎ ((v : ℕ) × (is_held (marks v) ≡ true) × (p v ≡ q.0))
      pub later : (v : ℕ) → n ≤ v → marks v ≡ Absent
      pub forked : (v : ℕ) → v < n → marks v ≢ Absent
      pub numbers : (v : ℕ) → v < n → 2 < p v
      pub apart : (u v : ℕ) → is_held (marks u) ≡ true → u < v → v < n → p u ≢ p v
      pub few : child_count rows shell ≤ n
