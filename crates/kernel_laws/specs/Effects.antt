-- what a step does to the rows of its table
use Rattle.std.specs.Prelude.{ℕ, ℤ, Bool, true, false, ◌≡◌, ◌≢◌, ◌==◌, ◌≤◌, ◌&&◌, List, [], ◌∷◌, ◌++◌, map, Option, None, Some, if◌then◌else◌}
use Rattle.unix_names.specs.declared.Pid.{Pid}
use Rattle.unix_names.specs.declared.Signal.{Signal}
use Rattle.unix_names.specs.Signals.{signal_of}
use Rattle.unix_names.specs.States.{is_living}
use Rattle.unix_calls.specs.declared.Call.TheVariants.{Fork, Exec, Exit, Waitpid, Kill, Setpgid, Action, Mask}
use Rattle.unix_calls.specs.declared.Reply.TheVariants.{Fine, Number, Child}
use Rattle.unix_calls.specs.declared.Event.TheVariants.{Caught, Discarded, StoppedBy, EndedBy, Continued}
use Rattle.unix_calls.specs.declared.Entry.{Entry}
use Rattle.unix_calls.specs.declared.Entry.TheVariants.{Called, Happened}
use Rattle.unix_calls.specs.declared.Target.{Target}
use Rattle.unix_calls.specs.Calls.{target_of}
use Rattle.unix_names.specs.declared.Act.{Act}
use Rattle.signal_state.specs.Signals.{Signals}
use Rattle.signal_state.specs.Sig.{generated, generated_all, after_exec, with_action, with_mask, delivered, stopped_by, resumed}
use Rattle.process_table.specs.declared.Row.{Row}
use Rattle.kernel_model.specs.declared.verdict.Verdict.TheVariants.{Legal}
use Rattle.kernel_model.specs.Sound.{IsSound}
use Rattle.process_table.specs.Rows.{is_pid, is_parent, row_of}
use Rattle.kernel_rules.specs.Kill.{is_permitted}
use Rattle.kernel_model.specs.Step.{process_of, verdict, after, sent}
use Rattle.unix_names.specs.declared.limits.TheConstants.{NO_PID}

-- ---- what changes of a row beside its signals
-- the process ends
abbrev pub is_end : Entry → Bool
is_end (Called p (Exit n) reply) = true
is_end (Happened p (EndedBy s)) = true
is_end _ = false

-- the entry reports of this process to its parent
abbrev pub is_report_of : Pid → Entry → Bool
is_report_of q (Called p (Waitpid sel stopped continued) (Child child w)) = q.0 == child.0
is_report_of q _ = false

-- the entry sets the group of this process
abbrev pub is_regrouping_of : Pid → Entry → Bool
is_regrouping_of q (Called p (Setpgid t g) Fine) = q.0 == t
is_regrouping_of q _ = false

-- a row of another process before and after: it took its signals; the end of its parent gives it to the system process, a report is made but once, its group is as its parent sets it, and all else stays
pub record IsSignalled (signals : List Signal) (entry : Entry) (before now : Row) : Type 0 where
  pub sig : now.sig ≡ generated_all before.sig (if is_living before.life then signals else [])
  pub pid : now.pid ≡ before.pid
  pub session : now.session ≡ before.session
  pub uid : now.uid ≡ before.uid
  pub life : now.life ≡ before.life
  pub execed : now.execed ≡ before.execed
  pub parent : now.parent ≡ (if is_end entry && is_parent (process_of entry) before then record { 0 = 1 } else before.parent)
  pub change : now.change ≡ (if is_report_of before.pid entry then None else before.change)
  pub group : is_regrouping_of before.pid entry ≡ false → now.group ≡ before.group

-- each row of another process that is left by a legal step took the signals that the step sent it, and is else as it was
abbrev pub OthersAreSignalled : Type 0
OthersAreSignalled = (rows : List Row) (entry : Entry) → IsSound rows → verdict rows entry ≡ Legal →
    (before now : Row) → row_of rows before.pid ≡ Some before → is_pid (process_of entry) before ≡ false → row_of (after rows entry) before.pid ≡ Some now →
    IsSignalled (sent rows entry before) entry before now

-- ---- the process itself
abbrev pub acted : Option Signal → Act → Signals → Signals
acted None act x = x
acted (Some s) act x = with_action x s act

-- what a call or an event does to the signals of its own process, before any is sent
abbrev pub own_signals : Entry → Signals → Signals
own_signals (Called p Exec reply) x = after_exec x
own_signals (Called p (Action s act) Fine) x = acted (signal_of s) act x
own_signals (Called p (Mask set) reply) x = with_mask x set
own_signals (Happened p (Caught s)) x = delivered x s
own_signals (Happened p (Discarded s)) x = delivered x s
own_signals (Happened p (StoppedBy s)) x = stopped_by x s
own_signals (Happened p Continued) x = resumed x
own_signals _ x = x

-- the process of a legal step has the signals that the call or event leaves it, and those that it sent itself
abbrev pub OwnSignals : Type 0
OwnSignals = (rows : List Row) (entry : Entry) → IsSound rows → verdict rows entry ≡ Legal →
    (before now : Row) → row_of rows (process_of entry) ≡ Some before → row_of (after rows entry) (process_of entry) ≡ Some now →
    now.sig ≡ generated_all (own_signals entry before.sig) (if is_living now.life then sent rows entry before else [])

-- ---- kill (POSIX.1-2017, XSH kill)
-- the row takes the signal once where it lives, the target names it and the caller may signal it; else it is as it was
abbrev pub killed_once : Row → Target → ℕ → Signal → Row → Row
killed_once caller target s signal c = if is_living c.life && is_permitted caller target s c then record c { sig = generated c.sig signal } else c

-- a kill is that change of each row, and no other
abbrev pub KillSignalsOnce : Type 0
KillSignalsOnce = (rows : List Row) (p : Pid) (caller : Row) (target : ℤ) (s : ℕ) (signal : Signal) →
    row_of rows p ≡ Some caller → signal_of s ≡ Some signal →
    after rows (Called p (Kill target s) Fine) ≡ map (killed_once caller (target_of target) s signal) rows

-- ---- fork (POSIX.1-2017, XSH fork)
-- a child of this caller with this pid
pub record IsChildOf (caller : Row) (n : ℕ) (child : Row) : Type 0 where
  pub pid : child.pid.0 ≡ n
  pub parent : child.parent ≡ caller.pid
  pub group : child.group ≡ caller.group
  pub session : child.session ≡ caller.session
  pub uid : child.uid ≡ caller.uid
  pub lives : is_living child.life ≡ true
  pub nothing_pending : child.sig.pending ≡ 0

-- the number names no row, no group and no session
pub record IsUnused (rows : List Row) (n : ℕ) : Type 0 where
  pub least : 2 ≤ n
  pub somebody : n ≢ NO_PID
  pub no_pid : (c : Row) → row_of rows c.pid ≡ Some c → c.pid.0 ≢ n
  pub no_group : (c : Row) → row_of rows c.pid ≡ Some c → c.group.0 ≢ n
  pub no_session : (c : Row) → row_of rows c.pid ≡ Some c → c.session.0 ≢ n

abbrev pub ForkIsFresh : Type 0
ForkIsFresh = (rows : List Row) (p : Pid) (caller : Row) (n : ℕ) →
    row_of rows p ≡ Some caller → verdict rows (Called p Fork (Number n)) ≡ Legal →
    IsUnused rows n × ((child : Row) × (after rows (Called p Fork (Number n)) ≡ rows ++ child ∷ []) × IsChildOf caller n child)

-- ---- which rows come and go
-- a living process keeps its row in each legal step but in its own end
abbrev pub LivingStay : Type 0
LivingStay = (rows : List Row) (entry : Entry) (q : Pid) (c : Row) → IsSound rows → verdict rows entry ≡ Legal → row_of rows q ≡ Some c → is_living c.life ≡ true →
    (is_end entry && is_pid (process_of entry) c) ≡ false → (now : Row) × (row_of (after rows entry) q ≡ Some now)

-- the entry is the fork of this process
abbrev pub IsForkOf : Pid → Entry → Type 0
IsForkOf q (Called p Fork (Number n)) = q.0 ≡ n
IsForkOf q _ = ⊥

-- a row that comes is that of a forked process
abbrev pub OnlyForksAdd : Type 0
OnlyForksAdd = (rows : List Row) (entry : Entry) (q : Pid) (now : Row) → IsSound rows → verdict rows entry ≡ Legal → row_of rows q ≡ None → row_of (after rows entry) q ≡ Some now → IsForkOf q entry
