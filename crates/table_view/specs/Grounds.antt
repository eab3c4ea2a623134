-- Why a call is answered as it is: which of its refusals is the first that holds, counted as the kernel's rules for the call list them.
use Rattle.std.specs.Prelude.{◌≡◌, ◌==◌, ℕ, suc, ℤ, pos, negsuc, Bool, true, false, not, is_none, if◌then◌else◌, List, [], ◌∷◌, Option, None, Some}
use Rattle.unix_names.specs.declared.Errno.{Errno}
use Rattle.unix_names.specs.declared.Errno.TheVariants.{EACCES, EINVAL, EPERM, ESRCH}
use Rattle.unix_names.specs.declared.Pid.{Pid}
use Rattle.unix_names.specs.Signals.{signal_of}
use Rattle.unix_calls.specs.Calls.{selector_of, target_of}
use Rattle.unix_calls.specs.declared.Call.{Call}
use Rattle.unix_calls.specs.declared.Call.TheVariants.{Action, Fork, Getpgid, Getsid, Kill, Setpgid, Setsid, Waitpid}
use Rattle.unix_calls.specs.declared.Entry.{Entry}
use Rattle.unix_calls.specs.declared.Entry.TheVariants.{Called, Happened}
use Rattle.unix_calls.specs.declared.Target.{Target}
use Rattle.process_table.specs.declared.Row.{Row}
use Rattle.process_table.specs.Rows.{row_named, row_of}
use Rattle.kernel_rules.specs.Action.{action_refusal}
use Rattle.kernel_rules.specs.Calls.{refusal}
use Rattle.kernel_rules.specs.Fork.{fork_refusal}
use Rattle.kernel_rules.specs.Kill.{is_forbidden, is_nobody, is_sendable, is_system}
use Rattle.kernel_rules.specs.Setpgid.{is_execed_child, is_fixed_in_group, is_own, wanted_group}
use Rattle.kernel_rules.specs.Setsid.{setsid_refusal}
use Rattle.kernel_rules.specs.Wait.{wait_refusal}
use Rattle.table_view.specs.declared.grounds.Ground.{Ground}
use Rattle.table_view.specs.declared.grounds.Ground.TheVariants.{Refusal, Otherwise, Event}

-- a refusal of a call: whether it holds, and what is answered then
pub record Case : Type 0 where
  pub holds : Bool
  pub errno : Errno

-- ---- the refusals of each call in their order
-- getpgid and getsid: of the system process, of nobody
abbrev pub look_cases : List Row → Row → ℕ → List Case
look_cases rows r t =
    record { holds = t == 1; errno = EPERM }
    ∷ record { holds = is_none (row_named rows r t); errno = ESRCH }
    ∷ []

-- kill: no signal, the system process, nobody, nobody whom the caller may signal
abbrev pub kill_cases : List Row → Row → Target → ℕ → List Case
kill_cases rows r target s =
    record { holds = not (is_sendable s); errno = EINVAL }
    ∷ record { holds = is_system target; errno = EPERM }
    ∷ record { holds = is_nobody rows r target; errno = ESRCH }
    ∷ record { holds = is_forbidden rows r target s; errno = EPERM }
    ∷ []

-- setpgid to a group that a number names: neither the caller nor a living child of it, a child after its exec, one that can't go to that group
abbrev pub regroup_cases : List Row → Row → Option Row → Pid → List Case
regroup_cases rows r None g = record { holds = true; errno = ESRCH } ∷ []
regroup_cases rows r (Some c) g =
    record { holds = not (is_own r c); errno = ESRCH }
    ∷ record { holds = is_execed_child r c; errno = EACCES }
    ∷ record { holds = is_fixed_in_group rows r c g; errno = EPERM }
    ∷ []

-- setpgid: a number below 0 names no group
abbrev pub setpgid_cases : List Row → Row → ℕ → ℤ → List Case
setpgid_cases rows r t (negsuc n) = record { holds = true; errno = EINVAL } ∷ []
setpgid_cases rows r t (pos q) = record { holds = false; errno = EINVAL } ∷ regroup_cases rows r (row_named rows r t) (wanted_group r t q)

-- a call with one refusal
abbrev pub single_case : Option Errno → List Case
single_case None = []
single_case (Some errno) = record { holds = true; errno = errno } ∷ []

abbrev pub cases : List Row → Row → Call → List Case
cases rows r (Getpgid t) = look_cases rows r t
cases rows r (Getsid t) = look_cases rows r t
cases rows r Fork = single_case (fork_refusal rows r)
cases rows r (Waitpid sel stopped continued) = single_case (wait_refusal rows r (selector_of sel))
cases rows r (Kill target s) = kill_cases rows r (target_of target) s
cases rows r (Setpgid t q) = setpgid_cases rows r t q
cases rows r Setsid = single_case (setsid_refusal rows r)
cases rows r (Action s act) = single_case (action_refusal (signal_of s))
cases rows r _ = []

-- ---- the first that holds
abbrev pub first_errno : List Case → Option Errno
first_errno [] = None
first_errno (c ∷ cs) = if c.holds then Some c.errno else first_errno cs

-- its number, where the first of these has this one
abbrev pub first_number : ℕ → List Case → Option ℕ
first_number number [] = None
first_number number (c ∷ cs) = if c.holds then Some number else first_number (suc number) cs

-- these are the kernel's refusals: the first that holds is the one that it answers
abbrev pub AreRefusals : Type 0
AreRefusals = (rows : List Row) (r : Row) (call : Call) → first_errno (cases rows r call) ≡ refusal rows r call

-- ---- the ground of an entry
abbrev pub ground_told : Option ℕ → Ground
ground_told None = Otherwise
ground_told (Some number) = Refusal number

-- the first refusal of a call that holds for this caller, counted from 1
abbrev pub call_ground : List Row → Row → Call → Ground
call_ground rows r call = ground_told (first_number 1 (cases rows r call))

-- a caller without a row, of whom no legal history tells, has no refusal
abbrev pub caller_ground : List Row → Option Row → Call → Ground
caller_ground rows None call = Otherwise
caller_ground rows (Some r) call = call_ground rows r call

-- the ground of an entry, where the table before it is this
abbrev pub ground : List Row → Entry → Ground
ground rows (Called caller call reply) = caller_ground rows (row_of rows caller) call
ground rows (Happened p event) = Event
