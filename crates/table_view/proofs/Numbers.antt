-- The cases that are counted are the kernel's, and their numbers are told by their errnos.
use Rattle.std.proofs.Common.{◌≡◌, ℕ, Bool, true, false, cond, not, List, [], ◌∷◌, Option, None, Some, option_map, refl, sym, ap, ◌∙◌}
use Rattle.std.specs.Prelude.{ℤ, pos, negsuc, ◌==◌, is_none}
use Rattle.unix_names.specs.declared.Errno.{Errno}
use Rattle.unix_names.specs.declared.Errno.TheVariants.{EACCES, EAGAIN, ECHILD, EINVAL, EPERM, ESRCH}
use Rattle.unix_names.specs.declared.Pid.{Pid}
use Rattle.unix_names.specs.Signals.{signal_of}
use Rattle.unix_calls.specs.Calls.{selector_of, target_of}
use Rattle.unix_calls.specs.declared.Call.{Call}
use Rattle.unix_calls.specs.declared.Call.TheVariants.{Action, Exec, Exit, Fork, Getpgid, Getpid, Getppid, Getsid, Kill, Mask, Migrate, Pending, Setpgid, Setsid, Waitpid}
use Rattle.unix_calls.specs.declared.Target.{Target}
use Rattle.process_table.specs.declared.Row.{Row}
use Rattle.process_table.specs.Rows.{row_named}
use Rattle.kernel_rules.specs.Action.{action_refusal}
use Rattle.kernel_rules.specs.Calls.{refusal}
use Rattle.kernel_rules.specs.Fork.{fork_refusal}
use Rattle.kernel_rules.specs.Kill.{is_forbidden, is_nobody, is_sendable, is_system}
use Rattle.kernel_rules.specs.Setpgid.{is_execed_child, is_fixed_in_group, is_own, wanted_group, regroup_refusal}
use Rattle.kernel_rules.specs.Setsid.{setsid_refusal}
use Rattle.kernel_rules.specs.Wait.{wait_refusal}
use Rattle.table_view.specs.declared.grounds.Ground.TheVariants.{Refusal, Otherwise}
use Rattle.table_view.specs.Grounds.{Case, cases, kill_cases, regroup_cases, setpgid_cases, single_case, first_errno, first_number, AreRefusals, ground_told, call_ground}
use Rattle.table_view.specs.MethodNumbers.{look_number, kill_number, setpgid_number, number_of}

-- ---- the kernel's refusals
single_errno : (o : Option Errno) → first_errno (single_case o) ≡ o
single_errno None = refl
single_errno (Some errno) = refl

regroup_errno : (rows : List Row) (r : Row) (o : Option Row) (g : Pid) → first_errno (regroup_cases rows r o g) ≡ regroup_refusal rows r o g
regroup_errno rows r None g = refl
regroup_errno rows r (Some c) g = refl

setpgid_errno : (rows : List Row) (r : Row) (t : ℕ) (q : ℤ) → first_errno (setpgid_cases rows r t q) ≡ refusal rows r (Setpgid t q)
setpgid_errno rows r t (negsuc n) = refl
setpgid_errno rows r t (pos q) = regroup_errno rows r (row_named rows r t) (wanted_group r t q)

pub are_refusals : AreRefusals
are_refusals rows r Getpid = refl
are_refusals rows r Getppid = refl
are_refusals rows r (Getpgid t) = refl
are_refusals rows r (Getsid t) = refl
are_refusals rows r Fork = single_errno (fork_refusal rows r)
are_refusals rows r Exec = refl
are_refusals rows r (Exit n) = refl
are_refusals rows r (Waitpid sel stopped continued) = single_errno (wait_refusal rows r (selector_of sel))
are_refusals rows r (Kill target s) = refl
are_refusals rows r (Setpgid t q) = setpgid_errno rows r t q
are_refusals rows r Setsid = single_errno (setsid_refusal rows r)
are_refusals rows r (Action s act) = single_errno (action_refusal (signal_of s))
are_refusals rows r (Mask set) = refl
are_refusals rows r Pending = refl
are_refusals rows r Migrate = refl

-- ---- the numbers
-- the cases are told apart by these numbers
abbrev AreTold : (Errno → ℕ) → List Case → Type 0
AreTold number cs = first_number 1 cs ≡ option_map number (first_errno cs)

single_told : (o : Option Errno) → AreTold (λ errno. 1) (single_case o)
single_told None = refl
single_told (Some errno) = refl

look_told : (a b : Bool) → AreTold look_number (record { holds = a; errno = EPERM } ∷ record { holds = b; errno = ESRCH } ∷ [])
look_told true b = refl
look_told false true = refl
look_told false false = refl

kill_number_at : Bool → Errno → ℕ
kill_number_at system EPERM = cond system 2 4
kill_number_at system ESRCH = 3
kill_number_at system _ = 1

kill_told : (a b c d : Bool) → AreTold (kill_number_at b)
    (record { holds = a; errno = EINVAL } ∷ record { holds = b; errno = EPERM } ∷ record { holds = c; errno = ESRCH } ∷ record { holds = d; errno = EPERM } ∷ [])
unfolding kill_number_at
kill_told true b c d = refl
kill_told false true c d = refl
kill_told false false true d = refl
kill_told false false false true = refl
kill_told false false false false = refl

kill_alike : (target : Target) (o : Option Errno) → option_map (kill_number_at (is_system target)) o ≡ option_map (kill_number target) o
unfolding kill_number_at
kill_alike target None = refl
kill_alike target (Some EPERM) = refl
kill_alike target (Some ESRCH) = refl
kill_alike target (Some EACCES) = refl
kill_alike target (Some EINVAL) = refl
kill_alike target (Some ECHILD) = refl
kill_alike target (Some EAGAIN) = refl

move_told : (b c d : Bool) → AreTold setpgid_number
    (record { holds = false; errno = EINVAL } ∷ record { holds = b; errno = ESRCH } ∷ record { holds = c; errno = EACCES } ∷ record { holds = d; errno = EPERM } ∷ [])
move_told true c d = refl
move_told false true d = refl
move_told false false true = refl
move_told false false false = refl

regroup_told : (rows : List Row) (r : Row) (o : Option Row) (g : Pid) → AreTold setpgid_number (record { holds = false; errno = EINVAL } ∷ regroup_cases rows r o g)
regroup_told rows r None g = refl
regroup_told rows r (Some c) g = move_told (not (is_own r c)) (is_execed_child r c) (is_fixed_in_group rows r c g)

setpgid_told : (rows : List Row) (r : Row) (t : ℕ) (q : ℤ) → AreTold setpgid_number (setpgid_cases rows r t q)
setpgid_told rows r t (negsuc n) = refl
setpgid_told rows r t (pos q) = regroup_told rows r (row_named rows r t) (wanted_group r t q)

told : (rows : List Row) (r : Row) (call : Call) → AreTold (number_of call) (cases rows r call)
told rows r Getpid = refl
told rows r Getppid = refl
told rows r (Getpgid t) = look_told (t == 1) (is_none (row_named rows r t))
told rows r (Getsid t) = look_told (t == 1) (is_none (row_named rows r t))
told rows r Fork = single_told (fork_refusal rows r)
told rows r Exec = refl
told rows r (Exit n) = refl
told rows r (Waitpid sel stopped continued) = single_told (wait_refusal rows r (selector_of sel))
told rows r (Kill target s) =
    kill_told (not (is_sendable s)) (is_system (target_of target)) (is_nobody rows r (target_of target)) (is_forbidden rows r (target_of target) s)
    ∙ kill_alike (target_of target) (first_errno (kill_cases rows r (target_of target) s))
told rows r (Setpgid t q) = setpgid_told rows r t q
told rows r Setsid = single_told (setsid_refusal rows r)
told rows r (Action s act) = single_told (action_refusal (signal_of s))
told rows r (Mask set) = refl
told rows r Pending = refl
told rows r Migrate = refl

number_told : (rows : List Row) (r : Row) (call : Call) → first_number 1 (cases rows r call) ≡ option_map (number_of call) (refusal rows r call)
number_told rows r call = told rows r call ∙ ap (option_map (number_of call)) (are_refusals rows r call)

-- a call that is not refused has no number
pub none_refused : (rows : List Row) (r : Row) (call : Call) (o : Option Errno) → o ≡ refusal rows r call → o ≡ None → Otherwise ≡ call_ground rows r call
none_refused rows r call o is none = sym (ap ground_told (number_told rows r call ∙ ap (option_map (number_of call)) (sym is ∙ none)))

-- one that is refused has that of its errno
pub some_refused : (rows : List Row) (r : Row) (call : Call) (o : Option Errno) (errno : Errno) → o ≡ refusal rows r call → o ≡ Some errno → Refusal (number_of call errno) ≡ call_ground rows r call
some_refused rows r call o errno is some = sym (ap ground_told (number_told rows r call ∙ ap (option_map (number_of call)) (sym is ∙ some)))
