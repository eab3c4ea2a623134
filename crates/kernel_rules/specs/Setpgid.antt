-- setpgid (POSIX.1-2017, XSH setpgid): it is answered with ok, and sends nothing
use Rattle.std.specs.List.{list_any}
use Rattle.std.specs.Prelude.{◌==◌, ◌&&◌, ◌||◌, if◌then◌else◌, Bool, List, None, Option, Some, map, negsuc, not, pos, ℕ, ℤ}
use Rattle.unix_names.specs.declared.Errno.{Errno}
use Rattle.unix_names.specs.declared.Errno.TheVariants.{EACCES, EINVAL, EPERM, ESRCH}
use Rattle.unix_names.specs.declared.Pid.{Pid}
use Rattle.unix_calls.specs.declared.Reply.{Reply}
use Rattle.unix_calls.specs.declared.Reply.TheVariants.{Fine}
use Rattle.process_table.specs.Changes.{regrouped_at}
use Rattle.process_table.specs.Rows.{in_group, in_session, is_living_child, is_parent, is_pid, is_same, is_session_leader, pid, row_named}
use Rattle.process_table.specs.declared.Row.{Row}

-- ---- refusals
-- the process whose group is set, where 0 is the caller
abbrev pub target_pid : Row → ℕ → Pid
target_pid r t = if t == 0 then r.pid else pid t

-- the group that it gets, where 0 is its own pid
abbrev pub wanted_group : Row → ℕ → ℕ → Pid
wanted_group r t q = if q == 0 then target_pid r t else pid q

-- the caller itself, or a living child of it
abbrev pub is_own : Row → Row → Bool
is_own r c = is_pid r.pid c || is_living_child r.pid c

-- a child of the caller that has done exec
abbrev pub is_execed_child : Row → Row → Bool
is_execed_child r c = is_parent r.pid c && c.execed

-- a member of this group in the caller's session
abbrev pub is_in_session_group : Row → Pid → Row → Bool
is_in_session_group r g c = in_group g c && in_session r.session c

-- the target c can't go to the group g: it leads its session, or is of another one than the caller, or g is neither its own pid nor a group of the caller's session
abbrev pub is_fixed_in_group : List Row → Row → Row → Pid → Bool
is_fixed_in_group rows r c g =
    is_session_leader c
    || (not (in_session r.session c)
    || (not (is_same g c.pid) && not (list_any (is_in_session_group r g) rows)))

abbrev pub regroup_refusal : List Row → Row → Option Row → Pid → Option Errno
regroup_refusal rows r None g = Some ESRCH
regroup_refusal rows r (Some c) g =
    if not (is_own r c) then Some ESRCH
    else (if is_execed_child r c then Some EACCES
    else (if is_fixed_in_group rows r c g then Some EPERM
    else None))

abbrev pub setpgid_refusal : List Row → Row → ℕ → ℤ → Option Errno
setpgid_refusal rows r t (negsuc _) = Some EINVAL
setpgid_refusal rows r t (pos q) = regroup_refusal rows r (row_named rows r t) (wanted_group r t q)

-- ---- the table after it
abbrev pub after_setpgid : List Row → Row → ℕ → ℤ → Reply → List Row
after_setpgid rows r t (pos q) Fine = map (regrouped_at (target_pid r t) (wanted_group r t q)) rows
after_setpgid rows r t _ _ = rows
