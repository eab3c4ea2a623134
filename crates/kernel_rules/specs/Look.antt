-- getpid, getppid, getpgid and getsid (POSIX.1-2017, XSH getpid, getppid, getpgid and getsid): they change nothing and send nothing
use Rattle.std.specs.Prelude.{◌==◌, if◌then◌else◌, Bool, List, None, Option, Some, false, is_none, ℕ}
use Rattle.unix_names.specs.declared.Errno.{Errno}
use Rattle.unix_names.specs.declared.Errno.TheVariants.{EPERM, ESRCH}
use Rattle.unix_calls.specs.declared.Reply.{Reply}
use Rattle.process_table.specs.Rows.{row_named}
use Rattle.process_table.specs.declared.Row.{Row}
use Rattle.kernel_rules.specs.Replies.{is_number}

-- ---- refusals
-- the system process is not told of; otherwise there must be such a process, ended or not
abbrev pub look_refusal : List Row → Row → ℕ → Option Errno
look_refusal rows r t =
    if t == 1 then Some EPERM
    else (if is_none (row_named rows r t) then Some ESRCH
    else None)

-- ---- replies
-- the caller's pid
abbrev pub is_own_number : Row → Reply → Bool
is_own_number r reply = is_number r.pid.0 reply

-- its parent's pid
abbrev pub is_parent_number : Row → Reply → Bool
is_parent_number r reply = is_number r.parent.0 reply

abbrev pub is_group_of : Option Row → Reply → Bool
is_group_of None reply = false
is_group_of (Some c) reply = is_number c.group.0 reply

abbrev pub is_session_of : Option Row → Reply → Bool
is_session_of None reply = false
is_session_of (Some c) reply = is_number c.session.0 reply
