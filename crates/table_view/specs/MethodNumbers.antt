-- method: the number of a refusal, told by its errno
use Rattle.std.specs.Prelude.{ℕ, if◌then◌else◌}
use Rattle.unix_names.specs.declared.Errno.{Errno}
use Rattle.unix_names.specs.declared.Errno.TheVariants.{EACCES, EPERM, ESRCH}
use Rattle.unix_calls.specs.Calls.{target_of}
use Rattle.unix_calls.specs.declared.Call.{Call}
use Rattle.unix_calls.specs.declared.Call.TheVariants.{Getpgid, Getsid, Kill, Setpgid}
use Rattle.unix_calls.specs.declared.Target.{Target}
use Rattle.kernel_rules.specs.Kill.{is_system}

abbrev pub look_number : Errno → ℕ
look_number ESRCH = 2
look_number _ = 1

-- of the two with EPERM that of the system process comes first
abbrev pub kill_number : Target → Errno → ℕ
kill_number target EPERM = if is_system target then 2 else 4
kill_number target ESRCH = 3
kill_number target _ = 1

abbrev pub setpgid_number : Errno → ℕ
setpgid_number ESRCH = 2
setpgid_number EACCES = 3
setpgid_number EPERM = 4
setpgid_number _ = 1

abbrev pub number_of : Call → Errno → ℕ
number_of (Getpgid t) errno = look_number errno
number_of (Getsid t) errno = look_number errno
number_of (Kill target s) errno = kill_number (target_of target) errno
number_of (Setpgid t q) errno = setpgid_number errno
number_of _ errno = 1
