-- getpid, getppid, getpgid and getsid, decided on records (POSIX.1-2017, XSH getpid, getppid, getpgid and getsid)
use Rattle.std.specs.Prelude.{ℕ, ◌==◌, Option, None, Some, if◌then◌else◌}
use Rattle.unix_names.specs.declared.Pid.{Pid}
use Rattle.unix_names.specs.declared.Errno.TheVariants.{EPERM, ESRCH}
use Rattle.unix_calls.specs.declared.Call.{Call}
use Rattle.unix_calls.specs.declared.Call.TheVariants.{Getpgid, Getsid}
use Rattle.unix_calls.specs.declared.Reply.{Reply}
use Rattle.unix_calls.specs.declared.Reply.TheVariants.{Number, Refused}
use Rattle.vproc_record.specs.declared.Vproc.{Vproc}
use Rattle.record_bag.specs.declared.bag.Bag.{Bag}
use Rattle.record_bag.specs.Bags.{vproc_in}
use Rattle.process_table.specs.Rows.{pid}
use Rattle.decide_law.specs.Effects.{replied}
use Rattle.decide_law.specs.Parts.{CallEffect}
use Rattle.ops_groups.specs.declared.lookups.Column.{Column}
use Rattle.ops_groups.specs.declared.lookups.Column.TheVariants.{Group, Session}

-- what stands there of a process
abbrev pub column_of : Column → Vproc → Pid
column_of Group v = v.group
column_of Session v = v.session

-- the call that tells it
abbrev pub column_call : Column → ℕ → Call
column_call Group t = Getpgid t
column_call Session t = Getsid t

-- what is told of a process, if there is one
abbrev pub column_reply : Column → Option Vproc → Reply
column_reply column None = Refused ESRCH
column_reply column (Some v) = Number (column_of column v).0

-- 0 is the caller; the system process is not told of
abbrev pub look_reply : Column → Bag → Vproc → ℕ → Reply
look_reply column bag v t = if t == 0 then Number (column_of column v).0 else (if t == 1 then Refused EPERM else column_reply column (vproc_in bag (pid t)))

-- a look-up changes nothing
abbrev pub look_effect : Column → ℕ → CallEffect
look_effect column t bag sig p v = replied p (column_call column t) (look_reply column bag v t) sig
