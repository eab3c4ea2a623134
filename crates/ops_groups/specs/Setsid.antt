-- setsid, decided on records (POSIX.1-2017, XSH setsid)
use Rattle.std.specs.Prelude.{Option, None, Some, is_some, if◌then◌else◌}
use Rattle.unix_names.specs.declared.Pid.{Pid}
use Rattle.unix_names.specs.declared.Errno.{Errno}
use Rattle.unix_names.specs.declared.Errno.TheVariants.{EPERM}
use Rattle.unix_calls.specs.declared.Call.TheVariants.{Setsid}
use Rattle.unix_calls.specs.declared.Reply.TheVariants.{Number}
use Rattle.unix_calls.specs.declared.Entry.{Entry}
use Rattle.unix_calls.specs.declared.Entry.TheVariants.{Called}
use Rattle.signal_state.specs.Signals.{Signals}
use Rattle.vproc_record.specs.declared.Vproc.{Vproc}
use Rattle.group_record.specs.declared.Group.{Group}
use Rattle.record_bag.specs.declared.bag.Bag.{Bag}
use Rattle.record_bag.specs.Bags.{group_in}
use Rattle.decide_law.specs.Effects.{Effect, unless_refused, replied}
use Rattle.ops_groups.specs.Move.{GroupInSession, move}

-- the caller's pid is the id of a group
abbrev pub setsid_refusal : Bag → Vproc → Option Errno
setsid_refusal bag v = if is_some (group_in bag v.pid) then Some EPERM else None

-- it is answered with the caller's pid
abbrev pub setsid_entry : Pid → Entry
setsid_entry p = Called p Setsid (Number p.0)

-- a group and a session of the process's own pid
abbrev pub led_by : Vproc → GroupInSession
led_by v = record { group = v.pid; session = v.pid }

-- the caller goes from its group to its own
abbrev pub led_from : Bag → Signals → Pid → Vproc → Option Group → Effect
led_from bag sig p v None = replied p Setsid (Number p.0) sig
led_from bag sig p v (Some old) = move (setsid_entry p) bag sig p v old (led_by v)

-- what setsid does, on the bag in which the caller v is settled
abbrev pub setsid_effect : Bag → Signals → Pid → Vproc → Effect
setsid_effect bag sig p v = unless_refused (setsid_refusal bag v) p Setsid sig (led_from bag sig p v (group_in bag v.group))
