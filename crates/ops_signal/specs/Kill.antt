-- kill, decided on records (POSIX.1-2017, XSH kill)
use Rattle.std.specs.Prelude.{ℕ, ℤ, Bool, false, ◌==◌, ◌&&◌, ◌||◌, not, List, [], ◌∷◌, map, filter, Option, None, Some, is_some, if◌then◌else◌}
use Rattle.std.specs.List.{list_any}
use Rattle.unix_names.specs.declared.Pid.{Pid}
use Rattle.unix_names.specs.declared.Signal.{Signal}
use Rattle.unix_names.specs.declared.Signal.TheVariants.{Cont}
use Rattle.unix_names.specs.declared.Errno.{Errno}
use Rattle.unix_names.specs.declared.Errno.TheVariants.{EPERM, ESRCH, EINVAL}
use Rattle.unix_names.specs.Signals.{number_of, signal_of}
use Rattle.unix_names.specs.States.{is_living}
use Rattle.unix_calls.specs.declared.Call.TheVariants.{Kill}
use Rattle.unix_calls.specs.declared.Reply.TheVariants.{Fine}
use Rattle.unix_calls.specs.declared.Entry.{Entry}
use Rattle.unix_calls.specs.declared.Entry.TheVariants.{Called}
use Rattle.unix_calls.specs.declared.Phase.TheVariants as phase
use Rattle.unix_calls.specs.declared.Target.{Target}
use Rattle.unix_calls.specs.declared.Target.TheVariants.{OwnGroup, One, InGroup}
use Rattle.unix_calls.specs.Calls.{target_of}
use Rattle.signal_state.specs.Signals.{Signals}
use Rattle.vproc_record.specs.declared.Vproc.{Vproc}
use Rattle.group_record.specs.declared.Member.{Member}
use Rattle.group_record.specs.declared.Allow.{Allow}
use Rattle.group_record.specs.declared.Allow.TheVariants as allow
use Rattle.group_record.specs.declared.LogEntry.{LogEntry}
use Rattle.group_record.specs.declared.Group.{Group}
use Rattle.record_bag.specs.declared.bag.Bag.{Bag}
use Rattle.record_bag.specs.Bags.{vproc_in, group_in}
use Rattle.process_table.specs.Rows.{is_same}
use Rattle.kernel_rules.specs.Kill.{is_sendable, is_system}
use Rattle.decide_law.specs.Nudges.{but_caller, others_of}
use Rattle.decide_law.specs.Effects.{Effect, replied, append, to_one, unless_refused}

-- ---- permission
-- the signal continues a process of this session, which is the caller's
abbrev pub continues : ℕ → Vproc → Pid → Bool
continues s v session = (s == number_of Cont) && is_same session v.session

-- the caller is the superuser, or is this user, or continues a process of its session
abbrev pub may_user : Vproc → ℕ → Bool → Bool
may_user v uid within = (v.uid == 0) || ((v.uid == uid) || within)

abbrev pub may_process : Vproc → ℕ → Vproc → Bool
may_process v s u = may_user v u.uid (continues s v u.session)

abbrev pub may_member : Vproc → ℕ → Group → Member → Bool
may_member v s g m = may_user v m.uid (continues s v g.session)

-- whom an entry for a whole group concerns
abbrev pub allowed : Vproc → ℕ → Group → Allow
allowed v s g = if (v.uid == 0) || continues s v g.session then allow.All else allow.Uid v.uid

-- ---- refusals
abbrev pub is_nobody : Bag → Target → Bool
is_nobody bag OwnGroup = false
is_nobody bag (One t) = not (is_some (vproc_in bag t))
is_nobody bag (InGroup g) = not (is_some (group_in bag g))

abbrev pub process_forbidden : Vproc → ℕ → Option Vproc → Bool
process_forbidden v s None = false
process_forbidden v s (Some u) = not (may_process v s u)

abbrev pub group_forbidden : Vproc → ℕ → Option Group → Bool
group_forbidden v s None = false
group_forbidden v s (Some g) = not (list_any (may_member v s g) g.members)

-- nobody whom the target names may be signalled; the caller itself always may
abbrev pub is_forbidden : Bag → Vproc → Target → ℕ → Bool
is_forbidden bag v OwnGroup s = false
is_forbidden bag v (One t) s = process_forbidden v s (vproc_in bag t)
is_forbidden bag v (InGroup g) s = group_forbidden v s (group_in bag g)

abbrev pub kill_refusal : Bag → Vproc → Target → ℕ → Option Errno
kill_refusal bag v target s =
    if not (is_sendable s) then Some EINVAL
    else (if is_system target then Some EPERM
    else (if is_nobody bag target then Some ESRCH
    else (if is_forbidden bag v target s then Some EPERM
    else None)))

-- ---- sending
abbrev pub to_group : Signal → Vproc → ℕ → Group → LogEntry
to_group signal v s g = record { signal = signal; target = None; allow = allowed v s g }

abbrev pub kill_entry : Pid → ℤ → ℕ → Entry
kill_entry p z s = Called p (Kill z s) Fine

abbrev pub send_group : Signals → Pid → Vproc → ℤ → ℕ → Signal → Pid → Option Group → Effect
send_group sig p v z s signal id None = replied p (Kill z s) Fine sig
send_group sig p v z s signal id (Some g) = append (Some (kill_entry p z s)) sig phase.Ready (others_of p g.members) id (to_group signal v s g)

-- one that has ended takes no signal
abbrev pub send_one : Signals → Pid → ℤ → ℕ → Signal → Pid → Option Vproc → Effect
send_one sig p z s signal t None = replied p (Kill z s) Fine sig
send_one sig p z s signal t (Some u) =
    if is_living u.life then append (Some (kill_entry p z s)) sig phase.Ready (but_caller p t) u.group (to_one signal t)
    else replied p (Kill z s) Fine sig

abbrev pub send : Bag → Signals → Pid → Vproc → ℤ → ℕ → Signal → Target → Effect
send bag sig p v z s signal OwnGroup = send_group sig p v z s signal v.group (group_in bag v.group)
send bag sig p v z s signal (One t) = send_one sig p z s signal t (vproc_in bag t)
send bag sig p v z s signal (InGroup id) = send_group sig p v z s signal id (group_in bag id)

-- 0 is no signal
abbrev pub send_any : Bag → Signals → Pid → Vproc → ℤ → ℕ → Option Signal → Effect
send_any bag sig p v z s None = replied p (Kill z s) Fine sig
send_any bag sig p v z s (Some signal) = send bag sig p v z s signal (target_of z)

-- what kill does, on the bag in which the caller v is settled
abbrev pub kill_effect : Bag → Signals → Pid → Vproc → ℤ → ℕ → Effect
kill_effect bag sig p v z s = unless_refused (kill_refusal bag v (target_of z) s) p (Kill z s) sig (send_any bag sig p v z s (signal_of s))
