-- setpgid, decided on records (POSIX.1-2017, XSH setpgid)
use Rattle.std.specs.Prelude.{ℕ, ℤ, pos, negsuc, ◌&&◌, not, Option, None, Some, if◌then◌else◌}
use Rattle.unix_names.specs.declared.Pid.{Pid}
use Rattle.unix_names.specs.declared.Errno.{Errno}
use Rattle.unix_names.specs.declared.Errno.TheVariants.{EPERM, EINVAL}
use Rattle.unix_calls.specs.declared.Call.TheVariants.{Setpgid}
use Rattle.unix_calls.specs.declared.Reply.TheVariants.{Fine}
use Rattle.unix_calls.specs.declared.Entry.{Entry}
use Rattle.unix_calls.specs.declared.Entry.TheVariants.{Called}
use Rattle.signal_state.specs.Signals.{Signals}
use Rattle.vproc_record.specs.declared.Vproc.{Vproc}
use Rattle.group_record.specs.declared.Group.{Group}
use Rattle.record_bag.specs.declared.bag.Bag.{Bag}
use Rattle.record_bag.specs.Bags.{group_in}
use Rattle.process_table.specs.Rows.{is_same}
use Rattle.decide_law.specs.Effects.{Effect, unless_refused, replied}
use Rattle.decide_law.specs.Told.{target_pid, wanted_group, target_in, early_refusal, is_session_group}
use Rattle.ops_groups.specs.Move.{GroupInSession, move}

-- ---- refusals
-- the last refusal: the group is neither the target's own pid nor a group of the caller's session
abbrev pub group_refusal : Bag → Vproc → Pid → Pid → Option Errno
group_refusal bag v t new = if not (is_same new t) && not (is_session_group v (group_in bag new)) then Some EPERM else None

abbrev pub first_of : Option Errno → Option Errno → Option Errno
first_of None later = later
first_of (Some e) later = Some e

abbrev pub refusal_by : Bag → Vproc → Pid → Pid → Option Errno
refusal_by bag v t new = first_of (early_refusal v (target_in bag v t)) (group_refusal bag v t new)

abbrev pub setpgid_refusal : Bag → Vproc → ℕ → ℤ → Option Errno
setpgid_refusal bag v t (negsuc _) = Some EINVAL
setpgid_refusal bag v t (pos q) = refusal_by bag v (target_pid v t) (wanted_group v t q)

-- ---- the change
abbrev pub setpgid_entry : Pid → ℕ → ℤ → Entry
setpgid_entry p t q = Called p (Setpgid t q) Fine

-- the group, of the session in which u is
abbrev pub within_session : Vproc → Pid → GroupInSession
within_session u new = record { group = new; session = u.session }

-- ---- the decision, where all of its footprint is held
abbrev pub move_from : Bag → Signals → Pid → ℕ → ℤ → Vproc → Pid → Option Group → Effect
move_from bag sig p t q u new None = replied p (Setpgid t q) Fine sig
move_from bag sig p t q u new (Some old) = if is_same u.group new then replied p (Setpgid t q) Fine sig else move (setpgid_entry p t q) bag sig p u old (within_session u new)

abbrev pub move_of : Bag → Signals → Pid → ℕ → ℤ → Pid → Option Vproc → Effect
move_of bag sig p t q new None = replied p (Setpgid t q) Fine sig
move_of bag sig p t q new (Some u) = move_from bag sig p t q u new (group_in bag u.group)

abbrev pub moved_by : Bag → Signals → Pid → Vproc → ℕ → ℤ → Effect
moved_by bag sig p v t (negsuc n) = replied p (Setpgid t (negsuc n)) Fine sig
moved_by bag sig p v t (pos q) = move_of bag sig p t (pos q) (wanted_group v t q) (target_in bag v (target_pid v t))

-- what setpgid does, on the bag in which the caller v is settled
abbrev pub setpgid_effect : Bag → Signals → Pid → Vproc → ℕ → ℤ → Effect
setpgid_effect bag sig p v t q = unless_refused (setpgid_refusal bag v t q) p (Setpgid t q) sig (moved_by bag sig p v t q)
