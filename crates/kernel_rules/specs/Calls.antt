-- every call: its first refusal, its replies, the table after it, and what it sends
use Rattle.std.specs.Prelude.{Bool, List, None, Option}
use Rattle.unix_names.specs.Signals.{signal_of}
use Rattle.unix_names.specs.declared.Errno.{Errno}
use Rattle.unix_names.specs.declared.Signal.{Signal}
use Rattle.unix_calls.specs.Calls.{selector_of, target_of}
use Rattle.unix_calls.specs.declared.Call.{Call}
use Rattle.unix_calls.specs.declared.Call.TheVariants.{Action, Exec, Exit, Fork, Getpgid, Getpid, Getppid, Getsid, Kill, Mask, Migrate, Pending, Setpgid, Setsid, Waitpid}
use Rattle.unix_calls.specs.declared.Reply.{Reply}
use Rattle.process_table.specs.Changes.{sent_nothing}
use Rattle.process_table.specs.Rows.{row_named}
use Rattle.process_table.specs.declared.Row.{Row}
use Rattle.kernel_rules.specs.Action.{action_refusal, after_action}
use Rattle.kernel_rules.specs.Exec.{table_after_exec}
use Rattle.kernel_rules.specs.Exit.{after_exit, sent_by_exit}
use Rattle.kernel_rules.specs.Fork.{after_fork, fork_refusal, is_fresh_number}
use Rattle.kernel_rules.specs.Kill.{after_kill, kill_refusal, sent_by_kill_call}
use Rattle.kernel_rules.specs.Look.{is_group_of, is_own_number, is_parent_number, is_session_of, look_refusal}
use Rattle.kernel_rules.specs.Mask.{after_mask, is_old_mask, is_pending_set}
use Rattle.kernel_rules.specs.Replies.{is_fine, is_first, is_no_reply}
use Rattle.kernel_rules.specs.Setpgid.{after_setpgid, setpgid_refusal}
use Rattle.kernel_rules.specs.Setsid.{after_setsid, setsid_refusal}
use Rattle.kernel_rules.specs.Wait.{after_wait, is_wait_answer, wait_refusal}

-- ---- refusals
abbrev pub refusal : List Row → Row → Call → Option Errno
refusal rows r Getpid = None
refusal rows r Getppid = None
refusal rows r (Getpgid t) = look_refusal rows r t
refusal rows r (Getsid t) = look_refusal rows r t
refusal rows r Fork = fork_refusal rows r
refusal rows r Exec = None
refusal rows r (Exit n) = None
refusal rows r (Waitpid sel stopped continued) = wait_refusal rows r (selector_of sel)
refusal rows r (Kill target s) = kill_refusal rows r (target_of target) s
refusal rows r (Setpgid t q) = setpgid_refusal rows r t q
refusal rows r Setsid = setsid_refusal rows r
refusal rows r (Action s act) = action_refusal (signal_of s)
refusal rows r (Mask set) = None
refusal rows r Pending = None
refusal rows r Migrate = None

-- ---- replies
-- the replies of a call that is not refused
abbrev pub is_answer : List Row → Row → Call → Reply → Bool
is_answer rows r Getpid reply = is_own_number r reply
is_answer rows r Getppid reply = is_parent_number r reply
is_answer rows r (Getpgid t) reply = is_group_of (row_named rows r t) reply
is_answer rows r (Getsid t) reply = is_session_of (row_named rows r t) reply
is_answer rows r Fork reply = is_fresh_number rows reply
is_answer rows r Exec reply = is_fine reply
is_answer rows r (Exit n) reply = is_no_reply reply
is_answer rows r (Waitpid sel stopped continued) reply = is_wait_answer rows r (selector_of sel) stopped continued reply
is_answer rows r (Kill target s) reply = is_fine reply
is_answer rows r (Setpgid t q) reply = is_fine reply
is_answer rows r Setsid reply = is_own_number r reply
is_answer rows r (Action s act) reply = is_fine reply
is_answer rows r (Mask set) reply = is_old_mask r reply
is_answer rows r Pending reply = is_pending_set r reply
is_answer rows r Migrate reply = is_fine reply

-- the reply is one that the call may get from this caller here
abbrev pub allows : List Row → Row → Call → Reply → Bool
allows rows r call reply = is_first (refusal rows r call) reply (is_answer rows r call reply)

-- ---- the table after it
abbrev pub after_call : List Row → Row → Call → Reply → List Row
after_call rows r Getpid reply = rows
after_call rows r Getppid reply = rows
after_call rows r (Getpgid t) reply = rows
after_call rows r (Getsid t) reply = rows
after_call rows r Fork reply = after_fork rows r reply
after_call rows r Exec reply = table_after_exec rows r
after_call rows r (Exit n) reply = after_exit rows r n
after_call rows r (Waitpid sel stopped continued) reply = after_wait rows reply
after_call rows r (Kill target s) reply = after_kill rows r (target_of target) s reply
after_call rows r (Setpgid t q) reply = after_setpgid rows r t q reply
after_call rows r Setsid reply = after_setsid rows r reply
after_call rows r (Action s act) reply = after_action rows r (signal_of s) act reply
after_call rows r (Mask set) reply = after_mask rows r set
after_call rows r Pending reply = rows
after_call rows r Migrate reply = rows

-- ---- what it sends
abbrev pub sent_by_call : List Row → Row → Call → Reply → Row → List Signal
sent_by_call rows r (Exit n) reply = sent_by_exit rows r n
sent_by_call rows r (Kill target s) reply = sent_by_kill_call r (target_of target) s reply
sent_by_call rows r _ reply = sent_nothing
