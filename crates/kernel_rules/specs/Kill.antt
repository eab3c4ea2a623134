-- kill (POSIX.1-2017, XSH kill)
use Rattle.std.specs.List.{list_any}
use Rattle.std.specs.Prelude.{◌==◌, ◌&&◌, ◌||◌, ◌∷◌, if◌then◌else◌, [], Bool, List, None, Option, Some, false, is_some, not, ℕ}
use Rattle.unix_names.specs.Signals.{signal_of}
use Rattle.unix_names.specs.declared.Errno.{Errno}
use Rattle.unix_names.specs.declared.Errno.TheVariants.{EINVAL, EPERM, ESRCH}
use Rattle.unix_names.specs.declared.Signal.{Signal}
use Rattle.unix_calls.specs.declared.Reply.{Reply}
use Rattle.unix_calls.specs.declared.Reply.TheVariants.{Fine}
use Rattle.unix_calls.specs.declared.Target.{Target}
use Rattle.unix_calls.specs.declared.Target.TheVariants.{InGroup, One, OwnGroup}
use Rattle.process_table.specs.Changes.{received, sent_nothing}
use Rattle.process_table.specs.Rows.{in_group, is_pid}
use Rattle.process_table.specs.declared.Row.{Row}
use Rattle.kernel_rules.specs.Permission.{may}

-- ---- refusals
-- the number is 0, which sends nothing, or a signal's
abbrev pub is_sendable : ℕ → Bool
is_sendable s = (s == 0) || is_some (signal_of s)

-- the target names this row, ended or not
abbrev pub is_named : Row → Target → Row → Bool
is_named r OwnGroup c = in_group r.group c
is_named r (One p) c = is_pid p c
is_named r (InGroup g) c = in_group g c

-- a row that the target names and that the caller may signal
abbrev pub is_permitted : Row → Target → ℕ → Row → Bool
is_permitted r target s c = is_named r target c && may r c s

-- the target names no row; the caller's own group has the caller
abbrev pub is_nobody : List Row → Row → Target → Bool
is_nobody rows r OwnGroup = false
is_nobody rows r (One p) = not (list_any (is_named r (One p)) rows)
is_nobody rows r (InGroup g) = not (list_any (is_named r (InGroup g)) rows)

abbrev pub is_system : Target → Bool
is_system (One p) = p.0 == 1
is_system OwnGroup = false
is_system (InGroup _) = false

-- the target names rows, and the caller may signal none of them
abbrev pub is_forbidden : List Row → Row → Target → ℕ → Bool
is_forbidden rows r target s = list_any (is_named r target) rows && not (list_any (is_permitted r target s) rows)

abbrev pub kill_refusal : List Row → Row → Target → ℕ → Option Errno
kill_refusal rows r target s =
    if not (is_sendable s) then Some EINVAL
    else (if is_system target then Some EPERM
    else (if is_nobody rows r target then Some ESRCH
    else (if is_forbidden rows r target s then Some EPERM
    else None)))

-- ---- what it sends
-- a kill signals each row that its target names and that the caller may signal; 0 signals none
abbrev pub sent_by_kill : Row → Target → ℕ → Option Signal → Row → List Signal
sent_by_kill r target s None c = []
sent_by_kill r target s (Some signal) c = if is_permitted r target s c then signal ∷ [] else []

abbrev pub sent_by_kill_call : Row → Target → ℕ → Reply → Row → List Signal
sent_by_kill_call r target s Fine = sent_by_kill r target s (signal_of s)
sent_by_kill_call r target s _ = sent_nothing

-- ---- the table after it
abbrev pub after_kill : List Row → Row → Target → ℕ → Reply → List Row
after_kill rows r target s Fine = received (sent_by_kill r target s (signal_of s)) rows
after_kill rows r target s _ = rows
