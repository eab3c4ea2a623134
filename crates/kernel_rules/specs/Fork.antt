-- fork (POSIX.1-2017, XSH fork): it sends nothing
use Rattle.std.specs.List.{list_any}
use Rattle.std.specs.Prelude.{◌==◌, ◌&&◌, ◌||◌, ◌∷◌, ◌++◌, if◌then◌else◌, [], Bool, List, None, Option, Some, false, nat_le, not, ℕ}
use Rattle.unix_names.specs.declared.Errno.{Errno}
use Rattle.unix_names.specs.declared.Errno.TheVariants.{EAGAIN}
use Rattle.unix_names.specs.declared.Life.TheVariants.{Runs}
use Rattle.unix_calls.specs.declared.Reply.{Reply}
use Rattle.unix_calls.specs.declared.Reply.TheVariants.{Number}
use Rattle.signal_state.specs.Sig.{child}
use Rattle.process_table.specs.Rows.{child_count, pid}
use Rattle.process_table.specs.declared.Row.{Row}
use Rattle.unix_names.specs.declared.limits.TheConstants.{MOST_CHILDREN, NO_PID}

-- ---- refusals
-- how many children a process has at most, ended ones counted
abbrev pub fork_refusal : List Row → Row → Option Errno
fork_refusal rows r = if nat_le MOST_CHILDREN (child_count rows r.pid) then Some EAGAIN else None

-- ---- replies: the child's pid is no active process's and no active group's
abbrev pub uses_number : ℕ → Row → Bool
uses_number n r = (r.pid.0 == n) || ((r.group.0 == n) || (r.session.0 == n))

abbrev pub is_fresh : List Row → ℕ → Bool
is_fresh rows n = nat_le 2 n && (not (n == NO_PID) && not (list_any (uses_number n) rows))

abbrev pub is_fresh_number : List Row → Reply → Bool
is_fresh_number rows (Number n) = is_fresh rows n
is_fresh_number rows _ = false

-- ---- the table after it
-- the child: of the caller's group, session and user, with its mask and actions, and nothing pending (POSIX.1-2017, XSH fork)
abbrev pub newborn : Row → ℕ → Row
newborn r n = record {
  pid = pid n;
  parent = r.pid;
  group = r.group;
  session = r.session;
  uid = r.uid;
  life = Runs;
  change = None;
  execed = false;
  sig = child r.sig;
}

abbrev pub after_fork : List Row → Row → Reply → List Row
after_fork rows r (Number n) = rows ++ newborn r n ∷ []
after_fork rows r _ = rows
