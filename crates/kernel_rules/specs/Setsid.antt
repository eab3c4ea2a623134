-- setsid (POSIX.1-2017, XSH setsid): it is answered with the caller's pid, and sends nothing
use Rattle.std.specs.List.{list_any}
use Rattle.std.specs.Prelude.{if◌then◌else◌, List, None, Option, Some, map}
use Rattle.unix_names.specs.declared.Errno.{Errno}
use Rattle.unix_names.specs.declared.Errno.TheVariants.{EPERM}
use Rattle.unix_calls.specs.declared.Reply.{Reply}
use Rattle.unix_calls.specs.declared.Reply.TheVariants.{Number}
use Rattle.process_table.specs.Changes.{leading_at}
use Rattle.process_table.specs.Rows.{in_group}
use Rattle.process_table.specs.declared.Row.{Row}

-- ---- refusals
-- the caller's pid is the id of a group
abbrev pub setsid_refusal : List Row → Row → Option Errno
setsid_refusal rows r = if list_any (in_group r.pid) rows then Some EPERM else None

-- ---- the table after it
abbrev pub after_setsid : List Row → Row → Reply → List Row
after_setsid rows r (Number n) = map (leading_at r.pid) rows
after_setsid rows r _ = rows
