-- action (POSIX.1-2017, XSH sigaction): it is answered with ok, and sends nothing
use Rattle.std.specs.Prelude.{List, None, Option, Some, map}
use Rattle.unix_names.specs.declared.Act.{Act}
use Rattle.unix_names.specs.declared.Errno.{Errno}
use Rattle.unix_names.specs.declared.Errno.TheVariants.{EINVAL}
use Rattle.unix_names.specs.declared.Signal.{Signal}
use Rattle.unix_names.specs.declared.Signal.TheVariants.{Kill as KillSignal, Stop as StopSignal}
use Rattle.unix_calls.specs.declared.Reply.{Reply}
use Rattle.unix_calls.specs.declared.Reply.TheVariants.{Fine}
use Rattle.process_table.specs.Changes.{acting_at}
use Rattle.process_table.specs.declared.Row.{Row}

-- ---- refusals
-- the number is no signal's, or that of one whose action is fixed
abbrev pub action_refusal : Option Signal → Option Errno
action_refusal None = Some EINVAL
action_refusal (Some KillSignal) = Some EINVAL
action_refusal (Some StopSignal) = Some EINVAL
action_refusal (Some _) = None

-- ---- the table after it
-- the action is set (POSIX.1-2017, XSH sigaction)
abbrev pub after_action : List Row → Row → Option Signal → Act → Reply → List Row
after_action rows r (Some s) act Fine = map (acting_at r.pid s act) rows
after_action rows r _ act _ = rows
