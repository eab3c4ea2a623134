-- exit (POSIX.1-2017, XSH _Exit): it is never refused, and has no reply
use Rattle.std.specs.Prelude.{◌%◌, List, ℕ}
use Rattle.unix_names.specs.declared.Signal.{Signal}
use Rattle.unix_names.specs.declared.WaitStatus.{WaitStatus}
use Rattle.unix_names.specs.declared.WaitStatus.TheVariants as status
use Rattle.process_table.specs.declared.Row.{Row}
use Rattle.kernel_rules.specs.Ending.{after_end, sent_by_end}

-- the low eight bits of the number
abbrev pub exit_status : ℕ → WaitStatus
exit_status n = status.Exited (n % 256)

-- ---- the table after it
-- the caller has ended
abbrev pub after_exit : List Row → Row → ℕ → List Row
after_exit rows r n = after_end rows r (exit_status n)

-- ---- what it sends
abbrev pub sent_by_exit : List Row → Row → ℕ → Row → List Signal
sent_by_exit rows r n = sent_by_end rows r (exit_status n)
