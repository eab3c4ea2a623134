-- What `audit` writes.
use Rattle.std.specs.Prelude.{codes}
use Rattle.command_ends.specs.Ends.{Texts}
use Rattle.history_shell.specs.Hearing.{Hears}

-- the verdict on a history, or what is said of the least fault of the world and the schedule
abbrev pub Audits : Texts
Audits = Hears (λ world entries. codes "legal\n")
