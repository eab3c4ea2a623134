-- who may signal whom (POSIX.1-2017, XSH kill)
use Rattle.std.specs.Prelude.{◌==◌, ◌&&◌, ◌||◌, Bool, ℕ}
use Rattle.unix_names.specs.Signals.{number_of}
use Rattle.unix_names.specs.declared.Signal.TheVariants.{Cont}
use Rattle.process_table.specs.Rows.{in_session}
use Rattle.process_table.specs.declared.Row.{Row}

-- the caller is the superuser, or of one user with the receiver, or sends a continue signal within its session
abbrev pub may : Row → Row → ℕ → Bool
may caller receiver s = (caller.uid == 0) || ((caller.uid == receiver.uid) || ((s == number_of Cont) && in_session caller.session receiver))
