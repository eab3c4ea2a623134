use Rattle.std.specs.Prelude.{Bool, true, false}
use Rattle.unix_names.specs.declared.states.Life.{Life}
use Rattle.unix_names.specs.declared.states.Life.TheVariants.{Runs, Stopped, Ended}

-- a process is living until it ends, also while it is stopped
abbrev pub is_living : Life → Bool
is_living Runs = true
is_living Stopped = true
is_living (Ended _) = false
