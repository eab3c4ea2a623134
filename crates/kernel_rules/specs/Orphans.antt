-- groups that a step leaves orphaned (POSIX.1-2017, XBD chapter 3, Orphaned Process Group)
use Rattle.std.specs.List.{list_any}
use Rattle.std.specs.Prelude.{◌&&◌, ◌∷◌, if◌then◌else◌, [], Bool, List, not}
use Rattle.unix_names.specs.declared.Pid.{Pid}
use Rattle.unix_names.specs.declared.Signal.{Signal}
use Rattle.unix_names.specs.declared.Signal.TheVariants.{Cont, Hup}
use Rattle.process_table.specs.Orphans.{is_orphaned, is_stopped_in}
use Rattle.process_table.specs.declared.Row.{Row}

-- a group that was not orphaned before, is orphaned now, and has a stopped member
abbrev pub is_newly_orphaned : List Row → List Row → Pid → Bool
is_newly_orphaned before now g = not (is_orphaned before g) && (is_orphaned now g && list_any (is_stopped_in g) now)

-- a hangup and then a continue for each living member of a group that this end leaves orphaned with a stopped member
abbrev pub sent_to_orphans : List Row → List Row → Row → List Signal
sent_to_orphans before now c = if is_newly_orphaned before now c.group then Hup ∷ Cont ∷ [] else []
