-- processes that live no more
use Rattle.std.specs.Prelude.{◌≡◌, false, Option, None, Some}
use Rattle.unix_names.specs.States.{is_living}
use Rattle.process_table.specs.declared.Row.{Row}

-- there is no row, or that of a process that has ended
abbrev pub IsOver : Option Row → Type 0
IsOver None = Unit {0}
IsOver (Some r) = is_living r.life ≡ false
