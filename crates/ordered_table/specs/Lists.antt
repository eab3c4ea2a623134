-- lists of process ids by process id: the members of each group, the children of each process
use Rattle.std.specs.Prelude.{List, [], ◌∷◌, ◌++◌, unwrap_or}
use Rattle.unix_names.specs.declared.Pid.{Pid}
use Rattle.ordered_table.specs.declared.entries.Entry.{Entry}
use Rattle.ordered_table.specs.Entries.{value_at, with_value}

abbrev pub Lists : Type 0
Lists = List (Entry (List Pid))

-- the list of an id; one that has none has the empty list
abbrev pub members_of : Lists → Pid → List Pid
members_of lists p = unwrap_or (value_at lists p) []

-- a process joins the list of an id, at its end
abbrev pub joined : Pid → Pid → Lists → Lists
joined p q lists = with_value lists p (members_of lists p ++ q ∷ [])
