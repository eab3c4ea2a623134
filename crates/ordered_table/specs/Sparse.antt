-- values by process id, where an entry may have none
use Rattle.std.specs.Prelude.{List, [], ◌∷◌, Option, Some, None}
use Rattle.unix_names.specs.declared.Pid.{Pid}
use Rattle.ordered_table.specs.declared.entries.Entry.{Entry}

-- the entries with this one in front, if it has a value
abbrev pub with_present : {T : Type 0} → Pid → Option T → List (Entry T) → List (Entry T)
with_present p None es = es
with_present p (Some v) es = (record { pid = p; value = v }) ∷ es

-- the entries that have a value, in order
abbrev pub present : {T : Type 0} → List (Entry (Option T)) → List (Entry T)
present [] = []
present (e ∷ es) = with_present e.pid e.value (present es)
