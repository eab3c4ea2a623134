-- histories that grow by a turn's line
use Rattle.std.specs.Prelude.{List, [], ◌∷◌, ◌++◌, Option, None, Some}
use Rattle.unix_calls.specs.declared.Entry.{Entry}

-- the history with the line that a turn adds, if it adds one
abbrev pub with_entry : List Entry → Option Entry → List Entry
with_entry history None = history
with_entry history (Some entry) = history ++ entry ∷ []
