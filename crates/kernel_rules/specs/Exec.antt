-- exec (POSIX.1-2017, XSH exec): it is never refused, is answered with ok, and sends nothing
use Rattle.std.specs.Prelude.{List, map}
use Rattle.process_table.specs.Changes.{execed_at}
use Rattle.process_table.specs.declared.Row.{Row}

-- ---- the table after it
-- the caller has done exec, and its caught signals have the default action
abbrev pub table_after_exec : List Row → Row → List Row
table_after_exec rows r = map (execed_at r.pid) rows
