use Rattle.std.proofs.Common.{◌≡◌, ◌++◌, take, drop}
use Rattle.std.specs.Prelude.{map}
use Rattle.process_table.specs.Changes.{changed_at}
use Rattle.process_table.proofs.changes.change_every.Given as goal

abbrev pub invariant-loop-row : goal.invariant-loop-row
invariant-loop-row l = l.row-items ≡ map (changed_at l.fn.pid l.fn.change) (take l.row-index l.initial.row-items) ++ drop l.row-index l.initial.row-items
