use Rattle.std.proofs.Common.{◌≡◌, ◌++◌, take, drop}
use Rattle.std.specs.Prelude.{map}
use Rattle.process_table.specs.Changes.{given_up}
use Rattle.process_table.proofs.removal.give_up_every.Given as goal

abbrev pub invariant-loop-row : goal.invariant-loop-row
invariant-loop-row l = l.row-items ≡ map (given_up l.fn.pid) (take l.row-index l.initial.row-items) ++ drop l.row-index l.initial.row-items
