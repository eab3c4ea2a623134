-- The front of a legal history is legal.
use Rattle.std.proofs.Common.{ℕ, zero, suc, List, [], ◌∷◌, take}
use Rattle.unix_calls.specs.declared.Entry.{Entry}
use Rattle.process_table.specs.declared.Row.{Row}
use Rattle.kernel_model.specs.Step.{after}
use Rattle.kernel_model.specs.Legal.{IsLegalFrom}

pub legal_front : (rows : List Row) (entries : List Entry) (count : ℕ) → IsLegalFrom rows entries → IsLegalFrom rows (take count entries)
legal_front rows [] zero legal = tt
legal_front rows [] (suc count) legal = tt
legal_front rows (e ∷ es) zero legal = tt
legal_front rows (e ∷ es) (suc count) legal = (legal.0, legal_front (after rows e) es count legal.1)
