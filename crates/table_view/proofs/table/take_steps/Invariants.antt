use Rattle.std.proofs.Common.{◌≡◌, drop}
use Rattle.kernel_model.specs.Legal.{after_entries, IsLegalFrom}
use Rattle.table_view.proofs.table.take_steps.Given as goal

-- what is still to come leads to the same table, and is legal
abbrev pub invariant-loop-entry : goal.invariant-loop-entry
invariant-loop-entry l = record {
  table : after_entries l.kernel (drop l.entry-index l.entries) ≡ after_entries l.initial.kernel l.entries;
  legal : IsLegalFrom l.kernel (drop l.entry-index l.entries);
}
