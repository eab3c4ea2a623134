use Rattle.std.proofs.Common.{◌≡◌, ◌++◌, drop}
use Rattle.kernel_model.specs.Legal.{IsLegalFrom}
use Rattle.audit_core.specs.Stamped.{stamped_from, stamped_entries}
use Rattle.audit_core.proofs.stamps.stamp.Given as goal

-- what is stamped, and what is still to be
abbrev pub invariant-loop-i : goal.invariant-loop-i
invariant-loop-i l = record {
  whole : l.stamped.items ++ stamped_from l.kernel (drop l.i l.entries) (drop l.i l.places) ≡ stamped_entries l.world l.entries l.places;
  legal : IsLegalFrom l.kernel (drop l.i l.entries);
}
