use Rattle.std.proofs.Common.{◌≡◌, ◌++◌, take, drop, length}
use Rattle.std.specs.Prelude.{map}
use Rattle.process_table.specs.Changes.{receives}
use Rattle.kernel_rules.specs.MethodEnding.{sent_with}
use Rattle.kernel_rules.proofs.ending.signal_end.Given as goal

abbrev pub invariant-loop-at : goal.invariant-loop-at
invariant-loop-at l = record {
  rows : l.table ≡ map (receives (sent_with l.ended l.groups)) (take l.at l.fn.table) ++ drop l.at l.fn.table;
  len : length l.table ≡ length l.fn.table;
}
