use Rattle.std.proofs.Common.{◌≡◌, ◌++◌, take, drop, length}
use Rattle.std.specs.Prelude.{map, Some}
use Rattle.process_table.specs.Changes.{receives}
use Rattle.kernel_rules.specs.Kill.{sent_by_kill}
use Rattle.kernel_rules.proofs.kill.signal_targets.Given as goal

abbrev pub invariant-loop-at : goal.invariant-loop-at
invariant-loop-at l = record {
  rows : l.table ≡ map (receives (sent_by_kill l.caller l.target l.number (Some l.signal))) (take l.at l.fn.table) ++ drop l.at l.fn.table;
  len : length l.table ≡ length l.fn.table;
}
