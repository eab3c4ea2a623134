use Rattle.std.proofs.Common.{◌+◌, ◌-◌, ◌≤◌, length, drop}
use Rattle.byte_ends.specs.Text.{lines}
use Rattle.histories.proofs.HistoryLaws.{Quiet}
use Rattle.histories.proofs.reader.ends.Given as goal

abbrev pub invariant-loop-from : goal.invariant-loop-from
invariant-loop-from l = record {
  after : l.fn.from ≤ l.at;
  within : l.at ≤ length l.text;
  number : l.number + l.fn.from ≤ l.first + l.at;
  quiet : Quiet (lines (drop l.fn.from l.text)) (lines (drop l.at l.text)) l.first l.number;
}

abbrev pub decreases-loop-from : goal.decreases-loop-from
decreases-loop-from l = length l.text - l.at
