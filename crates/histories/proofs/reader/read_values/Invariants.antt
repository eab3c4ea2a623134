use Rattle.std.proofs.Common.{◌+◌, ◌-◌, ◌≤◌, length, drop}
use Rattle.byte_ends.specs.Text.{lines}
use Rattle.histories.proofs.HistoryLaws.{Reached}
use Rattle.histories.proofs.reader.read_values.Given as goal

abbrev pub invariant-loop-from : goal.invariant-loop-from
invariant-loop-from g l = record {
  after : l.fn.from ≤ l.at;
  within : l.at ≤ length l.text;
  number : l.number + l.fn.from ≤ l.first + l.at;
  reached : Reached g.M.Meaning.means (lines (drop l.fn.from l.text)) (lines (drop l.at l.text)) l.first l.number l.values.items;
}

abbrev pub decreases-loop-from : goal.decreases-loop-from
decreases-loop-from g l = length l.text - l.at
