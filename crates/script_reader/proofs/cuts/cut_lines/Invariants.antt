use Rattle.std.proofs.Common.{◌≡◌, ◌≤◌, ◌-◌, ◌++◌, map, length, drop}
use Rattle.std.specs.List.{sum_by}
use Rattle.byte_ends.specs.Text.{lines}
use Rattle.script_reader.specs.MethodCuts.{cut_row, cut_rows}
use Rattle.script_reader.proofs.cuts.cut_lines.Given as goal

abbrev pub invariant-loop-from : goal.invariant-loop-from
invariant-loop-from l = record {
  within : l.at ≤ length l.text;
  few : length l.lines.items ≤ l.at;
  shared : sum_by (λ line. line.word_count) l.lines.items ≡ length l.words.items;
  lines : cut_rows l.words.items 0 l.lines.items ++ map cut_row (lines (drop l.at l.text)) ≡ map cut_row (lines l.text);
}

abbrev pub decreases-loop-from : goal.decreases-loop-from
decreases-loop-from l = length l.text - l.at
