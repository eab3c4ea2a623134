use Rattle.std.proofs.Common.{◌≡◌, ◌-◌, ◌≤◌, length, drop}
use Rattle.std.specs.List.{list_any}
use Rattle.byte_ends.specs.Text.{lines}
use Rattle.job_files.specs.MethodReading.{says_something}
use Rattle.job_files.proofs.files.says_something.Given as goal

abbrev pub invariant-loop-from : goal.invariant-loop-from
invariant-loop-from l = record {
  within : l.at ≤ length l.text;
  rest : list_any says_something (lines (drop l.at l.text)) ≡ list_any says_something (lines l.text);
}

abbrev pub decreases-loop-from : goal.decreases-loop-from
decreases-loop-from l = length l.text - l.at
