use Rattle.std.proofs.Common.{◌≡◌, ◌+◌, ◌-◌, ◌≤◌, length, drop}
use Rattle.byte_ends.specs.Text.{lines}
use Rattle.job_files.specs.MethodReading.{first_draft, read_from}
use Rattle.job_files.specs.MethodBounds.{IsBounded}
use Rattle.job_files.proofs.files.read_said.Given as goal

abbrev pub invariant-loop-from : goal.invariant-loop-from
invariant-loop-from l = record {
  within : l.at ≤ length l.text;
  low : l.number ≤ 1 + l.at;
  bounded : IsBounded l.draft;
  short : length l.draft.lines ≤ l.at;
  rest : read_from l.draft l.number (lines (drop l.at l.text)) ≡ read_from first_draft 1 (lines l.text);
}

abbrev pub decreases-loop-from : goal.decreases-loop-from
decreases-loop-from l = length l.text - l.at
