use Rattle.std.proofs.Common.{◌≡◌, ◌-◌, ◌≤◌, ◌++◌, length, drop, map}
use Rattle.byte_ends.specs.Text.{lines, words}
use Rattle.job_runs.specs.MethodNames.{names_in}
use Rattle.job_runs.proofs.names.job_names.Given as goal

abbrev pub invariant-loop-from : goal.invariant-loop-from
invariant-loop-from l = record {
  within : l.at ≤ length l.text;
  rest : map (λ w. w.now) l.names.items ++ names_in (map words (lines (drop l.at l.text))) ≡ names_in (map words (lines l.text));
}

abbrev pub decreases-loop-from : goal.decreases-loop-from
decreases-loop-from l = length l.text - l.at
