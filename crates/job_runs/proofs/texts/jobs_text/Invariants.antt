use Rattle.std.proofs.Common.{◌≡◌, map, take}
use Rattle.std.specs.List.{flat_map}
use Rattle.job_runs.specs.Jobs.{line_text}
use Rattle.job_runs.proofs.texts.jobs_text.Given as goal

abbrev pub invariant-loop-line : goal.invariant-loop-line
invariant-loop-line l = l.text.items ≡ flat_map (line_text (map (λ w. w.now) l.names) l.file l.history) (take l.line-index l.line-items)
