use Rattle.std.proofs.Common.{◌≡◌, ◌+◌, ◌++◌, drop}
use Rattle.std.specs.String.{string_bytes}
use Rattle.script_words.specs.Writing.{spaced}
use Rattle.job_runs.specs.Jobs.{ends_from}
use Rattle.job_runs.proofs.texts.ends_text.Given as goal

abbrev pub invariant-loop-k : goal.invariant-loop-k
invariant-loop-k l = string_bytes l.text ++ spaced (ends_from l.history (l.first + l.k) (drop l.k l.stages)) ≡ spaced (ends_from l.history l.first l.stages)
