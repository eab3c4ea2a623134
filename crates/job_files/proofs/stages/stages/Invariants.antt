use Rattle.std.proofs.Common.{◌≡◌, map, drop}
use Rattle.job_files.specs.MethodReading.{stages}
use Rattle.job_files.proofs.Readings.{behind}
use Rattle.job_files.proofs.stages.stages.Given as goal

abbrev pub invariant-loop-word : goal.invariant-loop-word
invariant-loop-word l = behind l.stages (stages l.nodes (map (λ w. w.now) (drop l.word-index l.words))) ≡ stages l.nodes (map (λ w. w.now) l.words)
