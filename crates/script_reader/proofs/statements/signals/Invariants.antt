use Rattle.std.proofs.Common.{◌≡◌, map, drop}
use Rattle.script_reader.specs.Statements.{signals}
use Rattle.script_reader.proofs.statements.signals.Given as goal

abbrev pub invariant-loop-word : goal.invariant-loop-word
invariant-loop-word l = signals l.set (map (λ w. w.now) (drop l.word-index l.words)) ≡ signals 0 (map (λ w. w.now) l.words)
