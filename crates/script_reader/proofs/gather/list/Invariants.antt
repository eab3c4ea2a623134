use Rattle.std.proofs.Common.{◌≡◌, map, drop}
use Rattle.script_reader.specs.Files.{listed}
use Rattle.script_reader.proofs.gather.list.Given as goal

abbrev pub invariant-loop-word : goal.invariant-loop-word
invariant-loop-word l = listed l.numbers (map (λ w. w.now) (drop l.word-index l.words)) ≡ listed l.fn.numbers (map (λ w. w.now) l.words)
