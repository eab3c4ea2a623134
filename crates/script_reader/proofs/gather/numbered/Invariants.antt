use Rattle.std.proofs.Common.{◌≡◌, map, drop, []}
use Rattle.script_reader.specs.Files.{numbered}
use Rattle.script_reader.proofs.gather.numbered.Given as goal

abbrev pub invariant-loop-n : goal.invariant-loop-n
invariant-loop-n l = numbered l.numbers l.n (map (λ w. w.now) (drop l.n l.words)) ≡ numbered [] 0 (map (λ w. w.now) l.words)
