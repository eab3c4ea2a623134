use Rattle.std.proofs.Common.{◌≡◌, drop, map, fold}
use Rattle.unix_names.specs.Signals.{signal_named}
use Rattle.histories.specs.MethodLoose.{with_named}
use Rattle.histories.proofs.loose.set_in.Given as goal

abbrev pub invariant-loop-word : goal.invariant-loop-word
invariant-loop-word l = fold (λ set word. with_named set (signal_named word)) l.set (map (λ w. w.now) (drop l.word-index l.words)) ≡ fold (λ set word. with_named set (signal_named word)) 0 (map (λ w. w.now) l.words)
