use Rattle.std.proofs.Common.{◌≡◌, take, map}
use Rattle.script_words.specs.Writing.{spaced}
use Rattle.histories.proofs.entries.joined.Given as goal

abbrev pub invariant-loop-word : goal.invariant-loop-word
invariant-loop-word l = l.bytes.items ≡ spaced (map (λ w. w.now) (take l.word-index l.words))
