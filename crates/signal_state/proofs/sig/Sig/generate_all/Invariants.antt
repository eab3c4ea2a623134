use Rattle.std.proofs.Common.{◌≡◌, take}
use Rattle.signal_state.specs.Sig.{generated_all}
use Rattle.signal_state.proofs.sig.Sig.generate_all.Given as goal

abbrev pub invariant-loop-s : goal.invariant-loop-s
invariant-loop-s l = l.self ≡ generated_all l.fn.self (take l.s-index l.signals)
