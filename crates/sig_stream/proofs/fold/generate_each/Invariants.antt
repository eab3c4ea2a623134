use Rattle.std.proofs.Common.{◌≡◌, drop}
use Rattle.signal_state.specs.Sig.{generated_all}
use Rattle.sig_stream.proofs.fold.generate_each.Given as goal

abbrev pub invariant-loop-s : goal.invariant-loop-s
invariant-loop-s l = generated_all l.sig (drop l.s-index l.signals) ≡ generated_all l.fn.start l.signals
