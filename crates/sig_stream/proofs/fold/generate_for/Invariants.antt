use Rattle.std.proofs.Common.{◌≡◌, drop, length}
use Rattle.signal_state.specs.Sig.{generated_all}
use Rattle.sig_stream.specs.Streams.{signals_for}
use Rattle.sig_stream.proofs.fold.generate_for.Given as goal

abbrev pub invariant-loop-rest : goal.invariant-loop-rest
invariant-loop-rest l = generated_all l.sig (drop l.left (signals_for l.fn.p l.fn.uid l.rest)) ≡ generated_all l.fn.start (drop l.fn.passed (signals_for l.fn.p l.fn.uid l.fn.entries))

abbrev pub decreases-loop-rest : goal.decreases-loop-rest
decreases-loop-rest l = length l.rest

abbrev pub invariant-loop-e : goal.invariant-loop-e
invariant-loop-e l = generated_all l.sig (drop l.left (signals_for l.fn.p l.fn.uid (drop l.e-index l.e-items))) ≡ generated_all l.fn.start (drop l.fn.passed (signals_for l.fn.p l.fn.uid l.fn.entries))
