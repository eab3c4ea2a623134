use Rattle.std.proofs.Common.{◌≡◌, ◌++◌, take}
use Rattle.sig_stream.specs.Streams.{signals_for}
use Rattle.ops_groups.proofs.joining.take_part.Given as goal

abbrev pub invariant-loop-e : goal.invariant-loop-e
invariant-loop-e l = l.backlog ≡ l.initial.backlog ++ signals_for l.fn.p l.fn.uid (take l.e-index l.entries)
