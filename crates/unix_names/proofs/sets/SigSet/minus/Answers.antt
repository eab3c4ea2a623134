use Rattle.std.proofs.Common.{arith}
use Rattle.unix_names.specs.Sets.{minus}
use Rattle.unix_names.proofs.SetLaws.{and_not, IsSignals-and}
use Rattle.unix_names.proofs.sets.SigSet.minus.Goals as goal

pub invariant_of-result : goal.invariant_of-result
invariant_of-result c = IsSignals-and _ _ c.self.invariant

pub returns : goal.returns
unfolding minus
returns c = rw (← c.self.view_is, ← c.other.view_is) (and_not c.self.inside.0 c.other.inside.0 (omega arith) (omega arith))
