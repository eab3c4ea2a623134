use Rattle.unix_names.specs.Sets.{added}
use Rattle.unix_names.proofs.SetLaws.{shl_number, IsSignals-added}
use Rattle.unix_names.proofs.sets.SigSet.with.Goals as goal

pub invariant_of-result : goal.invariant_of-result
invariant_of-result c = rw (c.number_of.ensures, shl_number c.args.s) (IsSignals-added _ _ c.self.invariant)

pub returns : goal.returns
unfolding added
returns c = rw (c.number_of.ensures, shl_number c.args.s, ← c.self.view_is)
