use Rattle.unix_names.specs.Sets.{removed}
use Rattle.unix_names.proofs.SetLaws.{shl_number, IsSignals-and}
use Rattle.unix_names.proofs.sets.SigSet.without.Goals as goal

pub invariant_of-result : goal.invariant_of-result
invariant_of-result c = IsSignals-and _ _ c.self.invariant

pub returns : goal.returns
unfolding removed
returns c = rw (c.number_of.ensures, shl_number c.args.s, ← c.self.view_is)
