use Rattle.fault_laws.proofs.Least.{spells_or_fails}
use Rattle.fault_laws.proofs.part_spells_or_fails.Goals as goal

pub returns : goal.returns
returns c = spells_or_fails
