use Rattle.kernel_laws.proofs.OrphanedGroups.{orphaned}
use Rattle.kernel_laws.proofs.orphaned_stays.Goals as goal

pub returns : goal.returns
returns c = orphaned
