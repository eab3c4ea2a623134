use Rattle.migrate_core.proofs.Whole.{moves_answered}
use Rattle.migrate_core.proofs.moves_are_lawful.Goals as goal

pub returns : goal.returns
returns c = moves_answered
