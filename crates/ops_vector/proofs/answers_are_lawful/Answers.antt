use Rattle.ops_vector.proofs.Lawful.{unix_lawful}
use Rattle.ops_vector.proofs.answers_are_lawful.Goals as goal

pub returns : goal.returns
returns c = unix_lawful
