use Rattle.load_laws.proofs.Files.{made_works, made_work}
use Rattle.load_laws.proofs.made_work.Goals as goal

pub returns-clause-scripts : goal.returns-clause-scripts
returns-clause-scripts c = made_works

pub returns-clause-whole : goal.returns-clause-whole
returns-clause-whole c = made_work
