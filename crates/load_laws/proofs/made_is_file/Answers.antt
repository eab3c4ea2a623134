use Rattle.load_laws.proofs.Files.{made_file}
use Rattle.load_laws.proofs.Meant.{made_read}
use Rattle.load_laws.proofs.made_is_file.Goals as goal

pub returns-clause-grammar : goal.returns-clause-grammar
returns-clause-grammar c = made_file

pub returns-clause-read : goal.returns-clause-read
returns-clause-read c = made_read
