use Rattle.load_laws.proofs.Files.{made_valid}
use Rattle.load_laws.proofs.made_is_valid.Goals as goal

pub returns : goal.returns
returns c = made_valid
