use Rattle.load_laws.proofs.Files.{made_part}
use Rattle.load_laws.proofs.made_is_one_part.Goals as goal

pub returns : goal.returns
returns c = made_part
