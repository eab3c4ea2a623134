use Rattle.load_laws.proofs.Short.{made_short}
use Rattle.load_laws.proofs.made_is_short.Goals as goal

pub returns : goal.returns
returns c = made_short
