use Rattle.script_laws.proofs.Parts.{read_valid}
use Rattle.script_laws.proofs.read_is_valid.Goals as goal

pub returns : goal.returns
returns c = read_valid
