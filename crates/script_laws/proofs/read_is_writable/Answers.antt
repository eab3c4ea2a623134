use Rattle.script_laws.proofs.Numbered.{read_writable}
use Rattle.script_laws.proofs.read_is_writable.Goals as goal

pub returns : goal.returns
returns c = read_writable
