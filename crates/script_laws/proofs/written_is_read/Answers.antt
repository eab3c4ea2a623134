use Rattle.script_laws.proofs.Back.{written_read}
use Rattle.script_laws.proofs.written_is_read.Goals as goal

pub returns : goal.returns
returns c = written_read
