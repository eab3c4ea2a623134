use Rattle.script_laws.proofs.Whole.{file_read}
use Rattle.script_laws.proofs.Exact.{read_is_file}
use Rattle.script_laws.proofs.grammar_is_read.Goals as goal

pub returns : goal.returns
returns c = record { read = file_read; spelled = read_is_file }
