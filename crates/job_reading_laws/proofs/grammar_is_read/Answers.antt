use Rattle.job_reading_laws.proofs.Read.{grammar_read}
use Rattle.job_reading_laws.proofs.grammar_is_read.Goals as goal

pub returns : goal.returns
returns c = grammar_read
