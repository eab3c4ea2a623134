use Rattle.job_world_laws.proofs.Read.{compiled_file, compiled_read, compiled_part}
use Rattle.job_world_laws.proofs.Writable.{compiled_short}
use Rattle.job_world_laws.proofs.compiled_is_read.Goals as goal

pub returns-clause-grammar : goal.returns-clause-grammar
returns-clause-grammar c = compiled_file

pub returns-clause-read : goal.returns-clause-read
returns-clause-read c = compiled_read

pub returns-clause-one : goal.returns-clause-one
returns-clause-one c = compiled_part

pub returns-clause-short : goal.returns-clause-short
returns-clause-short c = compiled_short
