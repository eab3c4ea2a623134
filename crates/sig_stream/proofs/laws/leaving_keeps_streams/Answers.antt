use Rattle.sig_stream.proofs.StreamLaws.{joining_keeps, leaving_keeps}
use Rattle.sig_stream.proofs.laws.leaving_keeps_streams.Goals as goal

pub returns-clause-joining : goal.returns-clause-joining
returns-clause-joining c = joining_keeps

pub returns-clause-leaving : goal.returns-clause-leaving
returns-clause-leaving c = leaving_keeps
