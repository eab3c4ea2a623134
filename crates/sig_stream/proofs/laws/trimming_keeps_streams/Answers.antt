use Rattle.sig_stream.proofs.StreamLaws.{trimming_keeps}
use Rattle.sig_stream.proofs.laws.trimming_keeps_streams.Goals as goal

pub returns : goal.returns
returns c = trimming_keeps
