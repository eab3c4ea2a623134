use Rattle.audit_core.proofs.Judgements.{one_judgement}
use Rattle.audit_core.proofs.judgements_are_single.Goals as goal

pub returns : goal.returns
returns c = one_judgement
