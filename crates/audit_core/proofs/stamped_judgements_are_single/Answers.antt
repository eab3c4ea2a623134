use Rattle.audit_core.proofs.StampedHistories.{one_judgement_two}
use Rattle.audit_core.proofs.stamped_judgements_are_single.Goals as goal

pub returns : goal.returns
returns c = one_judgement_two
