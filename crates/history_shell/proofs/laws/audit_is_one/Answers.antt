use Rattle.std.proofs.Common.{codes}
use Rattle.history_shell.proofs.Single.{one_hearing}
use Rattle.history_shell.proofs.laws.audit_is_one.Goals as goal

pub returns : goal.returns
returns c = one_hearing (λ world entries. codes "legal\n")
