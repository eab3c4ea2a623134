use Rattle.std.proofs.Common.{rules}
use Rattle.kernel_tests.proofs.judgements.expect.Goals as goal

pub audit-requires-clause-valid : goal.audit-requires-clause-valid
audit-requires-clause-valid g c = c.is_valid.ensures.0 (search rules)
