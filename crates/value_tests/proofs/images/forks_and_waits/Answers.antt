use Rattle.std.proofs.Common.{rules}
use Rattle.value_tests.proofs.images.forks_and_waits.Goals as goal

pub start-requires-clause-valid : goal.start-requires-clause-valid
start-requires-clause-valid g c = c.is_valid.ensures.0 (search rules)

pub child-requires-clause-valid : goal.child-requires-clause-valid
child-requires-clause-valid g c = c.is_valid.ensures.0 (search rules)

pub after-requires-clause-valid : goal.after-requires-clause-valid
after-requires-clause-valid g c = c.is_valid.ensures.0 (search rules)

pub after-requires-2-clause-valid : goal.after-requires-2-clause-valid
after-requires-2-clause-valid g c = c.is_valid.ensures.0 (search rules)

pub after-requires-3-clause-valid : goal.after-requires-3-clause-valid
after-requires-3-clause-valid g c = c.is_valid.ensures.0 (search rules)
