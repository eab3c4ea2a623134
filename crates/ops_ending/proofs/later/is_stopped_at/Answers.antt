use Rattle.std.proofs.Common.{None, Some, refl}
use Rattle.decide_law.specs.Counts.{is_stopped_to}
use Rattle.ops_ending.proofs.LaterRecords.{told_later}
use Rattle.ops_ending.proofs.later.is_stopped_at.Goals as goal

pub returns-in-None : goal.returns-in-None
returns-in-None c = told_later c.args.bag.now c.args.end c.args.q (is_stopped_to c.args.id) None _ c.in-None.ensures refl

pub returns-in-Some : goal.returns-in-Some
returns-in-Some c = told_later c.args.bag.now c.args.end c.args.q (is_stopped_to c.args.id) (Some c.in-Some.v.now) _ c.in-Some.ensures c.is_stopped_to.ensures
