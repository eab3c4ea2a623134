use Rattle.std.proofs.Common.{◌∙◌, ap, None, Some, refl}
use Rattle.record_bag.specs.Bags.{vproc_in}
use Rattle.decide_law.specs.Counts.{passes, is_outside}
use Rattle.ops_ending.specs.MethodEnding.{left_by, later_by}
use Rattle.ops_ending.proofs.LaterRecords.{told_later}
use Rattle.ops_ending.proofs.later.has_outside_parent.Goals as goal

pub returns-in-None : goal.returns-in-None
returns-in-None c = told_later c.args.bag.now c.args.end _ (is_outside (left_by c.args.end c.args.v.now)) None _ c.in-None.ensures refl ∙ ap (λ q. passes (is_outside (left_by c.args.end c.args.v.now)) (vproc_in (later_by c.args.bag.now c.args.end) q)) c.later_parent.ensures

pub returns-in-Some : goal.returns-in-Some
returns-in-Some c = told_later c.args.bag.now c.args.end _ (is_outside (left_by c.args.end c.args.v.now)) (Some c.in-Some.parent.now) _ c.in-Some.ensures c.is_outside.ensures ∙ ap (λ q. passes (is_outside (left_by c.args.end c.args.v.now)) (vproc_in (later_by c.args.bag.now c.args.end) q)) c.later_parent.ensures
