use Rattle.std.proofs.Common.{refl}
use Rattle.group_record.proofs.PlaceLaws.{lowered-next, lowered-four}
use Rattle.group_record.proofs.member.lower_each.Goals as goal

pub loop-at-preserved : goal.loop-at-preserved
loop-at-preserved c =
    lowered-four c.args.by c.args.members.now c.loop-at.at c.loop-at.members _ _ _ _ (record { pid = record { 0 = 0 }; from = 0; uid = 0 }) c.loop-at.invariant c.loop-at-test.true c.lower.ensures c.lower-in-loop-at.ensures c.lower-in-loop-at-2.ensures c.lower-in-loop-at-3.ensures

pub loop-at-2-preserved : goal.loop-at-2-preserved
loop-at-2-preserved c =
    lowered-next c.args.by c.args.members.now c.loop-at-2.at _ c.loop-at-2.members _ (record { pid = record { 0 = 0 }; from = 0; uid = 0 }) c.loop-at-2.invariant c.loop-at-2-test.true c.lower-in-loop-at-2-2.ensures refl
