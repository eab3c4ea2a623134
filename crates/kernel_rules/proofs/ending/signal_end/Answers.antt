use Rattle.std.proofs.Common.{◌<◌, arith, ap, length}
use Rattle.process_table.specs.Changes.{receives}
use Rattle.kernel_rules.specs.MethodEnding.{sent_with}
use Rattle.kernel_rules.proofs.ReachLaws.{over_more, length_more}
use Rattle.kernel_rules.proofs.ending.signal_end.Goals as goal

pub loop-at-preserved : goal.loop-at-preserved
loop-at-preserved c =
    let within : c.loop-at.at < length c.args.table.now = omega (arith, ap length c.rows-at-end.ensures) in
    record {
      rows = over_more (receives (sent_with c.args.ended.now c.args.groups.now)) c.args.table.now c.loop-at.table c.reach.new.table c.loop-at.at within c.loop-at.invariant.len c.loop-at.invariant.rows c.reach.ensures;
      len = length_more (receives (sent_with c.args.ended.now c.args.groups.now)) c.args.table.now c.loop-at.table c.reach.new.table c.loop-at.at within c.loop-at.invariant.len c.reach.ensures;
    }
