use Rattle.ops_ending.specs.MethodEnding.{held_untold_by}
use Rattle.ops_ending.proofs.Partly.{changed_more}
use Rattle.ops_ending.proofs.left_groups.untell_first.Goals as goal

pub loop-at-preserved : goal.loop-at-preserved
loop-at-preserved c = changed_more (held_untold_by c.args.bag.now c.args.near.now c.args.end) c.args.groups.now c.loop-at.groups c.untell_at.new.groups c.loop-at.at c.loop-at.invariant c.untell_at.ensures
