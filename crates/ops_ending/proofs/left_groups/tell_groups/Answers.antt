use Rattle.std.proofs.Common.{◌∙◌, ap}
use Rattle.ops_ending.specs.MethodEnding.{held_told_by, held_untold_by, partly}
use Rattle.ops_ending.proofs.EndCode.{told_and_untold}
use Rattle.ops_ending.proofs.Partly.{changed_more, changed_back}
use Rattle.ops_ending.proofs.left_groups.tell_groups.Goals as goal

pub loop-at-preserved : goal.loop-at-preserved
loop-at-preserved c = changed_more (held_told_by c.args.bag.now c.args.near.now c.args.end) c.args.groups.now c.loop-at.groups c.tell_at.new.groups c.loop-at.at c.loop-at.invariant c.in_default.ensures.ok

pub returns-in-Err-clause-err : goal.returns-in-Err-clause-err
returns-in-Err-clause-err c =
    c.untell_first.ensures ∙ ap (partly (held_untold_by c.args.bag.now c.args.near.now c.args.end) c.loop-at.at) (c.in-Err.ensures.err ∙ c.loop-at.invariant)
    ∙ changed_back (held_told_by c.args.bag.now c.args.near.now c.args.end) (held_untold_by c.args.bag.now c.args.near.now c.args.end) (told_and_untold c.args.bag.now c.args.near.now c.args.end) c.loop-at.at c.args.groups.now
