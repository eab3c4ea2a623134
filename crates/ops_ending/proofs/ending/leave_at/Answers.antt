use Rattle.std.proofs.Common.{◌∙◌}
use Rattle.ops_ending.proofs.EndCode.{left_ok}
use Rattle.ops_ending.proofs.ending.leave_at.Goals as goal

pub returns-clause-ok : goal.returns-clause-ok
returns-clause-ok c = λ v here.
    left_ok c.args.bag.now c.leave.new.bag v c.args.status c.as_slice.result.now c.in_ok-around.around.end c.leave.result (c.in_ok-around.ensures.end v here) (c.as_slice.ensures ∙ c.in_ok-around.ensures.near v here) c.leave.ensures.nudges c.leave.ensures.vprocs c.leave.ensures.groups
