use Rattle.ops_ending.specs.Ending.{ended_vproc}
use Rattle.ops_ending.proofs.Partly.{changed_more}
use Rattle.ops_ending.proofs.left_vprocs.leave_vprocs.Goals as goal

pub loop-at-preserved : goal.loop-at-preserved
loop-at-preserved c = changed_more (ended_vproc c.args.end.pid c.args.end.vanishes c.args.end.status) c.args.vprocs.now c.loop-at.vprocs c.leave_at.new.vprocs c.loop-at.at c.loop-at.invariant c.leave_at.ensures
