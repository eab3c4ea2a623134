use Rattle.std.proofs.Common.{None}
use Rattle.ops_ending.specs.Ending.{ended_vproc}
use Rattle.ops_ending.proofs.Partly.{changed_and_put}
use Rattle.ops_ending.proofs.left_vprocs.leave_at.Goals as goal

pub returns : goal.returns
returns c = changed_and_put (ended_vproc c.args.end.pid c.args.end.vanishes c.args.end.status) c.args.at c.args.vprocs.now c.replace_at-held.new.self c.replace_at.new.self c.replace_at-held.result None _ c.left_of.result c.replace_at-held.ensures c.replace_at.ensures c.left_of.ensures
