use Rattle.std.proofs.Common.{◌++◌, map}
use Rattle.job_plans.specs.Acts.{statement_of}
use Rattle.job_plans.specs.Plans.{joined}
use Rattle.job_shell.proofs.Sizes.{joins_more}
use Rattle.job_shell.proofs.acts.put_joins.Goals as goal

pub loop-k-preserved : goal.loop-k-preserved
loop-k-preserved c =
    let first = c.args.first in
    let stages = c.args.stages.now in
    rw c.in_ok-push.ensures.ok
    (rw c.join.ensures
    (joins_more c.loop-k.script first c.loop-k.k stages (record { status = 0; node = record { 0 = 0 } }) (c.args.script.now ++ map statement_of (joined first first stages)) c.loop-k-test.true c.loop-k.invariant))
