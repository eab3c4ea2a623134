use Rattle.std.proofs.Common.{◌++◌, map, refl}
use Rattle.job_plans.specs.Acts.{statement_of}
use Rattle.job_plans.specs.Plans.{reaped}
use Rattle.job_shell.proofs.Sizes.{reaps_more}
use Rattle.job_shell.proofs.acts.put_reaps.Goals as goal

pub loop-k-preserved : goal.loop-k-preserved
loop-k-preserved c =
    let first = c.args.first in
    let stages = c.args.stages.now in
    rw c.in_ok-push.ensures.ok
    (rw (c.wait.ensures.ends refl)
    (reaps_more c.loop-k.script first c.loop-k.k stages (record { status = 0; node = record { 0 = 0 } }) (c.args.script.now ++ map statement_of (reaped first stages)) c.loop-k-test.true c.loop-k.invariant))
