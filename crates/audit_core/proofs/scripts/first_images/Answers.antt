use Rattle.std.proofs.Common.{◌∙◌, arith}
use Rattle.audit_core.proofs.Running.{running-start, running-all}
use Rattle.audit_core.proofs.scripts.first_images.Goals as goal

pub loop-k-preserved : goal.loop-k-preserved
loop-k-preserved c = record {
  running = c.in_ok-add.ensures.running ∙ running-start c.args.world.now c.loop-k.k c.in_ok-image.image _ (omega arith) c.in_ok-image.ensures.image c.loop-k.invariant.running;
  kept = c.in_ok-add.ensures.kept c.args.world.now c.loop-k.invariant.kept c.in_ok-image.ensures.fits;
}

pub returns-clause-running : goal.returns-clause-running
returns-clause-running c = running-all c.args.world.now c.loop-k.k _ c.loop-k-test.false c.loop-k.invariant.running
