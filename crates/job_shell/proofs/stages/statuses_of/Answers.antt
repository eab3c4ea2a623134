use Rattle.std.proofs.Common.{◌∙◌, get_or, sym, ap}
use Rattle.job_plans.specs.Plans.{with_status}
use Rattle.job_shell.proofs.Sizes.{statuses_more}
use Rattle.job_shell.proofs.stages.statuses_of.Goals as goal

pub loop-stage-preserved : goal.loop-stage-preserved
loop-stage-preserved c = c.in_ok-note.ensures ∙ ap (λ statuses. with_status statuses (get_or c.args.stages.now c.loop-stage.stage-index (record { status = 0; node = record { 0 = 0 } }))) c.loop-stage.invariant ∙ sym (statuses_more c.args.stages.now c.loop-stage.stage-index (record { status = 0; node = record { 0 = 0 } }) c.loop-stage-test.true)
