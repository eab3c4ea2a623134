use Rattle.std.proofs.Common.{◌∙◌, length, get_or, sym, ap, arith}
use Rattle.job_plans.specs.declared.JobLine.TheVariants.{Run}
use Rattle.job_plans.specs.Plans.{first_from}
use Rattle.job_shell.proofs.Sizes.{first_more, few_started}
use Rattle.job_shell.proofs.stages.first_of.Goals as goal

pub loop-line-preserved : goal.loop-line-preserved
loop-line-preserved c =
    let jobs = c.args.file.now.jobs in
    let lines = c.as_slice-line-items.result.now in
    let size = ap length c.stages_started.ensures in
    record {
      value = rw size (first_more jobs c.loop-line.first c.args.job lines c.loop-line.line-index (Run 0) (first_from jobs 0 lines c.args.job) c.loop-line-test.true (sym c.starts.ensures ∙ c.if-starts.false) c.loop-line.invariant.value);
      few = omega (arith, size, few_started jobs (get_or lines c.loop-line.line-index (Run 0)) c.requires.jobs, c.loop-line.invariant.few);
    }
