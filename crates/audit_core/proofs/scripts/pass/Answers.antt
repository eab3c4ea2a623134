use Rattle.std.proofs.Common.{Some, ◌∙◌, ap, subst}
use Rattle.proc_image.specs.Images.{IsFit}
use Rattle.audit_core.proofs.Running.{running-passed, kept-passed}
use Rattle.audit_core.proofs.scripts.pass.Goals as goal

pub returns-clause-running : goal.returns-clause-running
returns-clause-running c = λ at far. running-passed c.args.world.now c.args.images.now c.replace-image.new.self c.replace.new.self c.args.caller c.replace-image.result c.args.reply.now at
    c.replace-image.ensures.before c.replace-image.ensures.others (c.replace.ensures.found ∙ ap Some c.after.ensures.image) c.replace.ensures.others far

pub returns-clause-kept : goal.returns-clause-kept
returns-clause-kept c = kept-passed c.args.world.now c.args.images.now c.replace-image.new.self c.replace.new.self c.args.caller c.replace-image.result c.args.reply.now
    c.replace-image.ensures.before c.replace-image.ensures.others (c.replace.ensures.found ∙ ap Some c.after.ensures.image) c.replace.ensures.others
    (subst (IsFit c.args.world.now) c.after.ensures.image c.after.ensures.fits) c.requires.kept
