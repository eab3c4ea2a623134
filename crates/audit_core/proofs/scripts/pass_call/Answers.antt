use Rattle.std.proofs.Common.{Option, IfSome, ◌∙◌, ap, sym, subst}
use Rattle.proc_image.specs.declared.Image.{Image}
use Rattle.proc_image.specs.Images.{IsFit}
use Rattle.audit_core.specs.Table.{running_of, begun}
use Rattle.audit_core.proofs.Running.{asks_has_image, call-passed, on_ok}
use Rattle.audit_core.proofs.scripts.pass_call.Goals as goal

pub pass-requires-clause-known : goal.pass-requires-clause-known
pass-requires-clause-known c = asks_has_image c.args.world.now c.args.caller c.args.call.now c.args.images.now c.requires.in_order

pub returns-in-Some-clause-running : goal.returns-in-Some-clause-running
returns-in-Some-clause-running c =
    let passed = call-passed c.args.world.now c.args.caller c.args.call.now c.args.reply.now (running_of c.args.images.now) (running_of c.pass.new.images) c.in_ok-child.child
    c.in_ok-child.ensures.child c.pass.ensures.running c.requires.in_order in
    let child = ap (λ (o : Option Image). begun o (running_of c.pass.new.images)) (sym c.in-Some.is) in
    on_ok c.add.result _ _ (λ added. added ∙ (child ∙ passed)) c.add.ensures.running

pub returns-in-Some-clause-kept : goal.returns-in-Some-clause-kept
returns-in-Some-clause-kept c =
    let fit = subst (λ (o : Option Image). IfSome o (IsFit c.args.world.now)) c.in-Some.is c.in_ok-child.ensures.fits in
    on_ok c.add.result _ _ (λ keeps. keeps c.args.world.now c.pass.ensures.kept fit) c.add.ensures.kept
