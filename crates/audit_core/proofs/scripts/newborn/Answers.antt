use Rattle.std.proofs.Common.{◌∙◌, ap}
use Rattle.unix_calls.specs.declared.Call.{Call}
use Rattle.unix_calls.specs.declared.Call.TheVariants as calls
use Rattle.unix_calls.specs.declared.Reply.{Reply}
use Rattle.proc_image.specs.Follows.{with_child}
use Rattle.audit_core.proofs.scripts.newborn.Goals as goal

pub returns-in_ok-child-in-Fork-Number-clause-child : goal.returns-in_ok-child-in-Fork-Number-clause-child
returns-in_ok-child-in-Fork-Number-clause-child c = λ at others far.
    ap (λ (call : Call). with_child c.args.world.now c.args.caller at call c.args.reply.now others) c.in-Fork-Number.is-0
    ∙ (ap (λ (reply : Reply). with_child c.args.world.now c.args.caller at calls.Fork reply others) c.in-Fork-Number.is-1
    ∙ c.in_ok-child-in-Fork-Number.ensures.child at others far)
