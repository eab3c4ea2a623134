use Rattle.std.proofs.Common.{sym, ◌∙◌}
use Rattle.audit_core.proofs.Running.{asks_of_image}
use Rattle.audit_core.proofs.scripts.asks_next.Goals as goal

pub returns-in-Some : goal.returns-in-Some
returns-in-Some c =
    let told = asks_of_image c.args.world.now c.args.images.now c.args.caller c.args.call.now c.in-Some.image.now (sym c.in-Some.ensures) c.requires in
    let asked = c.next_call.ensures.call in
    ((λ same. told.0 (sym (c.is_same.ensures.0 same) ∙ asked)), (λ asks. c.is_same.ensures.1 (asked ∙ sym (told.1 asks))))
