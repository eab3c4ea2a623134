use Rattle.std.proofs.Common.{ap, ◌∙◌, Some}
use Rattle.record_table.specs.Slots.{slot_at, process, resting}
use Rattle.record_table.proofs.SlotLaws.{slot_at-put, others-put}
use Rattle.record_table.proofs.slots.Slots.create.Goals as goal

pub returns-clause-rests : goal.returns-clause-rests
returns-clause-rests g c =
    let vproc = c.args.vproc in
    ap (λ s. slot_at s (process vproc.pid)) c.in_ok-swap.ensures.ok ∙ slot_at-put c.args.self.now (process vproc.pid) (resting (Some vproc))

pub returns-clause-others : goal.returns-clause-others
returns-clause-others g c = others-put c.args.self.now _ (process c.args.vproc.pid) (resting (Some c.args.vproc)) c.in_ok-swap.ensures.ok
