use Rattle.std.proofs.Common.{sym, ◌∙◌}
use Rattle.record_table.proofs.SlotLaws.{after-joined, stands-joined, same-joined, after-twice, others-put}
use Rattle.record_table.proofs.slots.Slots.wait.Goals as goal

pub returns-clause-ok : goal.returns-clause-ok
returns-clause-ok g c =
    after-joined c.push-joined.result c.args.self.now c.replace.new.self c.replace-in-Out.new.self c.args.name _ c.in-Out.line c.push-joined.new.self c.args.waiter
    (sym c.replace.ensures.before ∙ c.in-Out.is) c.replace.ensures.after c.replace-in-Out.ensures.after c.push-joined.ensures.ok

pub returns-clause-stands : goal.returns-clause-stands
returns-clause-stands g c =
    stands-joined c.push-joined.result c.args.self.now c.replace-in-Out.new.self c.args.name c.args.waiter
    (after-joined c.push-joined.result c.args.self.now c.replace.new.self c.replace-in-Out.new.self c.args.name _ c.in-Out.line c.push-joined.new.self c.args.waiter
    (sym c.replace.ensures.before ∙ c.in-Out.is) c.replace.ensures.after c.replace-in-Out.ensures.after c.push-joined.ensures.ok)

pub returns-clause-err : goal.returns-clause-err
returns-clause-err g c =
    same-joined c.push-joined.result c.args.self.now c.replace.new.self c.replace-in-Out.new.self c.args.name _ c.in-Out.line c.push-joined.new.self
    (sym c.replace.ensures.before ∙ c.in-Out.is) c.replace.ensures.after c.replace-in-Out.ensures.after c.push-joined.ensures.err

pub returns-clause-others : goal.returns-clause-others
returns-clause-others g c =
    others-put c.args.self.now _ c.args.name _ (after-twice c.args.self.now c.replace.new.self c.replace-in-Out.new.self c.args.name _ _ c.replace.ensures.after c.replace-in-Out.ensures.after)
