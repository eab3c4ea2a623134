use Rattle.std.proofs.Common.{sym, ◌∙◌}
use Rattle.record_table.proofs.SlotLaws.{home-not_out, after-rests, after-handed, answer-handed, stands-given, others-put}
use Rattle.record_table.proofs.slots.Slots.put.Goals as goal

pub unreachable-requires : goal.unreachable-requires
unreachable-requires g c = home-not_out c.args.self.now c.replace.new.self c.args.name c.args.held c.in-Out-replace.field-0 c.replace.ensures.after (sym c.in-Out-replace.is ∙ c.replace-in-Some.ensures.before)

pub returns-in-None-clause-stands : goal.returns-in-None-clause-stands
returns-in-None-clause-stands g c =
    stands-given c.args.self.now _ c.args.name c.args.held
    (after-rests c.args.self.now _ c.args.name c.args.held c.in-Out.line (sym c.replace.ensures.before ∙ c.in-Out.is) c.in-None.ensures.none c.replace.ensures.after)

pub returns-in-None-clause-others : goal.returns-in-None-clause-others
returns-in-None-clause-others g c = others-put c.args.self.now _ c.args.name _ c.replace.ensures.after

pub returns-in-Home-replace-clause-answer : goal.returns-in-Home-replace-clause-answer
returns-in-Home-replace-clause-answer g c =
    answer-handed c.args.self.now c.replace.new.self c.args.name c.args.held c.in-Home-replace.held c.in-Out.line c.in-Some.waiter c.pop.new.self
    (sym c.replace.ensures.before ∙ c.in-Out.is) c.in-Some.ensures.some c.replace.ensures.after (sym c.in-Home-replace.is ∙ c.replace-in-Some.ensures.before)

pub returns-in-Home-replace-clause-after : goal.returns-in-Home-replace-clause-after
returns-in-Home-replace-clause-after g c =
    after-handed c.args.self.now c.replace.new.self _ c.args.name c.args.held c.in-Out.line c.in-Some.waiter c.pop.new.self
    (sym c.replace.ensures.before ∙ c.in-Out.is) c.in-Some.ensures.some c.replace.ensures.after c.replace-in-Some.ensures.after

pub returns-in-Home-replace-clause-stands : goal.returns-in-Home-replace-clause-stands
returns-in-Home-replace-clause-stands g c =
    stands-given c.args.self.now _ c.args.name c.args.held
    (after-handed c.args.self.now c.replace.new.self _ c.args.name c.args.held c.in-Out.line c.in-Some.waiter c.pop.new.self
    (sym c.replace.ensures.before ∙ c.in-Out.is) c.in-Some.ensures.some c.replace.ensures.after c.replace-in-Some.ensures.after)

pub returns-in-Home-replace-clause-others : goal.returns-in-Home-replace-clause-others
returns-in-Home-replace-clause-others g c =
    others-put c.args.self.now _ c.args.name _
    (after-handed c.args.self.now c.replace.new.self _ c.args.name c.args.held c.in-Out.line c.in-Some.waiter c.pop.new.self
    (sym c.replace.ensures.before ∙ c.in-Out.is) c.in-Some.ensures.some c.replace.ensures.after c.replace-in-Some.ensures.after)
