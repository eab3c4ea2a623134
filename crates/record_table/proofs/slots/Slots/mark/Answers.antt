use Rattle.std.proofs.Common.{sym, ◌∙◌, None}
use Rattle.record_bag.specs.declared.Held.TheVariants.{V}
use Rattle.record_table.proofs.SlotLaws.{after-marked}
use Rattle.record_table.proofs.slots.Slots.mark.Goals as goal

pub returns : goal.returns
returns g c = after-marked c.args.self.now c.replace.new.self _ c.args.pid (V None) c.in-Out.line (sym c.replace.ensures.before ∙ c.in-Out.is) c.replace.ensures.after c.replace-in-Out.ensures.after
