use Rattle.std.proofs.Common.{ap, ◌∙◌}
use Rattle.record_table.specs.Slots.{is_known}
use Rattle.record_table.proofs.SlotLaws.{is_known-put}
use Rattle.record_table.proofs.slots.Slots.replace.Goals as goal

pub returns-clause-known : goal.returns-clause-known
returns-clause-known g c = ap (λ s. is_known s c.args.name) c.in-Ok.ensures.ok ∙ is_known-put c.args.self.now c.args.name c.args.slot
