use Rattle.std.proofs.Common.{sym, subst}
use Rattle.ordered_table.specs.Entries.{IsRising}
use Rattle.ordered_table.proofs.MapLaws.{IsRising-set}
use Rattle.ordered_table.proofs.table.Table.replace_at.Goals as goal

pub invariant_of-self : goal.invariant_of-self
invariant_of-self g c =
    let r = c.replace_value_at.ensures in
    subst IsRising (sym r.now) (IsRising-set _ c.args.at r.entry c.args.value r.there c.self.invariant)
