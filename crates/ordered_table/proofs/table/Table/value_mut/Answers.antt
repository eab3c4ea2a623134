use Rattle.std.proofs.Common.{refl, sym, subst}
use Rattle.ordered_table.specs.Entries.{IsRising}
use Rattle.ordered_table.proofs.MapLaws.{IsRising-put}
use Rattle.ordered_table.proofs.PutLaws.{lent-before, lent-after}
use Rattle.ordered_table.proofs.table.Table.value_mut.Goals as goal

pub invariant_of-self-lent : goal.invariant_of-self-lent
invariant_of-self-lent g c = λ w.
    let found = rw (← c.self.view_is) at c.requires in
    subst IsRising (sym (lent-after _ c.args.pid c.args.at _ w found c.index_mut.ensures.value)) (IsRising-put _ c.args.pid w c.self.invariant)

pub returns : goal.returns
returns g c =
    let found = rw (← c.self.view_is) at c.requires in
    rw (← c.self.view_is) (
      (refl, λ w. lent-after _ c.args.pid c.args.at _ w found c.index_mut.ensures.value),
      record { writes_back = tt; value = lent-before _ c.args.pid c.args.at _ found c.index_mut.ensures.value; rising = c.self.invariant },
    )
