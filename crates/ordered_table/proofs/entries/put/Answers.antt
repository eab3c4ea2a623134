use Rattle.std.proofs.Common.{subst}
use Rattle.ordered_table.specs.MethodPlaces.{IsFoundAt}
use Rattle.ordered_table.proofs.PutLaws.{replaced-before, replaced-after}
use Rattle.ordered_table.proofs.entries.put.Goals as goal

pub returns-in-Ok-clause-before : goal.returns-in-Ok-clause-before
returns-in-Ok-clause-before g c =
    let found = subst (λ es. IsFoundAt es c.args.pid c.in-Ok.at) c.as_slice.ensures.value c.in-Ok.ensures.found in
    let before = replaced-before _ _ c.args.pid _ _ c.args.value found c.replace_value_at.ensures in
    cc

pub returns-in-Ok-clause-ok : goal.returns-in-Ok-clause-ok
returns-in-Ok-clause-ok g c =
    replaced-after _ _ c.args.pid _ _ c.args.value (subst (λ es. IsFoundAt es c.args.pid c.in-Ok.at) c.as_slice.ensures.value c.in-Ok.ensures.found) c.replace_value_at.ensures
