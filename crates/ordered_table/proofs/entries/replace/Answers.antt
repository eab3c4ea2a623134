use Rattle.std.proofs.Common.{subst}
use Rattle.ordered_table.specs.MethodPlaces.{IsFoundAt}
use Rattle.ordered_table.proofs.PutLaws.{replaced-before, replaced-after}
use Rattle.ordered_table.proofs.entries.replace.Goals as goal

pub returns-clause-before : goal.returns-clause-before
returns-clause-before g c =
    replaced-before _ _ c.args.pid _ _ c.args.value (subst (λ es. IsFoundAt es c.args.pid c.in-Ok.at) c.as_slice.ensures.value c.in-Ok.ensures.found) c.replace_value_at.ensures

pub returns-clause-after : goal.returns-clause-after
returns-clause-after g c =
    replaced-after _ _ c.args.pid _ _ c.args.value (subst (λ es. IsFoundAt es c.args.pid c.in-Ok.at) c.as_slice.ensures.value c.in-Ok.ensures.found) c.replace_value_at.ensures
