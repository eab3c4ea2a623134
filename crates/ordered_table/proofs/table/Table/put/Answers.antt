use Rattle.std.proofs.Common.{◌≡◌, OnOk, Some, rules, ap, ◌∙◌, subst, is_ok}
use Rattle.ordered_table.specs.Entries.{with_value}
use Rattle.ordered_table.specs.MethodPlaces.{IsVacantAt}
use Rattle.ordered_table.proofs.MapLaws.{found-after_put, others-after_put, put-same, put-other}
use Rattle.ordered_table.proofs.PutLaws.{inserted-rises}
use Rattle.ordered_table.proofs.table.Table.put.Goals as goal

pub invariant_of-self : goal.invariant_of-self
invariant_of-self g c =
    inserted-rises (is_ok c.insert.result) c.self.inside.entries.items _ c.args.pid c.in-Err.at c.args.value (subst (λ es. IsVacantAt es c.args.pid c.in-Err.at) c.as_slice.ensures.value c.in-Err.ensures.vacant) c.insert.ensures.items c.self.invariant

pub returns-in-Ok-clause-found : goal.returns-in-Ok-clause-found
returns-in-Ok-clause-found g c = put-same _ c.args.pid c.replace.new.dest ∙ ap Some c.replace.ensures.after

pub returns-in-Ok-clause-others : goal.returns-in-Ok-clause-others
returns-in-Ok-clause-others g c = λ q ne. put-other _ c.args.pid q c.replace.new.dest ne

pub returns-after-insert-clause-found : goal.returns-after-insert-clause-found
returns-after-insert-clause-found g c =
    let ok : OnOk c.match-insert.result (c.insert.new.self.items ≡ with_value c.args.self.now c.args.pid c.args.value) = search rules in
    found-after_put c.match-insert.result _ _ c.args.pid c.args.value ok

pub returns-after-insert-clause-others : goal.returns-after-insert-clause-others
returns-after-insert-clause-others g c =
    let ok : OnOk c.match-insert.result (c.insert.new.self.items ≡ with_value c.args.self.now c.args.pid c.args.value) = search rules in
    others-after_put c.match-insert.result _ _ c.args.pid c.args.value ok
