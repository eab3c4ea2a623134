use Rattle.std.proofs.Common.{None, is_some, ap, subst, ◌∙◌}
use Rattle.std.specs.Option.{option_flatten}
use Rattle.ordered_table.specs.Entries.{without}
use Rattle.ordered_table.specs.MethodPlaces.{IsFoundAt}
use Rattle.ordered_table.specs.Sparse.{present}
use Rattle.ordered_table.proofs.SparseLaws.{value_at-present, present-empty}
use Rattle.ordered_table.proofs.sparse.SparseTable.remove.Goals as goal

pub returns-in-Ok-clause-value : goal.returns-in-Ok-clause-value
returns-in-Ok-clause-value g c =
    let found = ap option_flatten (c.in-Ok.ensures.found.value c.replace_at-old.result) in
    let read = c.replace_at-old.ensures.old c.replace_at-old.result in
    let there = value_at-present _ c.args.pid c.self.invariant in
    cc

pub returns-in-Ok-clause-rest : goal.returns-in-Ok-clause-rest
returns-in-Ok-clause-rest g c =
    let found = subst (λ es. IsFoundAt es c.args.pid c.in-Ok.at) c.as_slice.ensures.value c.in-Ok.ensures.found in
    let has = ap is_some (found.value c.replace_at-old.result) in
    ap present (c.replace_at-old.ensures.new ∙ found.replaced None) ∙ (present-empty _ c.args.pid c.self.invariant has ∙ ap (λ es. without es c.args.pid) c.self.view_is)
