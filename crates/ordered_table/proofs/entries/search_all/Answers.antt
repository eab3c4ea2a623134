use Rattle.std.proofs.Common.{ap, ◌∙◌, arith, eq-eqb, ne_eqb}
use Rattle.std.proofs.lemmas.List.{get_or_default}
use Rattle.ordered_table.proofs.PlaceLaws.{found, vacant}
use Rattle.ordered_table.proofs.entries.search_all.Goals as goal
use Rattle.ordered_table.proofs.entries.search_all.Goals.{else-at-entries-via-then-at-entries+else-entries-at, else-at-entries-via-else-at-entries}

pub returns-then-entries-at-clause-found : goal.returns-then-entries-at-clause-found
returns-then-entries-at-clause-found g c =
    let es = c.args.entries.now in
    found es c.args.pid _ c.place-at.ensures c.if-at-entries.true (λ d. eq-eqb _ _ (ap (λ e. e.pid.0) (get_or_default es c.place-at.result d c.index-entries-at.result c.if-at-entries.true) ∙ c.if-entries-at.true))

pub returns-else-at-entries-clause-vacant : goal.returns-else-at-entries-clause-vacant
returns-else-at-entries-clause-vacant g c =
    let es = c.args.entries.now in
    vacant es c.args.pid _ c.place-at.ensures (elim c.else-at-entries.branch [
      | else-at-entries-via-then-at-entries+else-entries-at w ↦ λ d lt. ne_eqb _ _ (λ e. w.if-entries-at.false (ap (λ e. e.pid.0) (get_or_default es c.place-at.result w.index-entries-at.result d lt) ∙ e))
      | else-at-entries-via-else-at-entries w ↦ λ d lt. absurd (omega arith)
    ])
