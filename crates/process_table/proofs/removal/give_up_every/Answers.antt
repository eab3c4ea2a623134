use Rattle.std.proofs.Common.{◌∙◌, ap, sym, arith, slice_set}
use Rattle.std.proofs.lemmas.List.Edits.{map_over_more}
use Rattle.process_table.specs.Changes.{given_up}
use Rattle.process_table.proofs.removal.give_up_every.Goals as goal

pub loop-row-preserved : goal.loop-row-preserved
loop-row-preserved c =
    ap (slice_set c.loop-row.row-items c.loop-row.row-index) (c.give_up.ensures ∙ ap (given_up c.args.pid) (sym c.row-item.is))
    ∙ map_over_more (given_up c.args.pid) _ _ _ c.row-item.result (omega arith) c.loop-row.invariant c.row-item.is
