use Rattle.std.proofs.Common.{sym}
use Rattle.std.proofs.lemmas.Bool.{ltb-true}
use Rattle.ordered_table.proofs.PlaceLaws.{found-at}
use Rattle.ordered_table.proofs.entries.checked_place.Goals as goal

pub returns-then-entry-pid : goal.returns-then-entry-pid
returns-then-entry-pid g c =
    let at = c.in_ok-entry.ensures.lookup in
    found-at c.args.entries.now c.args.pid c.args.at c.in_ok-entry.entry.now c.requires (ltb-true _ _ (sym at.0)) at.1 c.if-entry-pid.true
