use borrow.Follows.Closed.{read_of}
use Rattle.std.proofs.Common.{Some, sym, ap, ◌∙◌}
use Rattle.std.specs.Option.{ghost_name_of}
use Rattle.ordered_table.specs.Entries.{with_value}
use Rattle.record_bag.specs.Bags.{present}
use Rattle.record_bag.proofs.BagLaws.{put-what_is_there}
use Rattle.record_bag.proofs.present.record_mut.Goals as goal

pub returns-in-Some : goal.returns-in-Some
returns-in-Some g c =
    let there = c.in-Some.ensures.value in (
      ap (read_of (ghost_name_of c.as_mut.result) (λ (w : g.row.T.Denot). with_value c.args.table.now c.args.pid (Some w))) (put-what_is_there c.args.table.now c.args.pid c.in-Some.held.now (sym there)),
      record { writes_back = tt; value = c.as_mut.ensures.value ∙ ap present there; rising = c.get_mut.ensures.rising },
    )
