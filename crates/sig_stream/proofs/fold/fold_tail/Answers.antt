use Rattle.std.proofs.Common.{◌≡◌, ◌+◌, ◌∙◌, ap, sym, length, length-append}
use Rattle.group_record.specs.Log.{log_part}
use Rattle.sig_stream.proofs.StreamLaws.{length-signals_for}
use Rattle.sig_stream.proofs.fold.fold_tail.Goals as goal

pub returns-clause-taken : goal.returns-clause-taken
returns-clause-taken c =
    rw (c.as_slice-backlog.ensures, c.count_for.ensures.count, c.part_of-part.ensures)
    (sym (length-append c.args.v.now.backlog (log_part c.args.v.now.pid c.args.v.now.uid c.args.g.now) ∙ ap (λ n. length c.args.v.now.backlog + n) (length-signals_for c.args.v.now.pid c.args.v.now.uid _)))
