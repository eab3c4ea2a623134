use Rattle.std.proofs.Common.{◌≡◌, ◌+◌, length, ap, ◌∙◌, sym, length-append}
use Rattle.group_record.specs.Log.{log_part}
use Rattle.sig_stream.proofs.StreamLaws.{length-signals_for}
use Rattle.sig_stream.proofs.fold.stream_len.Goals as goal

pub returns : goal.returns
returns c =
    rw (c.as_slice-kept.ensures, c.count_for-more.ensures.count, c.part_of.ensures)
    (sym (length-append c.args.v.now.backlog (log_part c.args.v.now.pid c.args.v.now.uid c.args.g.now) ∙ ap (λ n. length c.args.v.now.backlog + n) (length-signals_for c.args.v.now.pid c.args.v.now.uid _)))
