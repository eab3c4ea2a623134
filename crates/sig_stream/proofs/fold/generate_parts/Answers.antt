use Rattle.std.proofs.Common.{◌≡◌, ◌∙◌, ap, min, length}
use Rattle.sig_stream.specs.Streams.{signals_for}
use Rattle.sig_stream.proofs.StreamLaws.{tail_in_parts}
use Rattle.sig_stream.proofs.fold.generate_parts.Goals as goal

pub returns : goal.returns
returns c =
    rw (c.generate_for.ensures, c.generate_each-after_backlog.ensures, c.after_first.ensures)
    (tail_in_parts c.args.own.now.sig c.args.own.now.taken c.min-passed.result c.args.backlog.now (signals_for c.args.p c.args.uid c.args.part.now) c.min-passed.ensures)
