use Rattle.std.proofs.Common.{◌∙◌, ◌++◌, List, sym, ap}
use Rattle.decide_law.proofs.Appended.{on_ok}
use Rattle.group_record.specs.declared.LogEntry.{LogEntry}
use Rattle.sig_stream.specs.Streams.{signals_for}
use Rattle.ops_groups.proofs.JoinedCode.{part_taken, part_left}
use Rattle.ops_groups.proofs.joining.take_old_part.Goals as goal

pub returns-then-has_taken-clause-ok : goal.returns-then-has_taken-clause-ok
returns-then-has_taken-clause-ok c = part_taken c.args.by.pid c.args.by.group c.args.group c.args.w.now c.args.old.now (sym c.has_taken.ensures ∙ c.if-has_taken.true)

pub returns-else-is_err-clause-ok : goal.returns-else-is_err-clause-ok
returns-else-is_err-clause-ok c = on_ok c.take_part-taken.result (λ e.
    part_left c.args.by.pid c.args.by.group c.args.group c.args.w.now c.args.old.now _ (sym c.has_taken.ensures ∙ c.if-has_taken.false)
    (e ∙ ap (λ (es : List LogEntry). c.args.w.now.backlog ++ signals_for c.args.w.now.pid c.args.w.now.uid es) c.part_of.ensures)) c.take_part-taken.ensures.ok
