use Rattle.std.proofs.Common.{◌≡◌, ◌∙◌, subst}
use Rattle.unix_names.specs.declared.Pid.{Pid}
use Rattle.process_table.specs.Rows.{is_among}
use Rattle.kernel_rules.specs.MethodEnding.{is_at_risk}
use Rattle.kernel_rules.proofs.EndLaws.{end_sent}
use Rattle.kernel_rules.proofs.ending.end.Goals as goal

pub returns-clause-ok : goal.returns-clause-ok
returns-clause-ok c =
    c.signal_end.ensures
    ∙ rw (c.as_slice.ensures.value, c.keep_left.ensures, c.rows-2.ensures, c.leave.ensures)
    (end_sent c.args.table.now c.args.row.now c.args.status c.in_ok-groups.groups.items (subst (λ rows. (g : Pid) → is_among c.in_ok-groups.groups.items g ≡ is_at_risk rows c.args.row.now.pid g) c.rows.ensures c.in_ok-groups.ensures))
