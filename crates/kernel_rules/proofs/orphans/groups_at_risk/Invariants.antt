use Rattle.std.proofs.Common.{◌≡◌, ◌&&◌, take}
use Rattle.std.specs.List.{list_any}
use Rattle.unix_names.specs.declared.Pid.{Pid}
use Rattle.process_table.specs.Orphans.{is_stopped_in}
use Rattle.process_table.specs.Rows.{is_among}
use Rattle.kernel_rules.specs.MethodEnding.{is_near_link}
use Rattle.kernel_rules.proofs.orphans.groups_at_risk.Given as goal

abbrev pub invariant-loop-row : goal.invariant-loop-row
invariant-loop-row l = (g : Pid) → is_among l.groups.items g ≡ (list_any (is_near_link l.rows l.pid g) (take l.row-index l.rows) && list_any (is_stopped_in g) l.rows)
