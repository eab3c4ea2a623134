use Rattle.std.proofs.Common.{◌∙◌, ap, sym}
use Rattle.std.specs.Prelude.{map}
use Rattle.kernel_rules.specs.Wait.{after_wait}
use Rattle.process_table.specs.Changes.{reported_at}
use Rattle.kernel_rules.proofs.wait.wait.Goals as goal

pub returns-in-Child : goal.returns-in-Child
returns-in-Child c = c.change_row.ensures ∙ ap (map (reported_at c.in-Child.pid)) c.remove_ended.ensures ∙ sym (ap (after_wait c.args.table.now) c.in-Child.is)
