use Rattle.std.proofs.Common.{List, take, sym, subst}
use Rattle.process_table.specs.declared.Row.{Row}
use Rattle.kernel_model.specs.Legal.{boot, IsLegalFrom}
use Rattle.table_view.proofs.Fronts.{legal_front}
use Rattle.table_view.proofs.table.table_after.Goals as goal

pub take_steps-requires-clause-legal : goal.take_steps-requires-clause-legal
take_steps-requires-clause-legal c =
    subst (λ (rows : List Row). IsLegalFrom rows (take c.args.at c.args.entries.now)) (sym c.in_ok-kernel.ensures)
    (legal_front (boot c.args.world.now) c.args.entries.now c.args.at c.requires.legal)
