use Rattle.std.proofs.Common.{◌∙◌, ◌&&◌, sym, ap}
use Rattle.process_table.specs.Orphans.{is_link}
use Rattle.process_table.proofs.MarkLaws.{unmarked_link}
use Rattle.process_table.proofs.orphans.is_link_of.Goals.{then-eq, else-eq}
use Rattle.process_table.proofs.orphans.is_link_of.Goals as goal

pub returns-else-is_marked : goal.returns-else-is_marked
returns-else-is_marked c = elim c.if-eq.branch [
  | then-eq w ↦ c.if-is_marked.false ∙ sym (unmarked_link c.args.marks.now c.args.rows.now c.args.group c.args.row.now c.requires (sym w.is_marked.ensures ∙ sym w.value-is ∙ c.if-is_marked.false))
  | else-eq w ↦ c.if-is_marked.false ∙ ap (λ b. b && is_link c.args.rows.now c.args.row.now) (sym w.if-eq.false ∙ c.eq.ensures)
]
