use Rattle.std.proofs.Common.{◌≡◌, length}
use Rattle.std.specs.Prelude.{drop}
use Rattle.node_workers.specs.MethodMerging.{laid_out}
use Rattle.node_workers.proofs.merging.lay_out.Given as goal

abbrev pub invariant-loop-made : goal.invariant-loop-made
invariant-loop-made l = record {
  laid : laid_out (drop l.made-index l.list) l.steps.items ≡ laid_out l.list l.initial.steps.items;
  long : length l.steps.items ≡ length l.initial.steps.items;
}
