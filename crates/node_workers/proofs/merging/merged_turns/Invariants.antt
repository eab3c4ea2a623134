use Rattle.std.proofs.Common.{◌≡◌, length, map}
use mathlib.Core.List.{IsPrefix}
use Rattle.node_workers.specs.MethodMerging.{all_laid_out}
use Rattle.node_workers.proofs.merging.merged_turns.Given as goal

abbrev pub invariant-loop-list : goal.invariant-loop-list
invariant-loop-list g l = record {
  laid : all_laid_out (map (λ v. v.items) l.lists.items) l.steps.items ≡ all_laid_out (map (λ v. v.items) l.initial.lists.items) l.initial.steps.items;
  long : length l.steps.items ≡ length l.initial.steps.items;
  begins : IsPrefix (map (λ v. v.items) l.lists.items) (map (λ v. v.items) l.initial.lists.items);
}

abbrev pub decreases-loop-list : goal.decreases-loop-list
decreases-loop-list g l = length l.lists.items
