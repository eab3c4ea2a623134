use Rattle.std.proofs.Common.{List, All, subst}
use Rattle.std.specs.Prelude.{Option}
use Rattle.ordered_table.specs.declared.Entry.{Entry}
use Rattle.group_record.specs.declared.Group.{Group}
use Rattle.ops_groups.specs.MethodMove.{IsCountedIn}
use Rattle.ops_groups.proofs.MovedCode.{counted_all}
use Rattle.ops_groups.proofs.move_tests.has_counts.Goals as goal

pub returns : goal.returns
returns c = λ yes. counted_all c.args.bag.now.groups (subst (λ (es : List (Entry (Option Group))). All (λ (e : Entry (Option Group)). IsCountedIn e.value) es) c.as_slice.ensures.entries (c.all_counted.ensures yes))
