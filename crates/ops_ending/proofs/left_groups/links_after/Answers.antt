use Rattle.std.proofs.Common.{◌≤◌, arith}
use Rattle.decide_law.specs.Counts.{is_link_to}
use Rattle.ops_ending.specs.MethodEnding.{later_by}
use Rattle.decide_law.proofs.FewCounts.{few_counted}
use Rattle.ops_ending.proofs.left_groups.links_after.Goals as goal

pub overflow_add-from : goal.overflow_add-from
overflow_add-from c =
    let few : c.count_later_links-later.result ≤ 65 = few_counted (later_by c.args.bag.now c.args.end) (is_link_to (later_by c.args.bag.now c.args.end) c.args.id) c.args.near.now c.count_later_links-later.result c.count_later_links-later.ensures c.requires in
    omega arith
