use Rattle.std.proofs.Common.{◌≤◌, ap, arith}
use Rattle.decide_law.specs.Counts.{is_link_to, is_stopped_to}
use Rattle.ops_groups.specs.declared.tallies.Counts.{Counts}
use Rattle.decide_law.proofs.FewCounts.{few_counted}
use Rattle.ops_groups.proofs.tallies.recount.Goals as goal

pub counted-g-requires : goal.counted-g-requires
counted-g-requires c =
    let few : c.counts_in-after.result.links ≤ 65 = few_counted c.args.later.now (is_link_to c.args.later.now c.args.id) c.args.near.now _ (ap (λ (x : Counts). x.links) c.counts_in-after.ensures) c.requires.near in
    let room = c.requires.counted.links in
    omega arith

pub counted-g-requires-2 : goal.counted-g-requires-2
counted-g-requires-2 c =
    let few : c.counts_in-after.result.stopped ≤ 65 = few_counted c.args.later.now (is_stopped_to c.args.id) c.args.near.now _ (ap (λ (x : Counts). x.stopped) c.counts_in-after.ensures) c.requires.near in
    let room = c.requires.counted.stopped in
    omega arith
