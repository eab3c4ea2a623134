use Rattle.std.proofs.Common.{◌∙◌, ap, sym, subst}
use Rattle.ordered_table.specs.Entries.{value_at, with_each}
use Rattle.record_bag.specs.Bags.{present}
use Rattle.ops_ending.specs.MethodEnding.{IsCountedIn, held_told_by, held_thinned_by}
use Rattle.ops_ending.proofs.EndCode.{two_passes, told_counted}
use Rattle.ops_ending.proofs.ending.leave_groups.Goals as goal

pub thin_groups-requires-clause-counted : goal.thin_groups-requires-clause-counted
thin_groups-requires-clause-counted c = λ id.
    subst (λ gs. IsCountedIn (present (value_at gs id))) (sym (c.in-Ok.ensures.ok ∙ ap (with_each (held_told_by c.args.bag.now c.args.near.now c.args.end)) c.replace-groups.ensures.value))
    (told_counted c.args.bag.now c.args.near.now c.args.end c.args.bag.now.groups id (c.requires.counted id))

pub returns-in-Ok-clause-ok : goal.returns-in-Ok-clause-ok
returns-in-Ok-clause-ok c =
    c.thin_groups.ensures
    ∙ ap (with_each (held_thinned_by c.args.bag.now c.args.near.now c.args.end)) (c.in-Ok.ensures.ok ∙ ap (with_each (held_told_by c.args.bag.now c.args.near.now c.args.end)) c.replace-groups.ensures.value)
    ∙ two_passes c.args.bag.now c.args.near.now c.args.end c.args.bag.now.groups
