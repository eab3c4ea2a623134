use Rattle.std.proofs.Common.{◌∙◌, ap, None, Some}
use Rattle.decide_law.specs.Effects.{unless_empty}
use Rattle.ops_ending.specs.MethodEnding.{thinned_by, held_thinned_by}
use Rattle.ops_ending.proofs.Partly.{id_read, changed_and_put}
use Rattle.ops_ending.proofs.left_groups.thin_at.Goals as goal

pub returns-in-Some : goal.returns-in-Some
returns-in-Some c =
    changed_and_put (held_thinned_by c.args.bag.now c.args.near.now c.args.end) c.args.at c.args.groups.now c.replace_at.new.self c.replace_at-in-Some.new.self (Some c.in-Some.g) None _ _ c.in-Some.ensures c.replace_at-in-Some.ensures
    (c.unless_empty.ensures ∙ ap unless_empty (c.thin.ensures ∙ ap (λ id. thinned_by c.args.bag.now c.args.near.now c.args.end id c.in-Some.g) (id_read c.args.groups.now c.as_slice.result.now c.args.at _ c.index-as_slice-at.result c.as_slice.ensures.entries c.requires.within c.in-Some.ensures.there)))
