use Rattle.std.proofs.Common.{◌∙◌, ap, None, Some}
use Rattle.ops_ending.specs.MethodEnding.{untold_by, held_untold_by}
use Rattle.ops_ending.proofs.Partly.{id_read, changed_and_put}
use Rattle.ops_ending.proofs.left_groups.untell_at.Goals as goal

pub returns-in-Some : goal.returns-in-Some
returns-in-Some c =
    changed_and_put (held_untold_by c.args.bag.now c.args.near.now c.args.end) c.args.at c.args.groups.now c.replace_at.new.self c.replace_at-in-Some.new.self (Some c.in-Some.g) None _ _ c.in-Some.ensures c.replace_at-in-Some.ensures
    (ap Some (c.untell.ensures ∙ ap (λ id. untold_by c.args.bag.now c.args.near.now c.args.end id c.in-Some.g) (id_read c.args.groups.now c.as_slice.result.now c.args.at _ c.index-as_slice-at.result c.as_slice.ensures.entries c.requires.within c.in-Some.ensures.there)))
