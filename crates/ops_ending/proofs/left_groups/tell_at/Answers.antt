use Rattle.std.proofs.Common.{◌∙◌, ap, None, Some}
use Rattle.decide_law.proofs.Appended.{on_ok, on_err}
use Rattle.ops_ending.specs.MethodEnding.{told_by, held_told_by}
use Rattle.ops_ending.proofs.Partly.{id_read, changed_and_put, put_unchanged}
use Rattle.ops_ending.proofs.left_groups.tell_at.Goals as goal

pub returns-clause-ok : goal.returns-clause-ok
returns-clause-ok c = on_ok c.tell-told.result (λ is.
    changed_and_put (held_told_by c.args.bag.now c.args.near.now c.args.end) c.args.at c.args.groups.now c.replace_at.new.self c.replace_at-2.new.self (Some c.in-Some.g) None _ _ c.in-Some.ensures c.replace_at-2.ensures
    (ap Some (is ∙ ap (λ id. told_by c.args.bag.now c.args.near.now c.args.end id c.in-Some.g) (id_read c.args.groups.now c.as_slice.result.now c.args.at _ c.index-as_slice-at.result c.as_slice.ensures.entries c.requires.within c.in-Some.ensures.there)))) c.tell-told.ensures.ok

pub returns-clause-err : goal.returns-clause-err
returns-clause-err c = on_err c.tell-told.result (λ is.
    put_unchanged c.args.at c.args.groups.now c.replace_at.new.self c.replace_at-2.new.self (Some c.in-Some.g) None _ _ c.in-Some.ensures c.replace_at-2.ensures (ap Some is)) c.tell-told.ensures.err
