use Rattle.std.proofs.Common.{◌∙◌, None, Some, sym, ap}
use Rattle.group_record.specs.declared.Group.{Group}
use Rattle.group_record.specs.Groups.{joined, left}
use Rattle.ordered_table.specs.Entries.{with_value}
use Rattle.decide_law.proofs.Appended.{on_ok, on_err, put_same}
use Rattle.decide_law.proofs.Tables.{taken_and_put}
use Rattle.ops_groups.specs.MethodMove.{in_session, joined_to}
use Rattle.ops_groups.proofs.JoinedCode.{none_there, put_again, err_always}
use Rattle.ops_groups.proofs.joining.join_in.Goals as goal

pub returns-then-not-has-clause-ok : goal.returns-then-not-has-clause-ok
returns-then-not-has-clause-ok c = sym (none_there c.args.to.group (joined_to c.args.m.now (in_session c.args.to)) c.args.groups.now c.groups_rise.ensures (sym c.has.ensures ∙ c.if-not-has.true))

pub returns-in_err-join_last-in-None-clause-err : goal.returns-in_err-join_last-in-None-clause-err
returns-in_err-join_last-in-None-clause-err c = err_always c.from_residual.result (c.in-None.ensures.after ∙ put_again c.args.to.group c.args.groups.now None c.groups_rise.ensures c.in-None.ensures.before)

pub returns-in-Some-clause-ok : goal.returns-in-Some-clause-ok
returns-in-Some-clause-ok c = on_ok c.join_last-joined.result (λ e.
    taken_and_put c.args.to.group (joined_to c.args.m.now (in_session c.args.to)) c.args.groups.now _ _ (Some c.in-Some.g) None c.groups_rise.ensures c.in-Some.ensures.before c.in-Some.ensures.after
    (c.replace-in-Some.ensures.after ∙ ap (λ (g : Group). with_value c.replace.new.self c.args.to.group (Some g)) e)) c.join_last-joined.ensures.ok

pub returns-in-Some-clause-err : goal.returns-in-Some-clause-err
returns-in-Some-clause-err c = on_err c.join_last-joined.result (λ e.
    c.replace-in-Some.ensures.after ∙ ap (λ (g : Group). with_value c.replace.new.self c.args.to.group (Some g)) e
    ∙ ap (λ l. with_value l c.args.to.group (Some c.in-Some.g)) c.in-Some.ensures.after ∙ put_same c.args.to.group c.args.groups.now (Some c.in-Some.g) None c.groups_rise.ensures c.in-Some.ensures.before) c.join_last-joined.ensures.err

pub returns-in_ok-join_last-in-None-clause-ok : goal.returns-in_ok-join_last-in-None-clause-ok
returns-in_ok-join_last-in-None-clause-ok c =
    taken_and_put c.args.to.group (joined_to c.args.m.now (in_session c.args.to)) c.args.groups.now _ _ None None c.groups_rise.ensures c.in-None.ensures.before c.in-None.ensures.after
    (c.replace-in-None.ensures.after
    ∙ ap (λ (g : Group). with_value c.replace.new.self c.args.to.group (Some g)) (c.in_ok-join_last-in-None.ensures.ok ∙ ap (λ (g : Group). joined (left g c.args.m.now.pid) c.args.m.now.pid c.args.m.now.uid) c.empty_group-g.ensures))
