use Rattle.std.proofs.Common.{◌∙◌, ◌≡◌, true, false, None, Some, sym, ap, rules}
use Rattle.std.specs.Prelude.{is_some, not}
use mir.Val.{SFits}
use mir.Syntax.{w64}
use Rattle.std.proofs.lemmas.Int.{to_z-of_z}
use Rattle.unix_calls.specs.declared.Call.TheVariants.{Setpgid}
use Rattle.record_bag.specs.Bags.{group_in}
use Rattle.decide_law.specs.Told.{target_in}
use Rattle.ops_groups.specs.Setpgid.{setpgid_refusal}
use Rattle.ops_groups.specs.MethodMove.{in_session, named_group, group_settled}
use Rattle.ops_groups.proofs.ChangeCode.{setpgid_refused, setpgid_as, from_group, same_group, other_group, moves, refusal_seen, none_seen, group_seen_there, copied_is_some}
use Rattle.ops_groups.proofs.moves.setpgid_change.Goals as goal

pub returns-in-Some-setpgid_refusal-clause-ok : goal.returns-in-Some-setpgid_refusal-clause-ok
returns-in-Some-setpgid_refusal-clause-ok c = λ v there.
    let by = c.args.by in
    let settled = group_settled by.pid by.group c.args.bag.now in
    let w = c.in-Some.v.now in
    let fits : SFits w64 c.args.group = search rules in
    let back = to_z-of_z w64 c.args.group fits in
    setpgid_refused settled c.unchanged.new.bag by.pid v w c.args.target c.args.group c.in-Some-setpgid_refusal.refusal c.unchanged.result c.in-Some.ensures there
    (c.in-Some-setpgid_refusal.ensures ∙ ap (setpgid_refusal c.args.bag.now w c.args.target) back ∙ sym (refusal_seen by.pid by.group c.args.bag.now w c.args.target c.args.group)) (c.unchanged.ensures (Setpgid c.args.target c.args.group))

pub returns-then-is_none-clause-ok : goal.returns-then-is_none-clause-ok
returns-then-is_none-clause-ok c = λ v there.
    let by = c.args.by in
    let settled = group_settled by.pid by.group c.args.bag.now in
    let w = c.in-Some.v.now in
    let u = c.in-Some-target_in.u.now in
    let new = c.named_group-new.result in
    let fits : SFits w64 c.args.group = search rules in
    let back = to_z-of_z w64 c.args.group fits in
    let none : is_some (group_in c.args.bag.now u.group) ≡ false = ap is_some (sym c.group.ensures) ∙ copied_is_some c.group.result ∙ c.is_none.ensures ∙ ap not c.if-is_none.true in
    setpgid_as settled c.unchanged-then-is_none.new.bag by.pid v w c.args.target c.args.group new (Some u) c.unchanged-then-is_none.result c.in-Some.ensures there
    (c.in_default-setpgid_refusal.ensures ∙ ap (setpgid_refusal c.args.bag.now w c.args.target) back ∙ sym (refusal_seen by.pid by.group c.args.bag.now w c.args.target c.args.group))
    (c.named_group-new.ensures ∙ ap (named_group w c.args.target) back) (c.in-Some-target_in.ensures ∙ ap (target_in c.args.bag.now w) c.target_pid.ensures)
    (from_group settled c.unchanged-then-is_none.new.bag by.pid c.args.target c.args.group u new None c.unchanged-then-is_none.result (none_seen by.pid by.group c.args.bag.now u.group none)
    (c.unchanged-then-is_none.ensures (Setpgid c.args.target c.args.group)))

pub returns-then-eq-clause-ok : goal.returns-then-eq-clause-ok
returns-then-eq-clause-ok c = λ v there.
    let by = c.args.by in
    let settled = group_settled by.pid by.group c.args.bag.now in
    let w = c.in-Some.v.now in
    let u = c.in-Some-target_in.u.now in
    let new = c.named_group-new.result in
    let fits : SFits w64 c.args.group = search rules in
    let back = to_z-of_z w64 c.args.group fits in
    let kept : is_some (group_in c.args.bag.now u.group) ≡ true = ap is_some (sym c.group.ensures) ∙ copied_is_some c.group.result ∙ c.is_none.ensures ∙ ap not c.if-is_none.false in
    let old = group_seen_there by.pid by.group c.args.bag.now u.group kept in
    setpgid_as settled c.unchanged-then-eq.new.bag by.pid v w c.args.target c.args.group new (Some u) c.unchanged-then-eq.result c.in-Some.ensures there
    (c.in_default-setpgid_refusal.ensures ∙ ap (setpgid_refusal c.args.bag.now w c.args.target) back ∙ sym (refusal_seen by.pid by.group c.args.bag.now w c.args.target c.args.group))
    (c.named_group-new.ensures ∙ ap (named_group w c.args.target) back) (c.in-Some-target_in.ensures ∙ ap (target_in c.args.bag.now w) c.target_pid.ensures)
    (from_group settled c.unchanged-then-eq.new.bag by.pid c.args.target c.args.group u new (Some old.0) c.unchanged-then-eq.result old.1
    (same_group settled c.unchanged-then-eq.new.bag by.pid c.args.target c.args.group u old.0 new c.unchanged-then-eq.result (sym c.eq.ensures ∙ c.if-eq.true) (c.unchanged-then-eq.ensures (Setpgid c.args.target c.args.group))))

pub returns-clause-ok : goal.returns-clause-ok
returns-clause-ok c = λ v there.
    let by = c.args.by in
    let settled = group_settled by.pid by.group c.args.bag.now in
    let w = c.in-Some.v.now in
    let u = c.in-Some-target_in.u.now in
    let new = c.named_group-new.result in
    let fits : SFits w64 c.args.group = search rules in
    let back = to_z-of_z w64 c.args.group fits in
    let kept : is_some (group_in c.args.bag.now u.group) ≡ true = ap is_some (sym c.group.ensures) ∙ copied_is_some c.group.result ∙ c.is_none.ensures ∙ ap not c.if-is_none.false in
    let old = group_seen_there by.pid by.group c.args.bag.now u.group kept in
    setpgid_as settled c.move_in.new.bag by.pid v w c.args.target c.args.group new (Some u) _ c.in-Some.ensures there
    (c.in_default-setpgid_refusal.ensures ∙ ap (setpgid_refusal c.args.bag.now w c.args.target) back ∙ sym (refusal_seen by.pid by.group c.args.bag.now w c.args.target c.args.group))
    (c.named_group-new.ensures ∙ ap (named_group w c.args.target) back) (c.in-Some-target_in.ensures ∙ ap (target_in c.args.bag.now w) c.target_pid.ensures)
    (from_group settled c.move_in.new.bag by.pid c.args.target c.args.group u new (Some old.0) _ old.1
    (other_group settled c.move_in.new.bag by.pid c.args.target c.args.group u old.0 new _ (sym c.eq.ensures ∙ c.if-eq.false)
    (moves settled c.move_in.new.bag by.pid (Setpgid c.args.target c.args.group) _ u old.0 (in_session (record { group = new; session = u.session })) c.in_ok-nudges.nudges c.in_ok-nudges.ensures (c.in_ok-move_in.ensures.ok u old.0 c.in_ok-mover.ensures.mover old.1))))
