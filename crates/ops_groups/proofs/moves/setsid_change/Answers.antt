use Rattle.std.proofs.Common.{◌∙◌, ◌≡◌, true, false, None, Some, refl, sym, ap}
use Rattle.std.specs.Prelude.{is_some, not}
use Rattle.unix_calls.specs.declared.Call.TheVariants.{Setsid}
use Rattle.record_bag.specs.Bags.{group_in}
use Rattle.ops_groups.specs.MethodMove.{in_session, group_settled}
use Rattle.ops_groups.proofs.ChangeCode.{setsid_as, moves, some_seen, none_seen, group_seen_there, copied_is_some}
use Rattle.ops_groups.proofs.moves.setsid_change.Goals as goal

pub returns-then-is_some-clause-ok : goal.returns-then-is_some-clause-ok
returns-then-is_some-clause-ok c = λ v there.
    let by = c.args.by in
    let is : is_some (group_in c.args.bag.now c.in-Some.v.now.pid) ≡ true = ap is_some (sym c.group.ensures) ∙ copied_is_some c.group.result ∙ sym c.is_some.ensures ∙ c.if-is_some.true in
    setsid_as (group_settled by.pid by.group c.args.bag.now) c.unchanged.new.bag by.pid v c.in-Some.v.now true _ c.unchanged.result c.in-Some.ensures there (some_seen by.pid by.group c.args.bag.now c.in-Some.v.now.pid ∙ is) refl (c.unchanged.ensures Setsid)

pub returns-then-is_none-clause-ok : goal.returns-then-is_none-clause-ok
returns-then-is_none-clause-ok c = λ v there.
    let by = c.args.by in
    let w = c.in-Some.v.now in
    let is : is_some (group_in c.args.bag.now w.pid) ≡ false = ap is_some (sym c.group.ensures) ∙ copied_is_some c.group.result ∙ sym c.is_some.ensures ∙ c.if-is_some.false in
    let none : is_some (group_in c.args.bag.now w.group) ≡ false = ap is_some (sym c.group-2.ensures) ∙ copied_is_some c.group-2.result ∙ c.is_none.ensures ∙ ap not c.if-is_none.true in
    setsid_as (group_settled by.pid by.group c.args.bag.now) c.unchanged-then-is_none.new.bag by.pid v w false None c.unchanged-then-is_none.result c.in-Some.ensures there (some_seen by.pid by.group c.args.bag.now w.pid ∙ is) (none_seen by.pid by.group c.args.bag.now w.group none) (c.unchanged-then-is_none.ensures Setsid)

pub returns-clause-ok : goal.returns-clause-ok
returns-clause-ok c = λ v there.
    let by = c.args.by in
    let w = c.in-Some.v.now in
    let is : is_some (group_in c.args.bag.now w.pid) ≡ false = ap is_some (sym c.group.ensures) ∙ copied_is_some c.group.result ∙ sym c.is_some.ensures ∙ c.if-is_some.false in
    let kept : is_some (group_in c.args.bag.now w.group) ≡ true = ap is_some (sym c.group-2.ensures) ∙ copied_is_some c.group-2.result ∙ c.is_none.ensures ∙ ap not c.if-is_none.false in
    let old = group_seen_there by.pid by.group c.args.bag.now w.group kept in
    setsid_as (group_settled by.pid by.group c.args.bag.now) c.move_in.new.bag by.pid v w false (Some old.0) _ c.in-Some.ensures there (some_seen by.pid by.group c.args.bag.now w.pid ∙ is) old.1
    (moves (group_settled by.pid by.group c.args.bag.now) c.move_in.new.bag by.pid Setsid _ w old.0 (in_session (record { group = w.pid; session = w.pid })) c.in_ok-nudges.nudges c.in_ok-nudges.ensures (c.in_ok-move_in.ensures.ok w old.0 c.in_ok-mover.ensures.mover old.1))
