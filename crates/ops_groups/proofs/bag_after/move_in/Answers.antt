use Rattle.std.proofs.Common.{List, ◌∙◌, ap}
use Rattle.unix_names.specs.declared.Pid.{Pid}
use Rattle.group_record.specs.declared.Group.{Group}
use Rattle.record_bag.specs.Bags.{group_in}
use Rattle.decide_law.specs.Effects.{only, settled_for}
use Rattle.ops_groups.specs.MethodMove.{in_session, counts_by_group, joined_bag, group_settled}
use Rattle.ops_groups.specs.declared.mover.Mover.{Mover}
use Rattle.ops_groups.proofs.MovedCode.{some_there, settled_counted, joined_counted, counts_each, counts_settled, in_order, old_settled, moved_is}
use Rattle.ops_groups.proofs.bag_after.move_in.Goals as goal

pub regroup-requires-clause-counted : goal.regroup-requires-clause-counted
regroup-requires-clause-counted c =
    let by = c.args.by in
    let old = some_there (group_in c.args.bag.now c.args.m.now.group) c.requires.old in
    joined_counted (group_settled by.pid by.group c.args.bag.now) c.settle_group.new.bag c.args.m.now (only by.group (settled_for by.pid) c.args.m.now.group old.0) (in_session c.args.to) (settled_counted by.pid by.group c.args.bag.now c.requires.counted)
    (in_order by.pid by.group c.args.bag.now c.join.new.bag c.settle_group.new.bag c.args.m.now (only by.group (settled_for by.pid) c.args.m.now.group old.0) (in_session c.args.to) (c.in_ok-join.ensures.ok old.0 old.1) c.settle_group.ensures)

pub regroup-requires-clause-each : goal.regroup-requires-clause-each
regroup-requires-clause-each c =
    let by = c.args.by in
    let old = some_there (group_in c.args.bag.now c.args.m.now.group) c.requires.old in
    counts_each (group_settled by.pid by.group c.args.bag.now) c.settle_group.new.bag c.args.m.now.near c.args.m.now (only by.group (settled_for by.pid) c.args.m.now.group old.0) (in_session c.args.to) c.in_ok-before.before c.as_slice-2.result.now
    (c.in_ok-before.ensures ∙ ap (λ (near : List Pid). counts_by_group c.args.bag.now near c.args.bag.now.groups) c.as_slice.ensures ∙ counts_settled by.pid by.group c.args.bag.now c.args.m.now.near) c.as_slice-2.ensures
    (in_order by.pid by.group c.args.bag.now c.join.new.bag c.settle_group.new.bag c.args.m.now (only by.group (settled_for by.pid) c.args.m.now.group old.0) (in_session c.args.to) (c.in_ok-join.ensures.ok old.0 old.1) c.settle_group.ensures)

pub returns-clause-ok : goal.returns-clause-ok
returns-clause-ok c = λ u settled_old is there.
    let by = c.args.by in
    let old = some_there (group_in c.args.bag.now c.args.m.now.group) c.requires.old in
    let old_is = old_settled by.pid by.group c.args.bag.now c.args.m.now.group u.group old.0 settled_old (ap (λ (m : Mover). m.group) is) old.1 there in
    moved_is (group_settled by.pid by.group c.args.bag.now) c.settle_group.new.bag c.regroup.new.bag c.args.m.now u settled_old (in_session c.args.to) c.in_ok-before.before c.as_slice-2.result.now is
    (c.in_ok-before.ensures ∙ ap (λ (near : List Pid). counts_by_group c.args.bag.now near c.args.bag.now.groups) c.as_slice.ensures ∙ counts_settled by.pid by.group c.args.bag.now c.args.m.now.near) c.as_slice-2.ensures
    (in_order by.pid by.group c.args.bag.now c.join.new.bag c.settle_group.new.bag c.args.m.now (only by.group (settled_for by.pid) c.args.m.now.group old.0) (in_session c.args.to) (c.in_ok-join.ensures.ok old.0 old.1) c.settle_group.ensures
    ∙ ap (λ (g : Group). joined_bag (group_settled by.pid by.group c.args.bag.now) c.args.m.now g (in_session c.args.to)) old_is)
    c.regroup.ensures
