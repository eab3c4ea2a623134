use Rattle.std.proofs.Common.{◌∙◌, ap, sym, subst, IsSome}
use Rattle.list_laws.proofs.Filters.{some_same}
use Rattle.vproc_record.specs.declared.Vproc.{Vproc}
use Rattle.ordered_table.specs.Entries.{value_at}
use Rattle.decide_law.specs.Effects.{settled_in}
use Rattle.decide_law.proofs.Appended.{vproc_kept, group_kept, append_whole, appended, after_held, after_within}
use Rattle.decide_law.proofs.append.settle_and_append.Goals as goal

pub empty_backlog-requires : goal.empty_backlog-requires
empty_backlog-requires c = vproc_kept c.args.own.now c.args.pid c.args.id c.args.entry c.args.bag.now _ c.requires.base c.in_ok-append_in.ensures.ok

pub begin_in-requires : goal.begin_in-requires
begin_in-requires c =
    let b = c.requires.base in
    subst (λ gs. IsSome (value_at gs c.fold_in-end.result.0)) (sym c.empty_backlog.ensures.groups)
    (group_kept c.args.own.now c.args.pid c.args.id c.fold_in-end.result.0 c.args.entry c.args.bag.now c.append_in.new.bag b (c.fold_in-end.ensures b.vproc b.group b.vproc_is b.group_is).1 c.in_ok-append_in.ensures.ok)

pub returns-clause-bag : goal.returns-clause-bag
returns-clause-bag c = λ v here.
    let b = c.requires.base in
    let at = c.fold_in-end.ensures b.vproc b.group b.vproc_is b.group_is in
    append_whole c.args.own.now c.args.pid c.args.id c.fold_in-end.result.0 c.fold_in-end.result.1 c.args.entry c.args.bag.now c.append_in.new.bag c.empty_backlog.new.bag c.begin_in.new.bag b c.groups_rise.ensures at.1 at.2 c.in_ok-append_in.ensures.ok c.empty_backlog.ensures.bag c.begin_in.ensures.bag
    ∙ ap (λ (u : Vproc). appended c.args.id c.args.entry (settled_in c.args.pid u.group c.args.bag.now)) (some_same _ _ (some_same _ _ (sym b.vproc_is ∙ here)))

pub returns-clause-held : goal.returns-clause-held
returns-clause-held c =
    let b = c.requires.base in
    after_held c.args.own.now c.args.pid c.args.id c.fold_in-end.result.0 c.args.entry c.args.bag.now c.begin_in.new.bag b (c.fold_in-end.ensures b.vproc b.group b.vproc_is b.group_is).1 (returns-clause-bag c b.vproc b.vproc_is)

pub returns-clause-within : goal.returns-clause-within
returns-clause-within c =
    let b = c.requires.base in
    after_within c.args.own.now c.args.pid c.args.id c.fold_in-end.result.0 c.args.entry c.args.bag.now c.begin_in.new.bag b (c.fold_in-end.ensures b.vproc b.group b.vproc_is b.group_is).1 (returns-clause-bag c b.vproc b.vproc_is)
