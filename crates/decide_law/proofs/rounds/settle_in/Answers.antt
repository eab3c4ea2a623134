use Rattle.std.proofs.Common.{◌∙◌, IsSome, refl, sym, ap, subst}
use Rattle.list_laws.proofs.Filters.{some_same}
use Rattle.vproc_record.specs.declared.Vproc.{Vproc}
use Rattle.record_bag.specs.Bags.{present}
use Rattle.decide_law.proofs.PutBack.{settled_lent, base_settled, base_emptied, base_within}
use Rattle.decide_law.proofs.rounds.settle_in.Goals as goal

pub returns-clause-bag : goal.returns-clause-bag
returns-clause-bag c = λ u here.
    let base = c.requires.base in
    let same = some_same _ _ (c.in-Some.ensures.value ∙ ap present base.vproc_is) in
    settled_lent c.args.bag.now c.args.pid u c.in-Some.v.now _ c.in-Some-record_mut.g.now _ c.record_mut.ensures.rising c.record_mut-2.ensures.rising c.in-Some.ensures.value c.in-Some-record_mut.ensures.value (ap (λ (v : Vproc). v.pid) same ∙ base.pid)
    c.fold_and_settle.ensures.process c.fold_and_settle.ensures.group here

pub returns-clause-held : goal.returns-clause-held
returns-clause-held c =
    let base = c.requires.base in
    let same = some_same _ _ (c.in-Some.ensures.value ∙ ap present base.vproc_is) in
    subst IsSome (sym (base_settled c.args.own.now c.args.pid _ c.args.bag.now _ base (ap (λ (v : Vproc). v.group) same) (returns-clause-bag c base.vproc base.vproc_is))) refl

pub returns-clause-within : goal.returns-clause-within
returns-clause-within c =
    let base = c.requires.base in
    let same = some_same _ _ (c.in-Some.ensures.value ∙ ap present base.vproc_is) in
    base_within c.args.own.now c.args.pid _ c.args.bag.now _ base (ap (λ (v : Vproc). v.group) same) (returns-clause-bag c base.vproc base.vproc_is)

pub returns-clause-vproc : goal.returns-clause-vproc
returns-clause-vproc c = let base = c.requires.base in subst IsSome (sym (base_emptied c.args.own.now c.args.pid c.args.bag.now _ base (returns-clause-bag c base.vproc base.vproc_is))) refl
