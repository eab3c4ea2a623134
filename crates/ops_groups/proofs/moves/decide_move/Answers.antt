use Rattle.std.proofs.Common.{◌∙◌, IsSome, refl, sym, ap, subst}
use Rattle.vproc_record.specs.declared.Vproc.{Vproc}
use Rattle.decide_law.specs.Effects.{emptied}
use Rattle.decide_law.proofs.NeedParts.{call_asks}
use Rattle.decide_law.proofs.PutBack.{base_settled, base_within}
use Rattle.ops_groups.specs.Decide.{effect_of}
use Rattle.ops_groups.specs.MethodMove.{group_settled}
use Rattle.ops_groups.proofs.ChangeCode.{half_record, same_record, both_halves, carried_is, names_by, move_whole}
use Rattle.ops_groups.proofs.moves.decide_move.Goals as goal

pub returns-then-not-is_none-clause-answer : goal.returns-then-not-is_none-clause-answer
returns-then-not-is_none-clause-answer c =
    let b = c.requires.base in
    call_asks c.args.call.now (effect_of c.args.call.now) c.args.pid c.args.own.now c.args.bag.now b.vproc b.group c.in_ok-names.names b.vproc_is b.group_is
    (names_by c.args.call.now c.args.pid c.args.bag.now c.in-Some.v.now b.vproc c.in_ok-names.names c.in-Some.ensures b.vproc_is c.in_ok-names.ensures) (sym c.is_none.ensures ∙ c.if-not-is_none.true)

pub change_by-requires-clause-there : goal.change_by-requires-clause-there
change_by-requires-clause-there c =
    let b = c.requires.base in
    subst IsSome (sym (half_record c.args.pid c.args.bag.now c.take_backlog-backlog.new.bag b.vproc b.vproc_is c.take_backlog-backlog.ensures.bag)) refl

pub finish-requires-clause-held : goal.finish-requires-clause-held
finish-requires-clause-held c =
    let b = c.requires.base in
    let half = c.take_backlog-backlog.new.bag in
    let id = c.in-Some.v.now.group in
    let made = c.in-Ok.ensures.ok (emptied b.vproc) (half_record c.args.pid c.args.bag.now half b.vproc b.vproc_is c.take_backlog-backlog.ensures.bag) c.args.own.now.sig in
    made.held id
    (subst IsSome (sym (base_settled c.args.own.now c.args.pid id c.args.bag.now (group_settled c.args.pid id half) b (ap (λ (v : Vproc). v.group) (same_record c.args.pid c.args.bag.now c.in-Some.v.now b.vproc c.in-Some.ensures b.vproc_is))
    (both_halves c.args.pid c.args.bag.now half c.in-Some.v.now b.vproc c.in-Some.ensures b.vproc_is c.take_backlog-backlog.ensures.bag))) refl)

pub finish-requires-clause-within : goal.finish-requires-clause-within
finish-requires-clause-within c =
    let b = c.requires.base in
    let half = c.take_backlog-backlog.new.bag in
    let id = c.in-Some.v.now.group in
    let made = c.in-Ok.ensures.ok (emptied b.vproc) (half_record c.args.pid c.args.bag.now half b.vproc b.vproc_is c.take_backlog-backlog.ensures.bag) c.args.own.now.sig in
    made.within id
    (base_within c.args.own.now c.args.pid id c.args.bag.now (group_settled c.args.pid id half) b (ap (λ (v : Vproc). v.group) (same_record c.args.pid c.args.bag.now c.in-Some.v.now b.vproc c.in-Some.ensures b.vproc_is))
    (both_halves c.args.pid c.args.bag.now half c.in-Some.v.now b.vproc c.in-Some.ensures b.vproc_is c.take_backlog-backlog.ensures.bag))

pub returns-in-Ok-clause-answer : goal.returns-in-Ok-clause-answer
returns-in-Ok-clause-answer c =
    let b = c.requires.base in
    let half = c.take_backlog-backlog.new.bag in
    let id = c.in-Some.v.now.group in
    move_whole c.args.call.now c.args.pid id c.args.own.now c.in-Some-folded.carried c.args.bag.now (group_settled c.args.pid id half) c.change_by.new.bag c.finish.new.bag b c.in_ok-names.names c.in-Ok.change c.finish.result
    (names_by c.args.call.now c.args.pid c.args.bag.now c.in-Some.v.now b.vproc c.in_ok-names.names c.in-Some.ensures b.vproc_is c.in_ok-names.ensures) (sym c.is_none.ensures ∙ c.if-not-is_none.false)
    (ap (λ (v : Vproc). v.group) (same_record c.args.pid c.args.bag.now c.in-Some.v.now b.vproc c.in-Some.ensures b.vproc_is))
    (both_halves c.args.pid c.args.bag.now half c.in-Some.v.now b.vproc c.in-Some.ensures b.vproc_is c.take_backlog-backlog.ensures.bag)
    (carried_is c.args.own.now c.in-Some-folded.carried c.args.pid c.args.bag.now b c.in-Some-folded.ensures)
    (c.in-Ok.ensures.ok (emptied b.vproc) (half_record c.args.pid c.args.bag.now half b.vproc b.vproc_is c.take_backlog-backlog.ensures.bag)) c.finish.ensures.bag c.finish.ensures.outcome
