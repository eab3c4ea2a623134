use Rattle.std.proofs.Common.{◌∙◌, List, [], Some, sym, ap}
use Rattle.unix_names.specs.declared.Name.{Name}
use Rattle.unix_calls.specs.declared.Call.{Call}
use Rattle.unix_calls.specs.declared.Reply.{Reply}
use Rattle.unix_calls.specs.declared.Entry.TheVariants.{Called}
use Rattle.unix_calls.specs.declared.Phase.TheVariants as phase
use Rattle.record_bag.specs.Bags.{present}
use Rattle.decide_law.specs.Effects.{quiet, folded, done_by}
use Rattle.decide_law.specs.MethodNeeds.{wanted}
use Rattle.decide_law.proofs.NeedParts.{call_asks, call_held}
use Rattle.ops_groups.specs.Lookups.{column_call, look_effect}
use Rattle.ops_groups.proofs.LookCode.{look_settled, look_needs}
use Rattle.ops_groups.proofs.lookups.decide_look.Goals as goal

pub returns-then-not-is_none-clause-answer : goal.returns-then-not-is_none-clause-answer
returns-then-not-is_none-clause-answer c =
    let b = c.requires in
    let needs = ap (λ (names : List Name). wanted c.args.bag.now names []) (look_needs c.args.column c.args.bag.now b.vproc c.args.target) in
    call_asks (column_call c.args.column c.args.target) (look_effect c.args.column c.args.target) c.args.pid c.args.own.now c.args.bag.now b.vproc b.group _ b.vproc_is b.group_is (c.in_ok-names.ensures ∙ needs) (sym c.is_none.ensures ∙ c.if-not-is_none.true)

pub returns-clause-answer : goal.returns-clause-answer
returns-clause-answer c =
    let b = c.requires in
    let needs = ap (λ (names : List Name). wanted c.args.bag.now names []) (look_needs c.args.column c.args.bag.now b.vproc c.args.target) in
    c.done_quiet.ensures b.vproc b.group b.vproc_is b.group_is
    ∙ ap (λ (call : Call). done_by c.args.pid b.vproc c.args.bag.now (quiet (Some (Called c.args.pid call c.look_reply-reply.result)) (folded c.args.own.now b.vproc b.group).sig phase.Ready)) c.call-call.ensures
    ∙ ap (λ (reply : Reply). done_by c.args.pid b.vproc c.args.bag.now (quiet (Some (Called c.args.pid (column_call c.args.column c.args.target) reply)) (folded c.args.own.now b.vproc b.group).sig phase.Ready))
    (c.look_reply-reply.ensures b.vproc (ap present b.vproc_is) ∙ sym (look_settled c.args.column c.args.pid b.vproc.group c.args.bag.now b.vproc c.args.target))
    ∙ call_held (column_call c.args.column c.args.target) (look_effect c.args.column c.args.target) c.args.pid c.args.own.now c.args.bag.now b.vproc b.group _ b.vproc_is b.group_is (c.in_ok-names.ensures ∙ needs) (sym c.is_none.ensures ∙ c.if-not-is_none.false)
