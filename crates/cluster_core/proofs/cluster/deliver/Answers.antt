use Rattle.std.proofs.Common.{rules, ◌∷◌, [], List, sym, ◌∙◌, subst}
use Rattle.std.proofs.lemmas.Iterator.Consumers.{YieldsList-end}
use Rattle.std.proofs.lemmas.Iterator.Adapters.{YieldsList-from_vec}
use Rattle.list_laws.proofs.Filters.{map-id}
use Rattle.node_state.specs.declared.Sent.{Sent}
use Rattle.cluster_core.specs.MethodShows.{AreDelivered}
use Rattle.cluster_core.proofs.Sending.{nothing_delivered, both_delivered, wires_stay}
use Rattle.cluster_core.proofs.cluster.deliver.Goals as goal

pub loop-sent-init : goal.loop-sent-init
loop-sent-init g c = nothing_delivered c.args.from c.args.places.now.items

pub arrive-requires : goal.arrive-requires
arrive-requires g c = wires_stay c.args.from c.args.places.now.items c.loop-sent.places.items c.loop-sent.yielded c.requires c.loop-sent.invariant

pub loop-sent-preserved : goal.loop-sent-preserved
loop-sent-preserved g c = both_delivered c.args.from c.args.places.now.items c.loop-sent.places.items c.arrive.new.places.items c.loop-sent.yielded (c.in-Some.sent ∷ []) c.requires c.loop-sent.invariant c.in_ok-arrive.ensures

pub returns : goal.returns
returns g c =
    let t = YieldsList-end (YieldsList-from_vec {s = c.into_iter-sent-iterator.result} c.args.sends (search rules) (search rules)) c.loop-sent.yielded c.loop-sent.sent-iterator c.loop-sent.yielded_by c.next.result c.next.new.self c.in-None.is c.next.ensures.steps in
    subst (λ (ys : List Sent). AreDelivered c.args.from ys c.args.places.now.items c.loop-sent.places.items) (sym (map-id c.loop-sent.yielded) ∙ t.0) c.loop-sent.invariant
