use Rattle.std.proofs.Common.{length, refl}
use Rattle.std.proofs.lemmas.Option.{slice_get_read, slice_get_past}
use Rattle.cluster_core.proofs.Oks.{on_ok}
use Rattle.cluster_core.proofs.Sending.{one_delivered, none_there}
use Rattle.cluster_core.proofs.cluster.arrive.Goals as goal

pub returns-in-Some : goal.returns-in-Some
returns-in-Some g c =
    let m = c.args.sent in
    let place = c.in-Some.place.now in
    on_ok c.put.result _ _
    (one_delivered c.args.from c.args.places.now.items m place c.put.new.self (slice_get_read c.args.places.now.items (length c.args.places.now.items) m.to place refl (c.in-Some.ensures.item.3).0 c.in-Some.ensures.value))
    c.put.ensures.ok

pub returns-in-None : goal.returns-in-None
returns-in-None g c = none_there c.args.from c.args.places.now.items c.args.sent (slice_get_past c.args.places.now.items c.args.sent.to c.in-None.ensures.item.3)
