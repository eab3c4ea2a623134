use Rattle.std.proofs.Common.{◌≡◌, ◌<◌, ℕ, [], None, Some, length, refl, sym, ap, ◌∙◌, subst}
use Rattle.std.specs.Prelude.{slice_get, slice_index}
use Rattle.std.specs.Option.{option_map}
use Rattle.std.proofs.lemmas.Option.{slice_get_read}
use Rattle.node_state.specs.declared.State.{State}
use Rattle.node_state.specs.Wires.{one_taken}
use Rattle.node_core.specs.Advance.{is_advanced}
use Rattle.node_core.specs.Turns.{arriving, came}
use Rattle.node_core.specs.Views.{TakeRefuses}
use Rattle.unix_calls.specs.declared.Turn.TheVariants.{Take}
use Rattle.cluster_state.specs.Cluster.{with_wire, took, turned_at}
use Rattle.turn_laws.specs.Numbers.{AreNumbered}
use Rattle.cluster_laws.specs.Turns.{question_fits}
use Rattle.cluster_core.proofs.Asking.{sets_out_wider, sets_out_shown}
use Rattle.cluster_core.proofs.Reached.{can_be_made}
use Rattle.cluster_core.proofs.Making.{stepped_shows, stepped_made, has_wire}
use Rattle.cluster_core.proofs.Taking.{HeadTaken, head_taken}
use Rattle.cluster_core.proofs.cluster.take.Goals as goal

pub take-requires-2 : goal.take-requires-2
take-requires-2 g c runs next =
    let shown = c.requires.shown in
    let world = c.args.world.now in
    let places = c.args.places.now.items in
    let place = c.in-Some.place.now in
    let k = c.args.k in
    let from = c.args.from in
    let here : slice_get places k ≡ Some place = slice_get_read places (length places) k place refl (c.in-Some.ensures.item.3).0 c.in-Some.ensures.value in
    let h : HeadTaken world.nodes shown.cluster k from c.in-Some-take.sent place.arrivals c.take.new.self =
    head_taken world.nodes shown.cluster k from c.in-Some-take.sent place.arrivals c.take.new.self (c.requires.shows.arrivals k place here) c.in-Some-take.ensures.some c.in-Some-take.ensures.others in
    let lt : k < world.nodes = subst (λ (n : ℕ). k < n) c.requires.shows.many (c.in-Some.ensures.item.3).0 in
    sets_out_shown g.O.OpVector.fits g.O.OpVector.answer world shown.ops (shown.cluster.nodes k) place.node (λ s. arriving (one_taken s from) c.in-Some-take.sent.message) (c.requires.shows.node k place here)
    (sets_out_wider question_fits (g.O.OpVector.fits shown.ops) (can_be_made c.requires).decides.asked world (g.O.OpVector.answer shown.ops) (arriving (one_taken (shown.cluster.nodes k) from) c.in-Some-take.sent.message)
    ((can_be_made c.requires).turns.takes k from c.in-Some-take.sent h.rest lt h.inside h.wire))

pub deliver-requires : goal.deliver-requires
deliver-requires g c =
    let world = c.args.world.now in
    let places = c.args.places.now.items in
    let place = c.in-Some.place.now in
    let k = c.args.k in
    let from = c.args.from in
    let here : slice_get places k ≡ Some place = slice_get_read places (length places) k place refl (c.in-Some.ensures.item.3).0 c.in-Some.ensures.value in
    let h : HeadTaken world.nodes c.requires.shown.cluster k from c.in-Some-take.sent place.arrivals c.take.new.self =
    head_taken world.nodes c.requires.shown.cluster k from c.in-Some-take.sent place.arrivals c.take.new.self (c.requires.shows.arrivals k place here) c.in-Some-take.ensures.some c.in-Some-take.ensures.others in
    has_wire g.O.OpVector.answer world c.requires.shown k places places place c.requires.shown.cluster c.take-2.new.self c.take.new.self None [] c.requires.shows here h.shows.many

pub unreachable-requires : goal.unreachable-requires
unreachable-requires g c =
    let world = c.args.world.now in
    let places = c.args.places.now.items in
    let place = c.in-Some.place.now in
    let k = c.args.k in
    let from = c.args.from in
    let here : slice_get places k ≡ Some place = slice_get_read places (length places) k place refl (c.in-Some.ensures.item.3).0 c.in-Some.ensures.value in
    let lt : k < world.nodes = subst (λ (n : ℕ). k < n) c.requires.shows.many (c.in-Some.ensures.item.3).0 in
    let h : HeadTaken world.nodes c.requires.shown.cluster k from c.in-Some-take.sent place.arrivals c.take.new.self =
    head_taken world.nodes c.requires.shown.cluster k from c.in-Some-take.sent place.arrivals c.take.new.self (c.requires.shows.arrivals k place here) c.in-Some-take.ensures.some c.in-Some-take.ensures.others in
    let r = subst (λ r. TakeRefuses r from c.in-Some-take.sent.number place.node c.take-2.new.self) c.in-Err-NotNext.field-0-is c.in-Err-NotNext.ensures.refused in
    let n = c.requires.shows.node k place here in
    let a = (can_be_made c.requires).expected from k h.inside lt in
    let numbered = subst (AreNumbered (slice_index (c.requires.shown.cluster.nodes k).taken from)) h.wire a.numbers in
    r.2 (numbered.0 ∙ ap (λ (s : State). slice_index s.taken from) (sym n.state_is) ∙ sym r.0)

pub returns-in_ok-deliver-in-Ok : goal.returns-in_ok-deliver-in-Ok
returns-in_ok-deliver-in-Ok g c at =
    let shown = at.shown in
    let world = c.args.world.now in
    let places = c.args.places.now.items in
    let place = c.in-Some.place.now in
    let k = c.args.k in
    let from = c.args.from in
    let node = c.take-2.new.self in
    let entry = c.in-Ok.out.entry in
    let sends = c.in-Ok.out.sends in
    let m = c.in-Some-take.sent in
    let here : slice_get places k ≡ Some place = slice_get_read places (length places) k place refl (c.in-Some.ensures.item.3).0 c.in-Some.ensures.value in
    let lt : k < world.nodes = subst (λ (n : ℕ). k < n) at.shows.many (c.in-Some.ensures.item.3).0 in
    let h : HeadTaken world.nodes shown.cluster k from m place.arrivals c.take.new.self =
    head_taken world.nodes shown.cluster k from m place.arrivals c.take.new.self (at.shows.arrivals k place here) c.in-Some-take.ensures.some c.in-Some-take.ensures.others in
    let n = at.shows.node k place here in
    let ok = c.in-Ok.ensures.ok in
    let C = with_wire shown.cluster from k h.rest in
    let e : came world (g.O.OpVector.answer shown.ops) ok.0 (one_taken (shown.cluster.nodes k) from) m.message ≡ Some (is_advanced (record node.state { out = sends }) entry) =
    ap (λ (o : _). came world (g.O.OpVector.answer o) ok.0 (one_taken (shown.cluster.nodes k) from) m.message) (sym n.ops_is)
    ∙ ap (λ (s : State). came world (g.O.OpVector.answer place.node.ops) ok.0 (one_taken s from) m.message) (sym n.state_is)
    ∙ ok.1.0 in
    stepped_made g.O.OpVector.answer world shown k places c.deliver.new.places.items place C node c.take.new.self entry sends (Take k from) ok.0 (lt, h.inside)
    (ap (took world (g.O.OpVector.answer shown.ops) ok.0 shown.cluster k from) h.wire ∙ ap (option_map (turned_at C k)) e)
    (stepped_shows g.O.OpVector.answer world shown k places c.deliver.new.places.items place C node c.take.new.self entry sends at.shows here (λ l. refl) (λ i l ne. h.others i l ne) h.shows
    (c.in-Ok.ensures.ops ∙ n.ops_is) c.in-Ok.ensures.running ok.1.1 c.in_ok-deliver-in-Ok.ensures)
