use Rattle.std.proofs.Common.{◌≡◌, ◌<◌, nat_lt, ℕ, [], None, Some, length, refl, sym, ap, ◌∙◌, subst}
use Rattle.std.specs.Prelude.{slice_get}
use Rattle.std.specs.Option.{option_map}
use Rattle.std.proofs.lemmas.Option.{slice_get_read}
use Rattle.node_state.specs.declared.State.{State}
use Rattle.node_core.specs.Advance.{is_advanced}
use Rattle.node_core.specs.Turns.{going, led}
use Rattle.node_core.specs.Views.{GoRefuses}
use Rattle.cluster_state.specs.Cluster.{turned_at}
use Rattle.cluster_state.specs.Run.{has_any}
use Rattle.cluster_laws.specs.Turns.{question_fits}
use Rattle.unix_calls.specs.declared.Turn.TheVariants.{Go}
use Rattle.cluster_core.proofs.Asking.{sets_out_wider, sets_out_shown}
use Rattle.cluster_core.proofs.Reached.{can_be_made}
use Rattle.cluster_core.proofs.Making.{stepped_shows, stepped_made, has_wire, put_back_shows, right_idle}
use Rattle.cluster_core.proofs.cluster.go.Goals as goal

pub go-requires : goal.go-requires
go-requires g c runs =
    let shown = c.requires.shown in
    let places = c.args.places.now.items in
    let place = c.in-Some.place.now in
    let here : slice_get places c.args.k ≡ Some place = slice_get_read places (length places) c.args.k place refl (c.in-Some.ensures.item.3).0 c.in-Some.ensures.value in
    let lt : c.args.k < c.args.world.now.nodes = subst (λ (n : ℕ). c.args.k < n) c.requires.shows.many (c.in-Some.ensures.item.3).0 in
    sets_out_shown g.O.OpVector.fits g.O.OpVector.answer c.args.world.now shown.ops (shown.cluster.nodes c.args.k) place.node (going c.args.world.now) (c.requires.shows.node c.args.k place here)
    (sets_out_wider question_fits (g.O.OpVector.fits shown.ops) (can_be_made c.requires).decides.asked c.args.world.now (g.O.OpVector.answer shown.ops) (going c.args.world.now (shown.cluster.nodes c.args.k)) ((can_be_made c.requires).turns.goes c.args.k lt))

pub deliver-requires : goal.deliver-requires
deliver-requires g c =
    let places = c.args.places.now.items in
    let place = c.in-Some.place.now in
    let here : slice_get places c.args.k ≡ Some place = slice_get_read places (length places) c.args.k place refl (c.in-Some.ensures.item.3).0 c.in-Some.ensures.value in
    has_wire g.O.OpVector.answer c.args.world.now c.requires.shown c.args.k places places place c.requires.shown.cluster c.go.new.self place.arrivals None [] c.requires.shows here (c.requires.shows.arrivals c.args.k place here).many

pub returns-in_ok-deliver-in-Ok : goal.returns-in_ok-deliver-in-Ok
returns-in_ok-deliver-in-Ok g c at =
    let shown = at.shown in
    let world = c.args.world.now in
    let places = c.args.places.now.items in
    let place = c.in-Some.place.now in
    let k = c.args.k in
    let node = c.go.new.self in
    let entry = c.in-Ok.out.entry in
    let sends = c.in-Ok.out.sends in
    let here : slice_get places k ≡ Some place = slice_get_read places (length places) k place refl (c.in-Some.ensures.item.3).0 c.in-Some.ensures.value in
    let lt : k < world.nodes = subst (λ (n : ℕ). k < n) at.shows.many (c.in-Some.ensures.item.3).0 in
    let n = at.shows.node k place here in
    let ok = c.in-Ok.ensures.ok in
    let e : led world (g.O.OpVector.answer shown.ops) ok.0 (going world (shown.cluster.nodes k)) ≡ Some (is_advanced (record node.state { out = sends }) entry) =
    ap (λ (o : _). led world (g.O.OpVector.answer o) ok.0 (going world (shown.cluster.nodes k))) (sym n.ops_is)
    ∙ ap (λ (s : State). led world (g.O.OpVector.answer place.node.ops) ok.0 (going world s)) (sym n.state_is)
    ∙ ok.1.0 in
    stepped_made g.O.OpVector.answer world shown k places c.deliver.new.places.items place shown.cluster node place.arrivals entry sends (Go k) ok.0 lt
    (ap (option_map (turned_at shown.cluster k)) e)
    (stepped_shows g.O.OpVector.answer world shown k places c.deliver.new.places.items place shown.cluster node place.arrivals entry sends at.shows here (λ l. refl) (λ from l ne. refl) (at.shows.arrivals k place here)
    (c.in-Ok.ensures.ops ∙ n.ops_is) c.in-Ok.ensures.running ok.1.1 c.in_ok-deliver-in-Ok.ensures)

pub returns-in-Err-Idle : goal.returns-in-Err-Idle
returns-in-Err-Idle g c at =
    let places = c.args.places.now.items in
    let place = c.in-Some.place.now in
    let here : slice_get places c.args.k ≡ Some place = slice_get_read places (length places) c.args.k place refl (c.in-Some.ensures.item.3).0 c.in-Some.ensures.value in
    let n = at.shows.node c.args.k place here in
    let refused = subst (λ r. GoRefuses r place.node c.go.new.self) c.in-Err-Idle.field-0-is c.in-Err-Idle.ensures.refused in (
      right_idle (nat_lt c.args.k c.args.world.now.nodes) (has_any (at.shown.cluster.nodes c.args.k).ready) (ap (λ (s : State). has_any s.ready) (sym n.state_is) ∙ ap has_any refused.0),
      put_back_shows c.args.world.now.nodes at.shown places c.args.k place _ at.shows here (ap (λ node. record { node = node; arrivals = place.arrivals }) refused.1),
    )
