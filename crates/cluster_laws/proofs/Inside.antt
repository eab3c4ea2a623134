-- every message of a run goes from a node of the world to a node of the world
use Rattle.std.proofs.Common.{◌≡◌, ◌<◌, ◌≤◌, ◌==◌, ◌&&◌, ℕ, Bool, true, false, cond, List, [], ◌∷◌, ◌++◌, refl, sym, ap, ◌∙◌, subst, arith, Option, None, Some, All}
use Rattle.std.specs.Option.{option_map}
use Rattle.std.proofs.lemmas.Bool.{eqb-true, ne_eqb}
use Rattle.std.proofs.lemmas.List.Elements.{All-nil, All-head, All-tail}
use Rattle.list_laws.specs.Keyed.{at}
use Rattle.list_laws.proofs.Filters.{mapped_some}
use Rattle.unix_names.specs.declared.NodeId.{NodeId}
use Rattle.unix_names.specs.declared.Name.{Name}
use Rattle.unix_names.specs.declared.Name.TheVariants as name
use Rattle.unix_calls.specs.declared.Entry.{Entry}
use Rattle.unix_calls.specs.declared.Turn.{Turn}
use Rattle.unix_calls.specs.declared.Turn.TheVariants.{Go, Push, Take, Auto}
use Rattle.unix_calls.specs.declared.World.{World}
use Rattle.unix_calls.specs.Valid.{IsValid}
use Rattle.proc_image.specs.declared.Image.{Image}
use Rattle.proc_image.specs.Follows.{first_running, after_entries, Follows}
use Rattle.vproc_record.specs.declared.Vproc.{Vproc}
use Rattle.record_bag.specs.declared.Held.{Held}
use Rattle.record_bag.specs.declared.Held.TheVariants as held
use Rattle.record_table.specs.declared.Slot.{Slot}
use Rattle.record_table.specs.declared.Slot.TheVariants.{Home}
use Rattle.record_table.specs.declared.Line.{Line}
use Rattle.record_table.specs.Slots.{slot_at}
use Rattle.courier_core.specs.declared.Courier.{Courier}
use Rattle.kernel_model.specs.Legal.{after_all}
use Rattle.decide_law.specs.Vector.{IsVector}
use Rattle.node_state.specs.declared.State.{State}
use Rattle.node_state.specs.declared.Sent.{Sent}
use Rattle.node_state.specs.declared.Waiting.{Waiting}
use Rattle.node_state.specs.Ready.{first_movable}
use Rattle.node_state.specs.Wires.{one_taken, sent_off}
use Rattle.node_core.specs.declared.led.Led.{Led}
use Rattle.node_core.specs.Advance.{Ask, Advanced}
use Rattle.node_core.specs.Turns.{first_of, moved_with, going, pushed, led, arriving, came}
use Rattle.node_core.specs.First.{led_number, led_starts, first_state, first_vproc, first_group, is_at}
use Rattle.cluster_state.specs.Cluster.{Cluster, first_cluster, Turned, with_wire, sends_to, delivered, turned_at, took, turned}
use Rattle.cluster_state.specs.Possible.{IsInWorld, Does, Ran}
use Rattle.cluster_contents.specs.Histories.{with_entry}
use Rattle.cluster_contents.proofs.NamesKept.{names_kept}
use Rattle.fork_laws.specs.Made.{made_from}
use Rattle.cluster_turns.specs.Inside.{HeldInside, GoesInside, IsInside}
use Rattle.cluster_turns.proofs.InsideTurns.{LeavesInside, led_inside, came_inside}
use Rattle.cluster_turns.proofs.Turns.{SetsOut, going_sets, pushed_sets, arriving_sets}
use Rattle.cluster_laws.specs.Wires.{StaysInside}
use Rattle.cluster_laws.specs.Turns.{SendsToNodes}
use Rattle.cluster_stands.proofs.FirstRecords.{vproc_put, group_put, slots_v, slots_g}
use Rattle.cluster_stands.proofs.First.{leds_apart, led_node}
use Rattle.cluster_laws.proofs.Runs.{picked, arrived, IsRight, does_right}

-- each node of the world keeps to the nodes, and so do the wires
pub record AllInside (nodes : ℕ) (C : Cluster) : Type 0 where
  pub states : (j : ℕ) → j < nodes → IsInside nodes (C.nodes j)
  pub wires : StaysInside nodes C

-- ---- what is delivered
none_sent : (nodes l : ℕ) (xs : List Sent) → nodes ≤ l → All (GoesInside nodes) xs → sends_to l xs ≡ []
none_sent nodes l [] le all = refl
none_sent nodes l (x ∷ xs) le all =
    ap (λ b. cond b (x ∷ sends_to l xs) (sends_to l xs)) (ne_eqb x.to l (λ e. let lt = All-head (GoesInside nodes) x xs all in omega (arith, lt, le, e)))
    ∙ none_sent nodes l xs le (All-tail (GoesInside nodes) x xs all)

delivered_inside : (nodes : ℕ) (C : Cluster) (k : ℕ) (s : State) → k < nodes → AllInside nodes C → IsInside nodes s → AllInside nodes (delivered C k s)
delivered_inside nodes C k s lt a i = record {
  states = λ j le. by_state j le (j == k);
  wires = record {
    from_outside = λ from l le. by_from from l le (from == k) refl;
    to_outside = λ from l le. by_to from l le (from == k);
  };
}
  where
    by_state : (j : ℕ) → j < nodes → (b : Bool) → IsInside nodes (cond b (sent_off s) (C.nodes j))
    by_state j le true = record { count = i.count; out = All-nil (GoesInside nodes); homes = i.homes }
    by_state j le false = a.states j le

    by_from : (from l : ℕ) → nodes ≤ from → (b : Bool) → (from == k) ≡ b → cond b (C.wires from l ++ sends_to l s.out) (C.wires from l) ≡ []
    by_from from l le true e = let same = eqb-true from k e in absurd (omega (arith, le, same, lt))
    by_from from l le false e = a.wires.from_outside from l le

    by_to : (from l : ℕ) → nodes ≤ l → (b : Bool) → cond b (C.wires from l ++ sends_to l s.out) (C.wires from l) ≡ []
    by_to from l le true = ap (λ w. w ++ sends_to l s.out) (a.wires.to_outside from l le) ∙ none_sent nodes l s.out le i.out
    by_to from l le false = a.wires.to_outside from l le

wire_inside : (nodes : ℕ) (C : Cluster) (from k : ℕ) (ms : List Sent) → from < nodes → k < nodes → AllInside nodes C → AllInside nodes (with_wire C from k ms)
wire_inside nodes C from k ms in_from in_k a = record {
  states = a.states;
  wires = record {
    from_outside = λ i l le. by i l (i == from) (l == k) refl refl (λ e f. omega (arith, le, e, in_from)) (a.wires.from_outside i l le);
    to_outside = λ i l le. by i l (i == from) (l == k) refl refl (λ e f. omega (arith, le, f, in_k)) (a.wires.to_outside i l le);
  };
}
  where
    by : (i l : ℕ) (b c : Bool) → (i == from) ≡ b → (l == k) ≡ c → (i ≡ from → l ≡ k → ⊥) → C.wires i l ≡ [] → cond (b && c) ms (C.wires i l) ≡ []
    by i l true true e f never none = absurd (never (eqb-true i from e) (eqb-true l k f))
    by i l true false e f never none = none
    by i l false c e f never none = none

-- ---- the turns
module _ (world : World) (valid : IsValid world) (ask : Ask) (vector : IsVector world.nodes ask) (m : ℕ) (room : m < 999999) (C : Cluster) (history : List Entry) (x : IsRight world valid ask vector names_kept m C history) (a : AllInside world.nodes C) where
  going_leaves : (k : ℕ) (inside : k < world.nodes) (ws : List Waiting) → LeavesInside world valid ask vector names_kept m room (after_all world history) (after_entries world (first_running world) history) history refl refl C k inside (first_of world (C.nodes k) ws)
  going_leaves k inside [] = tt
  going_leaves k inside (w ∷ ws) = let i = a.states k inside in record { count = i.count; out = i.out; homes = i.homes }

  pushed_leaves : (k : ℕ) (inside : k < world.nodes) (to : NodeId) (o : Option Image) → LeavesInside world valid ask vector names_kept m room (after_all world history) (after_entries world (first_running world) history) history refl refl C k inside (option_map (moved_with (C.nodes k) to) o)
  pushed_leaves k inside to None = tt
  pushed_leaves k inside to (Some image) = let i = a.states k inside in record { count = i.count; out = i.out; homes = i.homes }

  pub go_inside : (n k : ℕ) (s : Advanced) → k < world.nodes → led world ask n (going world (C.nodes k)) ≡ Some s → IsInside world.nodes s.state
  go_inside n k s inside e = led_inside world valid ask vector names_kept m room (after_all world history) (after_entries world (first_running world) history) history refl refl C k inside n x.contents (going world (C.nodes k)) s
      (going_sets world valid ask vector names_kept m room (after_all world history) (after_entries world (first_running world) history) history refl refl C k inside x.contents x.places (C.nodes k)
      (picked world C k m (after_all world history) (after_entries world (first_running world) history) history refl refl x.contents x.places valid ask vector names_kept room inside x.stands x.watched))
      (going_leaves k inside (C.nodes k).ready) e

  pub push_inside : (n k : ℕ) (to : NodeId) (s : Advanced) → k < world.nodes → to.0 < world.nodes → led world ask n (pushed (C.nodes k) to) ≡ Some s → IsInside world.nodes s.state
  push_inside n k to s inside node e = led_inside world valid ask vector names_kept m room (after_all world history) (after_entries world (first_running world) history) history refl refl C k inside n x.contents (pushed (C.nodes k) to) s
      (pushed_sets world valid ask vector names_kept m room (after_all world history) (after_entries world (first_running world) history) history refl refl C k inside to x.contents x.places (C.nodes k) node
      (picked world C k m (after_all world history) (after_entries world (first_running world) history) history refl refl x.contents x.places valid ask vector names_kept room inside x.stands x.watched))
      (pushed_leaves k inside to (first_movable (C.nodes k).ready)) e

  pub take_inside : (n k from : ℕ) (first : Sent) (rest : List Sent) (s : Advanced) → k < world.nodes → from < world.nodes → C.wires from k ≡ first ∷ rest → came world ask n (one_taken (C.nodes k) from) first.message ≡ Some s → IsInside world.nodes s.state
  take_inside n k from first rest s inside sender is e =
      let t = arrived world valid ask vector names_kept m room (after_all world history) (after_entries world (first_running world) history) history refl refl x.contents x.places C k from inside first rest x.stands x.watched is in
      let i = a.states k inside in
      came_inside world valid ask vector names_kept m room (after_all world history) (after_entries world (first_running world) history) history refl refl (with_wire C from k rest) k inside n x.contents t.0 (one_taken (C.nodes k) from) first.message s x.stands.standing t.2
      (λ c same. subst (λ msg. SetsOut world valid ask vector names_kept m room (after_all world history) (after_entries world (first_running world) history) history refl refl (with_wire C from k rest) k inside x.contents (arriving (one_taken (C.nodes k) from) msg)) same
      (arriving_sets world valid ask vector names_kept m room (after_all world history) (after_entries world (first_running world) history) history refl refl (with_wire C from k rest) k inside x.contents t.0 (one_taken (C.nodes k) from) first.message t.1 t.2))
      (record { count = i.count; out = i.out; homes = i.homes }) e

  pub sends_inside : SendsToNodes world ask C
  sends_inside = record {
    going_sends = λ n k s inside e. (go_inside n k s inside e).out;
    pushed_sends = λ n k to s inside node e. (push_inside n k to s inside node e).out;
    taken_sends = λ n k from first rest s inside sender is e. (take_inside n k from first rest s inside sender is e).out;
  }

  turned_inside : (n : ℕ) (turn : Turn) (r : Turned) → IsInWorld world turn → turned world ask n C turn ≡ Some r → AllInside world.nodes r.cluster
  turned_inside n (Go k) r inside e =
      let s = mapped_some (turned_at C k) (led world ask n (going world (C.nodes k))) r e in
      subst (λ (t : Turned). AllInside world.nodes t.cluster) (sym s.2) (delivered_inside world.nodes C k (s.0).state inside a (go_inside n k s.0 inside s.1))
  turned_inside n (Push k to) r inside e =
      let s = mapped_some (turned_at C k) (led world ask n (pushed (C.nodes k) (record { 0 = to }))) r e in
      subst (λ (t : Turned). AllInside world.nodes t.cluster) (sym s.2) (delivered_inside world.nodes C k (s.0).state inside.0 a (push_inside n k (record { 0 = to }) s.0 inside.0 inside.1 s.1))
  turned_inside n (Take k from) r inside e = go (C.wires from k) refl e
    where
      go : (wire : List Sent) → C.wires from k ≡ wire → took world ask n C k from wire ≡ Some r → AllInside world.nodes r.cluster
      go [] is e = cc
      go (first ∷ rest) is e =
          let s = mapped_some (turned_at (with_wire C from k rest) k) (came world ask n (one_taken (C.nodes k) from) first.message) r e in
          subst (λ (t : Turned). AllInside world.nodes t.cluster) (sym s.2)
          (delivered_inside world.nodes (with_wire C from k rest) k (s.0).state inside.0 (wire_inside world.nodes C from k rest inside.1 inside.0 a) (take_inside n k from first rest s.0 inside.0 inside.1 is s.1))
  turned_inside n (Auto count) r inside e = absurd inside

  pub does_inside : (turn : Turn) (r : Turned) → Does world ask C turn r → AllInside world.nodes r.cluster
  does_inside turn r d = turned_inside d.questions turn r d.inside d.is

-- ---- runs
pub ran_inside : (world : World) (valid : IsValid world) (ask : Ask) (vector : IsVector world.nodes ask) (little : (history : List Entry) → Follows world history → made_from 66 history < 999999) (C : Cluster) (history : List Entry) (turns : List Turn) (C' : Cluster) (entries : List (Option Entry)) →
    IsRight world valid ask vector names_kept (made_from 66 history) C history → AllInside world.nodes C → Ran world ask C turns C' entries → AllInside world.nodes C'
ran_inside world valid ask vector little C history [] C' entries right a (same, empty) = subst (AllInside world.nodes) (sym same) a
ran_inside world valid ask vector little C history (turn ∷ turns) C' entries right a (r, d, rest, is, ran) =
    ran_inside world valid ask vector little r.cluster (with_entry history r.entry) turns C' rest
    (does_right world valid ask vector names_kept little C history turn r right d)
    (does_inside world valid ask vector (made_from 66 history) (little history right.follows) C history right a turn r d) ran

-- ---- the first cluster
abbrev at_home : Held → Slot Held (Line Courier)
at_home h = Home h

home_home : (g h : Held) → at_home g ≡ at_home h → g ≡ h
home_home g h e = cc

module _ (world : World) (valid : IsValid world) where
  absent_inside : (h : Held) → at_home (held.V None) ≡ at_home h → HeldInside world.nodes h
  absent_inside h e v f = let same : held.V None ≡ h = home_home (held.V None) h e in let never : held.V None ≡ held.V (Some v) = same ∙ f in cc

  group_inside : (g : Held) → ((v : Vproc) → g ≡ held.V (Some v) → ⊥) → (h : Held) → at_home g ≡ at_home h → HeldInside world.nodes h
  group_inside g none h e v f = absurd (none v (home_home g h e ∙ f))

  vproc_inside : (j : ℕ) (o : Option Led) (h : Held) → ((led : Led) → o ≡ Some led → led.start.node.0 < world.nodes) → vproc_put j o (Home (held.V None)) ≡ Home h → HeldInside world.nodes h
  vproc_inside j None h node e = absent_inside h e
  vproc_inside j (Some led) h node e = go (is_at j led.start) e
    where
      go : (b : Bool) → cond b (at_home (held.V (Some (first_vproc led)))) (at_home (held.V None)) ≡ at_home h → HeldInside world.nodes h
      go true e v f = let is : held.V (Some (first_vproc led)) ≡ held.V (Some v) = home_home (held.V (Some (first_vproc led))) h e ∙ f in let same : first_vproc led ≡ v = cc in subst (λ (u : Vproc). u.loc.0 < world.nodes) same (node led refl)
      go false e v f = absent_inside h e v f

  first_homes : (j : ℕ) (n : Name) (h : Held) → slot_at (first_state world j).slots n ≡ Home h → HeldInside world.nodes h
  first_homes j (name.V q) h e = vproc_inside j (at led_number q.0 (led_starts world)) h (led_node world valid q) (sym (slots_v j (led_starts world) (led_starts world) (leds_apart world valid) (record { vprocs = []; groups = [] }) q) ∙ e)
  first_homes j (name.G g) h e = by (at led_number g.0 (led_starts world)) (sym (slots_g j (led_starts world) (led_starts world) (leds_apart world valid) (record { vprocs = []; groups = [] }) g) ∙ e)
    where
      inner : (led : Led) (b : Bool) → cond b (at_home (held.G (Some (first_group (led_starts world) led.leader)))) (at_home (held.G None)) ≡ at_home h → HeldInside world.nodes h
      inner led true e = group_inside (held.G (Some (first_group (led_starts world) led.leader))) (λ v f. cc) h e
      inner led false e = group_inside (held.G None) (λ v f. cc) h e

      outer : (led : Led) (t : Bool) → cond t (cond (led.leader.0 == led.start.pid.0) (at_home (held.G (Some (first_group (led_starts world) led.leader)))) (at_home (held.G None))) (at_home (held.G None)) ≡ at_home h → HeldInside world.nodes h
      outer led true e = inner led (led.leader.0 == led.start.pid.0) e
      outer led false e = group_inside (held.G None) (λ v f. cc) h e

      by : (o : Option Led) → group_put j (led_starts world) o (Home (held.G None)) ≡ Home h → HeldInside world.nodes h
      by None e = group_inside (held.G None) (λ v f. cc) h e
      by (Some led) e = outer led (is_at j led.start) e

  pub first_inside : AllInside world.nodes (first_cluster world)
  first_inside = record {
    states = λ j lt. record { count = refl; out = All-nil (GoesInside world.nodes); homes = first_homes j };
    wires = record { from_outside = λ from k le. refl; to_outside = λ from k le. refl };
  }
