-- each turn that is offered is possible, and each schedule has a run
use Rattle.std.proofs.Common.{◌≡◌, ◌<◌, ◌&&◌, nat_lt, ℕ, Bool, true, false, cond, List, [], ◌∷◌, refl, sym, ap, ◌∙◌, Option, None, Some}
use Rattle.std.specs.Option.{option_map, is_some}
use Rattle.std.proofs.lemmas.Bool.{ltb-true, and_parts}
use Rattle.unix_names.specs.declared.NodeId.{NodeId}
use Rattle.unix_calls.specs.declared.Entry.{Entry}
use Rattle.unix_calls.specs.declared.Turn.{Turn}
use Rattle.unix_calls.specs.declared.Turn.TheVariants.{Go, Push, Take, Auto}
use Rattle.unix_calls.specs.declared.World.{World}
use Rattle.unix_calls.specs.Valid.{IsValid}
use Rattle.proc_image.specs.declared.Image.{Image}
use Rattle.proc_image.specs.Follows.{first_running, after_entries, Follows}
use Rattle.courier_core.specs.declared.Message.{Message}
use Rattle.courier_core.specs.declared.Message.TheVariants as message
use Rattle.kernel_model.specs.Legal.{after_all}
use Rattle.decide_law.specs.Vector.{IsVector}
use Rattle.node_state.specs.declared.Sent.{Sent}
use Rattle.node_state.specs.declared.State.{State}
use Rattle.node_state.specs.declared.Waiting.{Waiting}
use Rattle.node_state.specs.Ready.{first_movable}
use Rattle.node_state.specs.Wires.{one_taken}
use Rattle.node_state.specs.Places.{placed, poked}
use Rattle.node_state.specs.Returns.{laid, nudged_here}
use Rattle.node_core.specs.Advance.{Ask, Advanced, is_advanced}
use Rattle.node_core.specs.Turns.{Departure, first_of, moved_with, going, pushed, led, arriving, came}
use Rattle.cluster_state.specs.Cluster.{Cluster, Turned, with_wire, turned_at, took}
use Rattle.cluster_state.specs.Possible.{Does}
use Rattle.cluster_state.specs.Run.{has_any, is_offered, first_offered, all_turns, Order, This, ByRule, chosen, Makes, Plays}
use Rattle.fork_laws.specs.Made.{made_from}
use Rattle.cluster_contents.specs.Histories.{with_entry}
use Rattle.cluster_contents.proofs.NamesKept.{names_kept}
use Rattle.cluster_turns.proofs.Turns.{SetsOut, going_sets, pushed_sets, arriving_sets}
use Rattle.cluster_turns.proofs.Ends.{comes_to_end}
use Rattle.cluster_laws.proofs.Runs.{picked, arrived, IsRight, does_right}

module _ (world : World) (valid : IsValid world) (ask : Ask) (vector : IsVector world.nodes ask) (m : ℕ) (room : m < 999999) (C : Cluster) (history : List Entry) (x : IsRight world valid ask vector names_kept m C history) where
  abbrev Ends : Option Departure → Type 0
  Ends o = (n : ℕ) × (a : Advanced) × (led world ask n o ≡ Some a)

  -- who sets out comes to an end
  set_out : (D : Cluster) (k : ℕ) (inside : k < world.nodes) (d : Departure) → SetsOut world valid ask vector names_kept m room (after_all world history) (after_entries world (first_running world) history) history refl refl D k inside x.contents (Some d) → Ends (Some d)
  set_out D k inside d t = comes_to_end world D k valid ask vector inside names_kept m room (after_all world history) (after_entries world (first_running world) history) history refl refl x.contents t.0 d.state d.courier t.1

  goes : (k : ℕ) → k < world.nodes → has_any (C.nodes k).ready ≡ true → Ends (going world (C.nodes k))
  goes k inside some = go (C.nodes k).ready some
      (going_sets world valid ask vector names_kept m room (after_all world history) (after_entries world (first_running world) history) history refl refl C k inside x.contents x.places (C.nodes k)
      (picked world C k m (after_all world history) (after_entries world (first_running world) history) history refl refl x.contents x.places valid ask vector names_kept room inside x.stands x.watched))
    where
      go : (ws : List Waiting) → has_any ws ≡ true → SetsOut world valid ask vector names_kept m room (after_all world history) (after_entries world (first_running world) history) history refl refl C k inside x.contents (first_of world (C.nodes k) ws) → Ends (first_of world (C.nodes k) ws)
      go [] e t = cc
      go (w ∷ ws) e t = set_out C k inside _ t

  pushes : (k : ℕ) (to : NodeId) → k < world.nodes → to.0 < world.nodes → is_some (first_movable (C.nodes k).ready) ≡ true → Ends (pushed (C.nodes k) to)
  pushes k to inside node some = go (first_movable (C.nodes k).ready) some
      (pushed_sets world valid ask vector names_kept m room (after_all world history) (after_entries world (first_running world) history) history refl refl C k inside to x.contents x.places (C.nodes k) node
      (picked world C k m (after_all world history) (after_entries world (first_running world) history) history refl refl x.contents x.places valid ask vector names_kept room inside x.stands x.watched))
    where
      go : (o : Option Image) → is_some o ≡ true → SetsOut world valid ask vector names_kept m room (after_all world history) (after_entries world (first_running world) history) history refl refl C k inside x.contents (option_map (moved_with (C.nodes k) to) o) → Ends (option_map (moved_with (C.nodes k) to) o)
      go None e t = cc
      go (Some image) e t = set_out C k inside (moved_with (C.nodes k) to image) t

  comes : (D : Cluster) (k : ℕ) (inside : k < world.nodes) (s : State) (msg : Message) → SetsOut world valid ask vector names_kept m room (after_all world history) (after_entries world (first_running world) history) history refl refl D k inside x.contents (arriving s msg) → (n : ℕ) × (a : Advanced) × (came world ask n s msg ≡ Some a)
  comes D k inside s (message.Ride c) t = set_out D k inside (record { state = s; courier = c }) t
  comes D k inside s (message.Put n h) t = (0, is_advanced (laid s n h) None, refl)
  comes D k inside s (message.Back image) t = (0, is_advanced (placed s image) None, refl)
  comes D k inside s (message.Nudge p) t = (0, is_advanced (nudged_here s p) None, refl)
  comes D k inside s (message.Poke p) t = (0, is_advanced (poked s p) None, refl)

  takes : (k from : ℕ) → k < world.nodes → from < world.nodes → (w : List Sent) → C.wires from k ≡ w → has_any w ≡ true → (n : ℕ) × (r : Turned) × (took world ask n C k from w ≡ Some r)
  takes k from inside sender [] is e = cc
  takes k from inside sender (first ∷ rest) is e =
      let t = arrived world valid ask vector names_kept m room (after_all world history) (after_entries world (first_running world) history) history refl refl x.contents x.places C k from inside first rest x.stands x.watched is in
      let s = comes (with_wire C from k rest) k inside (one_taken (C.nodes k) from) first.message
      (arriving_sets world valid ask vector names_kept m room (after_all world history) (after_entries world (first_running world) history) history refl refl (with_wire C from k rest) k inside x.contents t.0 (one_taken (C.nodes k) from) first.message t.1 t.2) in
      (s.0, turned_at (with_wire C from k rest) k s.1, ap (option_map (turned_at (with_wire C from k rest) k)) s.2)

  pub offered_does : (turn : Turn) → is_offered world.nodes C turn ≡ true → (r : Turned) × Does world ask C turn r
  offered_does (Go k) e =
      let p = and_parts (nat_lt k world.nodes) (has_any (C.nodes k).ready) e in
      let inside = ltb-true k world.nodes p.0 in
      let s = goes k inside p.1 in
      (turned_at C k s.1, record { inside = inside; questions = s.0; is = ap (option_map (turned_at C k)) s.2 })
  offered_does (Push k to) e =
      let p = and_parts (nat_lt k world.nodes) (nat_lt to world.nodes && is_some (first_movable (C.nodes k).ready)) e in
      let q = and_parts (nat_lt to world.nodes) (is_some (first_movable (C.nodes k).ready)) p.1 in
      let inside = ltb-true k world.nodes p.0 in
      let node = ltb-true to world.nodes q.0 in
      let s = pushes k (record { 0 = to }) inside node q.1 in
      (turned_at C k s.1, record { inside = (inside, node); questions = s.0; is = ap (option_map (turned_at C k)) s.2 })
  offered_does (Take k from) e =
      let p = and_parts (nat_lt k world.nodes) (nat_lt from world.nodes && has_any (C.wires from k)) e in
      let q = and_parts (nat_lt from world.nodes) (has_any (C.wires from k)) p.1 in
      let inside = ltb-true k world.nodes p.0 in
      let sender = ltb-true from world.nodes q.0 in
      let s = takes k from inside sender (C.wires from k) refl q.1 in
      (s.1, record { inside = (inside, sender); questions = s.0; is = s.2 })
  offered_does (Auto count) e = cc

-- ---- schedules
first_is_offered : (nodes : ℕ) (C : Cluster) (xs : List Turn) (x : Turn) → first_offered nodes C xs ≡ Some x → is_offered nodes C x ≡ true
first_is_offered nodes C [] x e = cc
first_is_offered nodes C (y ∷ ys) x e = go (is_offered nodes C y) refl e (first_is_offered nodes C ys x)
  where
    go : (b : Bool) → is_offered nodes C y ≡ b → cond b (Some y) (first_offered nodes C ys) ≡ Some x → (first_offered nodes C ys ≡ Some x → is_offered nodes C x ≡ true) → is_offered nodes C x ≡ true
    go true is e rest = let same : y ≡ x = cc in ap (is_offered nodes C) (sym same) ∙ is
    go false is e rest = rest e

chosen_is_offered : (nodes : ℕ) (C : Cluster) (o : Order) (x : Turn) → chosen nodes C o ≡ Some x → is_offered nodes C x ≡ true
chosen_is_offered nodes C (This y) x e = go (is_offered nodes C y) refl e
  where
    go : (b : Bool) → is_offered nodes C y ≡ b → cond b (Some y) None ≡ Some x → is_offered nodes C x ≡ true
    go true is e = let same : y ≡ x = cc in ap (is_offered nodes C) (sym same) ∙ is
    go false is e = cc
chosen_is_offered nodes C ByRule x e = first_is_offered nodes C (all_turns nodes) x e

pub plays : (world : World) (valid : IsValid world) (ask : Ask) (vector : IsVector world.nodes ask) (small : (history : List Entry) → Follows world history → made_from 66 history < 999999) (os : List Order) (C : Cluster) (history : List Entry) →
    IsRight world valid ask vector names_kept (made_from 66 history) C history → (D : Cluster) × (made : List Turn) × (entries : List (Option Entry)) × Plays world ask C os D made entries
plays world valid ask vector small [] C history right = (C, [], [], (refl, refl, refl))
plays world valid ask vector small (o ∷ os) C history right = go (chosen world.nodes C o) refl (λ E h r. plays world valid ask vector small os E h r)
  where
    go : (t : Option Turn) → chosen world.nodes C o ≡ t → ((E : Cluster) (h : List Entry) → IsRight world valid ask vector names_kept (made_from 66 h) E h → (D : Cluster) × (made : List Turn) × (entries : List (Option Entry)) × Plays world ask E os D made entries) →
        (D : Cluster) × (made : List Turn) × (entries : List (Option Entry)) × Makes world ask C t (λ E others more. Plays world ask E os D others more) made entries
    go None is rest = rest C history right
    go (Some turn) is rest =
        let d = offered_does world valid ask vector (made_from 66 history) (small history right.follows) C history right turn (chosen_is_offered world.nodes C o turn is) in
        let q = rest (d.0).cluster (with_entry history (d.0).entry) (does_right world valid ask vector names_kept small C history turn d.0 right d.1) in
        (q.0, turn ∷ q.1, (d.0).entry ∷ q.2, (d.0, d.1, q.1, q.2, refl, refl, q.3))
