-- each turn of a node of a cluster sends to nodes alone
use Rattle.std.proofs.Common.{◌≡◌, ◌<◌, ◌==◌, ℕ, zero, suc, Bool, true, false, cond, List, refl, sym, ap, ◌∙◌, subst, Option, None, Some}
use Rattle.std.specs.Prelude.{unwrap_or}
use Rattle.std.specs.Option.{option_map}
use Rattle.list_laws.proofs.Filters.{some_same, mapped_some}
use Rattle.unix_names.specs.declared.NodeId.{NodeId}
use Rattle.unix_names.specs.declared.Name.{Name}
use Rattle.unix_names.specs.declared.Name.TheVariants as name
use Rattle.unix_names.specs.Names.{home}
use Rattle.unix_calls.specs.declared.Entry.{Entry}
use Rattle.unix_calls.specs.declared.World.{World}
use Rattle.unix_calls.specs.Valid.{IsValid}
use Rattle.ordered_table.specs.Entries.{value_at}
use Rattle.vproc_record.specs.declared.Vproc.{Vproc}
use Rattle.proc_image.specs.Follows.{Running, first_running, after_entries}
use Rattle.record_bag.specs.declared.Held.{Held}
use Rattle.record_bag.specs.declared.Held.TheVariants as held
use Rattle.record_bag.specs.declared.Bag.{Bag}
use Rattle.record_bag.specs.declared.Decided.{Decided}
use Rattle.record_bag.specs.declared.Outcome.{Outcome}
use Rattle.record_bag.specs.declared.Outcome.TheVariants.{Done, Need, Away}
use Rattle.record_bag.specs.Bags.{vproc_in, present, all_held, held_at}
use Rattle.record_table.specs.declared.Slot.{Slot}
use Rattle.record_table.specs.declared.Slot.TheVariants.{Home, Out}
use Rattle.record_table.specs.declared.Line.{Line}
use Rattle.record_table.specs.Places.{nobody, joined}
use Rattle.record_table.specs.Slots.{slot_at}
use Rattle.courier_core.specs.declared.Courier.{Courier}
use Rattle.courier_core.specs.declared.Message.{Message}
use Rattle.courier_core.specs.declared.Message.TheVariants as message
use Rattle.courier_core.specs.Couriers.{next_want, must_restart}
use Rattle.process_table.specs.declared.Row.{Row}
use Rattle.kernel_model.specs.Legal.{after_all}
use Rattle.decide_law.specs.Agrees.{RecordAgrees}
use Rattle.decide_law.specs.Law.{BirthIs, next, IsStep}
use Rattle.decide_law.specs.Vector.{IsAnswer, IsVector}
use Rattle.decide_law.proofs.ByName.{rising_pids}
use Rattle.node_state.specs.declared.State.{State}
use Rattle.node_state.specs.Wires.{posted}
use Rattle.node_state.specs.Places.{placed, poked}
use Rattle.node_state.specs.Returns.{all_given_back, laid, nudged_here}
use Rattle.node_state.specs.Phases.{image_after, child_of}
use Rattle.node_state.specs.Endings.{with_born, place_in, settled, child_placed, finished}
use Rattle.node_core.specs.declared.step.Step.{Step}
use Rattle.node_core.specs.declared.step.Step.TheVariants.{Again, Over}
use Rattle.node_core.specs.Advance.{Ask, Stepped, Advanced, asked, site_of, is_stepped, wanted_at, wanted, restarted, needed_least, needed, stepped_by, stepped, goes_on, advanced}
use Rattle.node_core.specs.Turns.{Departure, led, came}
use Rattle.cluster_state.specs.Cluster.{Cluster}
use Rattle.cluster_contents.specs.Placement.{Contents, Places, Rec}
use Rattle.cluster_contents.specs.Standing.{born_at, contents_after, Standing}
use Rattle.cluster_contents.proofs.Decided.{running_if}
use Rattle.cluster_contents.proofs.NamesKept.{NamesKept}
use Rattle.cluster_moves.proofs.Returns.{carried_some, listed_all, once_all}
use Rattle.cluster_turns.specs.Inside.{HeldInside, IsInside}
use Rattle.cluster_turns.proofs.Inside.{posted_inside, written_inside, seen_out, to_home, placed_inside, poked_inside, laid_inside, all_given_inside, nudged_here_inside, all_nudged_inside, born_inside, settled_inside, child_inside}
use Rattle.cluster_turns.proofs.Advances.{InTurn, StepIs, asks, standing_then, stepped_is}
use Rattle.cluster_turns.proofs.Turns.{SetsOut, Arrived}

-- what there is under a name names a node, where the contents stand for a table
what_inside : (world : World) (rows : List Row) (running : Running) (W : Contents) → Standing world rows running W → (n : Name) (h : Held) → W.what n ≡ h → HeldInside world.nodes h
what_inside world rows running W st (name.V q) h is v e = st.places q v (is ∙ e)
what_inside world rows running W st (name.G g) h is v e = absurd (subst (RecordAgrees rows (name.G g)) (is ∙ e) (st.agrees (name.G g)))

either-step : (nodes : ℕ) (b : Bool) (x y : Stepped) → IsInside nodes x.state → IsInside nodes y.state → IsInside nodes (cond b x y).state
either-step nodes true x y i j = i
either-step nodes false x y i j = j

module _ (world : World) (C : Cluster) (k : ℕ) (valid : IsValid world) (ask : Ask) (vector : IsVector world.nodes ask) (inside : k < world.nodes) (names_kept : NamesKept)
    (m : ℕ) (room : m < 999999) (rows : List Row) (running : Running) (history : List Entry) (table_is : after_all world history ≡ rows) (far_is : after_entries world (first_running world) history ≡ running) (W : Contents) (L : Places) (s : State) (c : Courier) (t : InTurn world C k m rows running history W L s c) (i : IsInside world.nodes s) where
  bag_inside : (n : Name) (h : Held) → held_at c.bag n ≡ Some h → HeldInside world.nodes h
  bag_inside n h e = what_inside world rows running W t.standing n h (carried_some c.image.pid (L (Rec n)) (W.what n) h (sym (t.fits.bag.holds n) ∙ e)).1

  -- ---- a record is needed
  wanted_at_inside : (x : Name) (a : Slot Held (Line Courier)) → IsInside world.nodes (wanted_at s c x a).state
  wanted_at_inside x (Home h) = written_inside world.nodes valid.limits.some_node s x (Out nobody) (λ g e. seen_out world.nodes valid.limits.some_node x nobody g e) i
  wanted_at_inside x (Out line) = written_inside world.nodes valid.limits.some_node s x (Out (joined line c)) (λ g e. seen_out world.nodes valid.limits.some_node x (joined line c) g e) i

  wanted_inside : (x : Name) → IsInside world.nodes (wanted s c x).state
  wanted_inside x = either-step world.nodes (home x s.nodes == s.id) (wanted_at s c x (slot_at s.slots x)) (is_stepped (posted s (home x s.nodes) (message.Ride c)) (Over None))
      (wanted_at_inside x (slot_at s.slots x)) (posted_inside world.nodes valid.limits.some_node s (home x s.nodes) (message.Ride c) (to_home world.nodes valid.limits.some_node s x i) i)

  given_all : IsInside world.nodes (all_given_back s (all_held c.bag))
  given_all = all_given_inside world.nodes valid.limits.some_node s (all_held c.bag) (once_all c.bag.vprocs c.bag.groups t.fits.bag.vprocs t.fits.bag.groups)
      (λ n h e. bag_inside n h (sym (listed_all c.bag t.fits.bag.vprocs t.fits.bag.groups n) ∙ e)) i

  needed_inside : (names : List Name) (o : Option Name) → IsInside world.nodes (needed_least s c names o).state
  needed_inside names None = i
  needed_inside names (Some x) = either-step world.nodes (must_restart c x) (restarted s c names) (wanted s c x) given_all (wanted_inside x)

  -- ---- a decision
  module _ (d : Decided) (bag' : Bag) (step : IsStep rows (next rows d.entry) c.image.pid c.job (site_of s) c.bag d bag') where
    next_inside : (n : Name) (h : Held) → held_at bag' n ≡ Some h → HeldInside world.nodes h
    next_inside n h e = what_inside world (next rows d.entry) (running_if world running d.entry)
        (contents_after W c.image.pid (image_after world c.image d.own d.phase d.entry) (site_of s).node.0 d.born (child_of world c.image d.born) bag')
        (standing_then world C k valid ask vector inside names_kept m room rows running history table_is far_is W L s c t d bag' step) n h
        (ap (λ o. unwrap_or o (unwrap_or (born_at d.born n) (W.what n))) e)

    birth_inside : (v : Vproc) → d.born ≡ Some v → v.loc.0 < world.nodes
    birth_inside v is = subst (λ (n : NodeId). n.0 < world.nodes) (sym (subst (λ b. BirthIs (next rows d.entry) c.image.pid (site_of s) d.entry bag' b) is step.birth).place) (subst (λ j. j < world.nodes) (sym t.bench.id) inside)

    in_bag : (v : Vproc) → vproc_in bag' c.image.pid ≡ Some v → held_at bag' (name.V c.image.pid) ≡ Some (held.V (Some v))
    in_bag v e = go (value_at bag'.vprocs c.image.pid) e
      where
        go : (o : Option (Option Vproc)) → present o ≡ Some v → option_map held.V o ≡ Some (held.V (Some v))
        go None e = cc
        go (Some x) e = ap (λ y. Some (held.V y)) e

    place_inside : (to : NodeId) → place_in bag' c.image.pid ≡ Some to → to.0 < world.nodes
    place_inside to e =
        let v = mapped_some (λ (v : Vproc). v.loc) (vproc_in bag' c.image.pid) to e in
        subst (λ (n : NodeId). n.0 < world.nodes) (sym v.2) (next_inside (name.V c.image.pid) (held.V (Some v.0)) (in_bag v.0 v.1) v.0 refl)

    done_inside : IsInside world.nodes (finished world s c.image bag' d)
    done_inside =
        let back = all_given_back (with_born s d.born) (all_held bag') in
        let after = settled back (place_in bag' c.image.pid) (image_after world c.image d.own d.phase d.entry) in
        let vs = rising_pids c.bag.vprocs bag'.vprocs step.names.vprocs t.fits.bag.vprocs in
        let gs = rising_pids c.bag.groups bag'.groups step.names.groups t.fits.bag.groups in
        all_nudged_inside world.nodes valid.limits.some_node (child_placed after (child_of world c.image d.born)) d.nudges
        (child_inside world.nodes valid.limits.some_node after (child_of world c.image d.born)
        (settled_inside world.nodes valid.limits.some_node back (place_in bag' c.image.pid) (image_after world c.image d.own d.phase d.entry) (image_after world c.image d.own d.phase d.entry).phase place_inside
        (all_given_inside world.nodes valid.limits.some_node (with_born s d.born) (all_held bag') (once_all bag'.vprocs bag'.groups vs gs) (λ n h e. next_inside n h (sym (listed_all bag' vs gs n) ∙ e))
        (born_inside world.nodes valid.limits.some_node s d.born birth_inside i))))

  pub stepped_inside : IsInside world.nodes (stepped world ask s c).state
  stepped_inside = go (asked ask s c).outcome (asked ask s c).bag (vector.answers rows c.image.pid c.job c.image.own c.bag (site_of s) (asks world C k valid ask vector inside names_kept m room rows running history table_is far_is W L s c t))
    where
      go : (o : Outcome) (b : Bag) → IsAnswer world.nodes rows c.image.pid c.job (site_of s) c.bag b o → IsInside world.nodes (stepped_by world s c o b).state
      go (Done d) b is = done_inside d b is
      go (Need names) b is = subst (λ x. IsInside world.nodes (needed s (record c { bag = x }) names).state) (sym is.1) (needed_inside names (next_want c names))
      go (Away to) b is = posted_inside world.nodes valid.limits.some_node s to.0 (message.Ride (record c { bag = b })) is.0 i

module _ (world : World) (valid : IsValid world) (ask : Ask) (vector : IsVector world.nodes ask) (names_kept : NamesKept) (m : ℕ) (room : m < 999999) (rows : List Row) (running : Running) (history : List Entry) (table_is : after_all world history ≡ rows) (far_is : after_entries world (first_running world) history ≡ running) (C : Cluster) (k : ℕ) (inside : k < world.nodes) where
  advanced_inside : (n : ℕ) (W : Contents) (L : Places) (s : State) (c : Courier) (a : Advanced) → InTurn world C k m rows running history W L s c → IsInside world.nodes s → advanced world ask n s c ≡ Some a → IsInside world.nodes a.state
  advanced_inside zero W L s c a t i e = cc
  advanced_inside (suc n) W L s c a t i e =
      go (stepped world ask s c).step (stepped_is world C k valid ask vector inside names_kept m room rows running history table_is far_is W L s c t)
      (stepped_inside world C k valid ask vector inside names_kept m room rows running history table_is far_is W L s c t i) (advanced_inside n W) e
    where
      go : (step : Step) → StepIs world C k m rows running history W (stepped world ask s c).state step → IsInside world.nodes (stepped world ask s c).state →
          ((L : Places) (s : State) (c : Courier) (a : Advanced) → InTurn world C k m rows running history W L s c → IsInside world.nodes s → advanced world ask n s c ≡ Some a → IsInside world.nodes a.state) →
          goes_on (advanced world ask n) (stepped world ask s c).state step ≡ Some a → IsInside world.nodes a.state
      go (Again c') is j rest e = rest is.0 (stepped world ask s c).state c' a is.1 j e
      go (Over entry) is j rest e = subst (λ (x : Advanced). IsInside world.nodes x.state) (some_same (record { state = (stepped world ask s c).state; entry = entry }) a e) j

  -- who sets out leaves the rest of the node as it is
  abbrev pub LeavesInside : Option Departure → Type 0
  LeavesInside None = Unit {0}
  LeavesInside (Some d) = IsInside world.nodes d.state

  pub led_inside : (n : ℕ) (W : Contents) (o : Option Departure) (a : Advanced) → SetsOut world valid ask vector names_kept m room rows running history table_is far_is C k inside W o → LeavesInside o → led world ask n o ≡ Some a → IsInside world.nodes a.state
  led_inside n W None a t i e = cc
  led_inside n W (Some d) a t i e = advanced_inside n W t.0 d.state d.courier a t.1 i e

  over : (s : State) (a : Advanced) → IsInside world.nodes s → Some (record { state = s; entry = None }) ≡ Some a → IsInside world.nodes a.state
  over s a i e = subst (λ (x : Advanced). IsInside world.nodes x.state) (some_same (record { state = s; entry = None }) a e) i

  pub came_inside : (n : ℕ) (W : Contents) (L : Places) (s : State) (msg : Message) (a : Advanced) → Standing world rows running W → Arrived world valid ask vector names_kept m room rows running history table_is far_is C k inside W L s msg → ((c : Courier) → msg ≡ message.Ride c → (M : Places) × InTurn world C k m rows running history W M s c) →
      IsInside world.nodes s → came world ask n s msg ≡ Some a → IsInside world.nodes a.state
  came_inside n W L s (message.Ride c) a st r ride i e = let t = ride c refl in advanced_inside n W t.0 s c a t.1 i e
  came_inside n W L s (message.Put x h) a st r ride i e = over (laid s x h) a (laid_inside world.nodes valid.limits.some_node s x h (what_inside world rows running W st x h r.1) i) e
  came_inside n W L s (message.Back image) a st r ride i e = over (placed s image) a (placed_inside world.nodes valid.limits.some_node s image i) e
  came_inside n W L s (message.Nudge p) a st r ride i e = over (nudged_here s p) a (nudged_here_inside world.nodes valid.limits.some_node s p i) e
  came_inside n W L s (message.Poke p) a st r ride i e = over (poked s p) a (poked_inside world.nodes valid.limits.some_node s p i) e
