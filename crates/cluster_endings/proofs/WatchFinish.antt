-- a decision, and all that follows from it, keeps the watch
use Rattle.std.proofs.Common.{◌≡◌, ◌≢◌, ◌==◌, ◌⊎◌, inl, inr, ◌<◌, ℕ, Bool, true, false, cond, List, [], refl, sym, ap, ◌∙◌, subst, Option, None, Some}
use Rattle.std.specs.Prelude.{unwrap_or, ◌+◌}
use Rattle.std.specs.Option.{option_map}
use Rattle.std.proofs.lemmas.Bool.{eqb-true, eq-eqb}
use Rattle.unix_names.specs.declared.Pid.{Pid}
use Rattle.unix_names.specs.declared.Name.TheVariants as name
use Rattle.unix_names.specs.Names.{home}
use Rattle.unix_names.specs.States.{is_living}
use Rattle.unix_calls.specs.declared.Entry.{Entry}
use Rattle.unix_calls.specs.declared.Job.{Job}
use Rattle.unix_calls.specs.declared.Phase.{Phase}
use Rattle.unix_calls.specs.declared.Phase.TheVariants as phases
use Rattle.unix_calls.specs.declared.World.{World}
use Rattle.unix_calls.specs.Valid.{IsValid}
use Rattle.vproc_record.specs.declared.Vproc.{Vproc}
use Rattle.proc_image.specs.declared.image.Image.{Image}
use Rattle.proc_image.specs.Follows.{Running, first_running, after_entries}
use Rattle.proc_image.specs.Images.{child_image}
use Rattle.record_bag.specs.declared.Held.{Held}
use Rattle.record_bag.specs.declared.Held.TheVariants as held
use Rattle.record_bag.specs.declared.Bag.{Bag}
use Rattle.record_bag.specs.declared.vector.Site.{Site}
use Rattle.record_bag.specs.declared.vector.Decided.{Decided}
use Rattle.record_bag.specs.Bags.{vproc_in, present, all_held, held_at}
use Rattle.ordered_table.specs.Entries.{value_at}
use Rattle.record_table.specs.declared.slot.Slot.{Slot}
use Rattle.record_table.specs.declared.slot.Slot.TheVariants.{Home, Out}
use Rattle.record_table.specs.declared.slot.Line.{Line}
use Rattle.record_table.specs.Places.{line_of}
use Rattle.record_table.specs.Slots.{slot_at, with_slot}
use Rattle.record_table.proofs.SlotLaws.{slot_at-put_home}
use Rattle.courier_core.specs.declared.courier.Courier.{Courier}
use Rattle.courier_core.specs.declared.courier.Message.TheVariants as message
use Rattle.process_table.specs.declared.Row.{Row}
use Rattle.process_table.specs.Rows.{row_of}
use Rattle.node_state.specs.declared.State.{State}
use Rattle.node_state.specs.Wires.{posted}
use Rattle.node_state.specs.Places.{placed}
use Rattle.node_state.specs.Endings.{with_born, place_in, settled_at, settled_in, settled, child_placed, finished}
use Rattle.node_state.specs.Phases.{child_of, image_after}
use Rattle.node_state.specs.Returns.{all_given_back}
use Rattle.cluster_state.specs.Cluster.{Cluster}
use Rattle.cluster_contents.specs.Placement.{Where, Ready, Parked, InLine, Wire, In, Hand, AtHome, Nowhere, Proc, Rec, Places, View, view, Contents, ImageItem, JobFits, BagFits, SlotIs}
use Rattle.cluster_moves.specs.Benches.{stored, items_at}
use Rattle.decide_law.specs.Law.{next, IsStep}
use Rattle.cluster_contents.specs.Standing.{born_at, Standing, ProcessIs, view_unless_gone}
use Rattle.cluster_moves.proofs.Things.{moved-same}
use Rattle.cluster_moves.proofs.Store.{unchanged, written, slot_here, write_same}
use Rattle.cluster_moves.proofs.Moves.{Bench, apart}
use Rattle.cluster_contents.proofs.Signals.{HeldCase, held_case, held_some, held_none, vproc_present, what_held, what_kept}
use Rattle.cluster_contents.proofs.Decided.{running_if, forked}
use Rattle.kernel_model.specs.Legal.{after_all}
use Rattle.cluster_contents.specs.Histories.{with_entry}
use Rattle.decide_law.specs.Wakes.{is_nudged}
use Rattle.decide_law.proofs.ByName.{vproc_found, held_same_names}
use Rattle.unix_names.specs.declared.NodeId.{NodeId}
use Rattle.cluster_watch.specs.Watched.{IsComing, Nudged as TellsHome, Marked as TellsSlot, Poked as TellsPlace, IsAt, IsResting, IfRests, ImageWatched, WatchesAt, Rests}
use Rattle.cluster_watch.proofs.Watching.{Fine, Marks, more_written, own_parked, own_marks, watch_on, watch_still}
use Rattle.cluster_watch.proofs.WatchMoves.{AreAlive, watch_post}
use Rattle.cluster_watch.proofs.WatchReturns.{OrAmong, all_nudged_watch, bag_watch, placed_watch}
use Rattle.cluster_watch.proofs.Sleepers.{others_rest, caller_rests}
use Rattle.cluster_endings.proofs.Finish.{Absent, holds, fresh_unheld, now, stands, fresh_nowhere, unborn, same_proc, child_hand, born_bench, bag_after, hand_p, given, same_pid, not_child, own_view, own_vproc, settled_keeps, child_keeps}

-- the record of each process that has an image is that of a living one
pub alive : (world : World) (rows : List Row) (running : Running) (W : Contents) → Standing world rows running W → AreAlive W
alive world rows running W st q x e =
    let is = subst (ProcessIs world (row_of rows q) (running q.0)) e (st.procs q) in
    let t = vproc_present rows q is.process (W.what (name.V q)) is.there (st.agrees (name.V q)) in
    (t.0, t.1, ap is_living (t.2).life ∙ is.lives)

vproc_same : (v x : Vproc) → held.V (Some v) ≡ held.V (Some x) → v ≡ x
vproc_same v x e = cc

module _ (world : World) (C : Cluster) (k : ℕ) (valid : IsValid world) (rows : List Row) (running : Running) (W : Contents) (st : Standing world rows running W) (L : Places) (s : State) (image : Image) (job : Job) (bag : Bag) (site : Site) (d : Decided) (bag' : Bag)
    (start : Bench world C k W L s) (hand : L (Proc image.pid) ≡ Hand) (fits : BagFits W L image.pid bag) (step : IsStep rows (next rows d.entry) image.pid job site bag d bag')
    (mine : W.proc image.pid ≡ Some (view image)) (wants : JobFits world image job) (missing : Absent W L) (absent : row_of rows site.fresh ≡ None) (at_home : L (Rec (name.V site.fresh)) ≡ AtHome) (homes : home (name.V site.fresh) world.nodes ≡ k)
    (here : site.node.0 < world.nodes) (on_site : site.node.0 ≡ k)
    (history : List Entry) (table : after_all world history ≡ rows) (far : after_entries world (first_running world) history ≡ running) (watch : WatchesAt world C k W (Rests world history) s) where
  abbrev N : Contents
  N = now world C k valid rows running W st L s image job bag site d bag' start hand fits step mine wants missing absent at_home homes here on_site

  abbrev Then : Pid → Type 0
  Then = Rests world (with_entry history d.entry)

  -- who rests, or is to be nudged
  abbrev Due : Pid → Type 0
  Due = OrAmong world C k (Rests world (with_entry history d.entry)) d.nudges

  lives : AreAlive W
  lives = alive world rows running W st

  lives_then : AreAlive (now world C k valid rows running W st L s image job bag site d bag' start hand fits step mine wants missing absent at_home homes here on_site)
  lives_then = alive world (next rows d.entry) (running_if world running d.entry) (now world C k valid rows running W st L s image job bag site d bag' start hand fits step mine wants missing absent at_home homes here on_site) (stands world C k valid rows running W st L s image job bag site d bag' start hand fits step mine wants missing absent at_home homes here on_site)

  -- ---- the decision
  not_fresh : (q : Pid) (X : Where) → L (Proc q) ≡ In X → name.V q ≢ name.V site.fresh
  not_fresh q X at e = let same : q ≡ site.fresh = cc in let x : Nowhere ≡ In X = sym (fresh_nowhere world C k valid rows running W st L s image job bag site d bag' start hand fits step mine wants missing absent at_home homes here on_site) ∙ ap (λ u. L (Proc u)) (sym same) ∙ at in cc

  -- another process's place stays
  loc_same : (q : Pid) (X : Where) → L (Proc q) ≡ In X → (v v' : Vproc) → W.what (name.V q) ≡ held.V (Some v) → (now world C k valid rows running W st L s image job bag site d bag' start hand fits step mine wants missing absent at_home homes here on_site).what (name.V q) ≡ held.V (Some v') → v'.loc ≡ v.loc
  loc_same q X at v v' is then_is = go (held_case bag (name.V q))
    where
      go : HeldCase bag (name.V q) → v'.loc ≡ v.loc
      go (inr c) =
          let kept = what_kept world rows running W st image.pid job image.own bag site d bag' (holds world C k valid rows running W st L s image job bag site d bag' start hand fits step mine wants missing absent at_home homes here on_site) step (name.V q) c.1 (unborn world C k valid rows running W st L s image job bag site d bag' start hand fits step mine wants missing absent at_home homes here on_site (name.V q) (not_fresh q X at)) in
          ap (λ (x : Vproc). x.loc) (vproc_same v' v (sym then_is ∙ kept ∙ is))
      go (inl c) =
          let c' = held_some bag' (name.V q) (held_same_names step.names (name.V q) ∙ c.2) in
          let old : held_at bag (name.V q) ≡ Some (held.V (Some v)) = c.1 ∙ ap Some (sym (holds world C k valid rows running W st L s image job bag site d bag' start hand fits step mine wants missing absent at_home homes here on_site (name.V q) c.0 c.1) ∙ is) in
          let new : held_at bag' (name.V q) ≡ Some (held.V (Some v')) = c'.1 ∙ ap Some (sym (what_held world rows running W st image.pid job image.own bag site d bag' (holds world C k valid rows running W st L s image job bag site d bag' start hand fits step mine wants missing absent at_home homes here on_site) step (name.V q) c'.0 c'.1) ∙ then_is) in
          step.places q v v' (apart L image.pid q X hand at) (vproc_found bag q (Some v) old) (vproc_found bag' q (Some v') new)

  at_on : (q : Pid) (X : Where) (j : ℕ) (x : View) → L (Proc q) ≡ In X → W.proc q ≡ Some x → IsAt W q j → IsAt (now world C k valid rows running W st L s image job bag site d bag' start hand fits step mine wants missing absent at_home homes here on_site) q j
  at_on q X j x at is h v' then_is = let a = lives q x is in ap (λ (n : NodeId). n.0) (loc_same q X at a.0 v' a.1 then_is) ∙ h a.0 a.1

  fine_on : (q : Pid) (X : Where) (x : View) → L (Proc q) ≡ In X → W.proc q ≡ Some x → Fine world C k W (Rests world history) s q → Fine world C k (now world C k valid rows running W st L s image job bag site d bag' start hand fits step mine wants missing absent at_home homes here on_site) (OrAmong world C k (Rests world (with_entry history d.entry)) d.nudges) s q
  fine_on q X x at is (inr (TellsHome m)) = inr (TellsHome m)
  fine_on q X x at is (inr (TellsSlot line out m)) = inr (TellsSlot line out m)
  fine_on q X x at is (inr (TellsPlace v f m)) =
      let a = lives_then q x (same_proc world C k valid rows running W st L s image job bag site d bag' start hand fits step mine wants missing absent at_home homes here on_site q X at ∙ is) in
      inr (TellsPlace a.0 a.1 (subst (λ (n : NodeId). IsComing C s n.0 (message.Poke q)) (sym (loc_same q X at v a.0 f a.1)) m))
  fine_on q X x at is (inl rests) = go (is_nudged d.nudges q) refl
    where
      go : (t : Bool) → is_nudged d.nudges q ≡ t → Fine world C k (now world C k valid rows running W st L s image job bag site d bag' start hand fits step mine wants missing absent at_home homes here on_site) (OrAmong world C k (Rests world (with_entry history d.entry)) d.nudges) s q
      go true t = inl (inr t)
      go false t = inl (inl (others_rest world valid rows running W st image job bag site d bag' (holds world C k valid rows running W st L s image job bag site d bag' start hand fits step mine wants missing absent at_home homes here on_site) step mine wants absent (fresh_unheld world C k valid rows running W st L s image job bag site d bag' start hand fits step mine wants missing absent at_home homes here on_site) here history table far q x (apart L image.pid q X hand at) is t rests))

  decided_watch : WatchesAt world C k (now world C k valid rows running W st L s image job bag site d bag' start hand fits step mine wants missing absent at_home homes here on_site) (OrAmong world C k (Rests world (with_entry history d.entry)) d.nudges) s
  decided_watch = watch_on world C k W (now world C k valid rows running W st L s image job bag site d bag' start hand fits step mine wants missing absent at_home homes here on_site) L (Rests world history) (OrAmong world C k (Rests world (with_entry history d.entry)) d.nudges) s s start watch (record {
    at = at_on;
    parked = λ q j x at is h f. fine_on q (Parked j) x at is f;
    comes = λ q i j x at is h f. elim f [ inl a ↦ inl (fine_on q (Wire i j) x at is a) | inr m ↦ inr m ];
  }) (λ X. refl) (own_parked world C k W (Rests world history) s watch) (own_marks world C k W (Rests world history) s watch)

  -- ---- the child's record
  no_line : (line : Line Courier) → slot_at s.slots (name.V site.fresh) ≡ Out line → ⊥
  no_line line e =
      let f = subst (λ a. SlotIs (L (Rec (name.V site.fresh))) (W.what (name.V site.fresh)) a) (slot_here world C k s (name.V site.fresh) homes ∙ e) (start.matches.slots (name.V site.fresh)) in f at_home

  born_watch : (b : Option Vproc) → d.born ≡ b → WatchesAt world C k (now world C k valid rows running W st L s image job bag site d bag' start hand fits step mine wants missing absent at_home homes here on_site) (OrAmong world C k (Rests world (with_entry history d.entry)) d.nudges) (with_born s b)
  born_watch None is = decided_watch
  born_watch (Some v) is =
      let f = forked world valid rows running W st image job bag site d bag' (holds world C k valid rows running W st L s image job bag site d bag' start hand fits step mine wants missing absent at_home homes here on_site) step mine wants absent (fresh_unheld world C k valid rows running W st L s image job bag site d bag' start hand fits step mine wants missing absent at_home homes here on_site) here v is in
      subst (λ u. WatchesAt world C k (now world C k valid rows running W st L s image job bag site d bag' start hand fits step mine wants missing absent at_home homes here on_site) (OrAmong world C k (Rests world (with_entry history d.entry)) d.nudges) (record s { slots = with_slot s.slots (name.V u) (Home (held.V (Some v))); serial = s.serial + 1 })) (sym f.born.pid)
      (watch_still world C k (now world C k valid rows running W st L s image job bag site d bag' start hand fits step mine wants missing absent at_home homes here on_site) (OrAmong world C k (Rests world (with_entry history d.entry)) d.nudges) s s' decided_watch
      (more_written world C k s s' (name.V site.fresh) (Home (held.V (Some v))) refl refl refl (λ line e m. absurd (no_line line e)))
      same_items (own_parked world C k (now world C k valid rows running W st L s image job bag site d bag' start hand fits step mine wants missing absent at_home homes here on_site) (OrAmong world C k (Rests world (with_entry history d.entry)) d.nudges) s decided_watch) (own_marks world C k (now world C k valid rows running W st L s image job bag site d bag' start hand fits step mine wants missing absent at_home homes here on_site) (OrAmong world C k (Rests world (with_entry history d.entry)) d.nudges) s decided_watch))
    where
      s' : State
      s' = record s { slots = with_slot s.slots (name.V site.fresh) (Home (held.V (Some v))); serial = s.serial + 1 }

      lines : (a : Slot Held (Line Courier)) → slot_at s.slots (name.V site.fresh) ≡ a → (line_of a).waiters ≡ []
      lines (Home h) e = refl
      lines (Out line) e = absurd (no_line line e)

      same_items : (X : Where) → items_at world.nodes C k (record s { slots = with_slot s.slots (name.V site.fresh) (Home (held.V (Some v))); serial = s.serial + 1 }) X ≡ items_at world.nodes C k s X
      same_items X = unchanged world C k (written world C k s (name.V site.fresh) (Home (held.V (Some v)))) (record s { slots = with_slot s.slots (name.V site.fresh) (Home (held.V (Some v))); serial = s.serial + 1 }) local X
          ∙ write_same world C k s (name.V site.fresh) (Home (held.V (Some v))) (ap (λ b. (line_of b).waiters) (slot_at-put_home s.slots (name.V site.fresh) (held.V (Some v))) ∙ sym (lines (slot_at s.slots (name.V site.fresh)) refl)) X
        where
          local : (Y : Where) → stored (record s { slots = with_slot s.slots (name.V site.fresh) (Home (held.V (Some v))); serial = s.serial + 1 }) Y ≡ stored (written world C k s (name.V site.fresh) (Home (held.V (Some v)))) Y
          local (Ready j) = refl
          local (Parked j) = refl
          local (InLine n) = refl
          local (Wire i l) = refl

  -- ---- the records
  given_watch_is : WatchesAt world C k (now world C k valid rows running W st L s image job bag site d bag' start hand fits step mine wants missing absent at_home homes here on_site) (OrAmong world C k (Rests world (with_entry history d.entry)) d.nudges) (all_given_back (with_born s d.born) (all_held bag'))
  given_watch_is = bag_watch world C k (now world C k valid rows running W st L s image job bag site d bag' start hand fits step mine wants missing absent at_home homes here on_site) (child_hand world C k valid rows running W st L s image job bag site d bag' start hand fits step mine wants missing absent at_home homes here on_site d.born) image.pid (with_born s d.born) bag' (OrAmong world C k (Rests world (with_entry history d.entry)) d.nudges) (born_bench world C k valid rows running W st L s image job bag site d bag' start hand fits step mine wants missing absent at_home homes here on_site d.born refl) (hand_p world C k valid rows running W st L s image job bag site d bag' start hand fits step mine wants missing absent at_home homes here on_site) (bag_after world C k valid rows running W st L s image job bag site d bag' start hand fits step mine wants missing absent at_home homes here on_site) lives_then (born_watch d.born refl)

  -- ---- the image
  in_bag : (v : Vproc) → vproc_in bag' image.pid ≡ Some v → held_at bag' (name.V image.pid) ≡ Some (held.V (Some v))
  in_bag v e = go (value_at bag'.vprocs image.pid) e
    where
      go : (o : Option (Option Vproc)) → present o ≡ Some v → option_map held.V o ≡ Some (held.V (Some v))
      go None e = cc
      go (Some x) e = ap (λ y. Some (held.V y)) e

  place_is : (v : Vproc) → vproc_in bag' image.pid ≡ Some v → IsAt (now world C k valid rows running W st L s image job bag site d bag' start hand fits step mine wants missing absent at_home homes here on_site) (image_after world image d.own d.phase d.entry).pid v.loc.0
  place_is v e x is =
      let there : (now world C k valid rows running W st L s image job bag site d bag' start hand fits step mine wants missing absent at_home homes here on_site).what (name.V image.pid) ≡ held.V (Some v) = what_held world rows running W st image.pid job image.own bag site d bag' (holds world C k valid rows running W st L s image job bag site d bag' start hand fits step mine wants missing absent at_home homes here on_site) step (name.V image.pid) (held.V (Some v)) (in_bag v e) in
      ap (λ (y : Vproc). y.loc.0) (vproc_same x v (sym is ∙ ap (λ u. (now world C k valid rows running W st L s image job bag site d bag' start hand fits step mine wants missing absent at_home homes here on_site).what (name.V u)) (same_pid world C k valid rows running W st L s image job bag site d bag' start hand fits step mine wants missing absent at_home homes here on_site) ∙ there))

  comes_to : (ph : Phase) → (image_after world image d.own d.phase d.entry).phase ≡ ph → ph ≢ phases.Gone → (T : Pid → Type 0) (M : Type 0) → ((q : Pid) → Rests world (with_entry history d.entry) q → T q) → IfRests ph (T (image_after world image d.own d.phase d.entry).pid ⊎ M)
  comes_to phases.Ready is ne T M t = tt
  comes_to phases.Gone is ne T M t = absurd (ne refl)
  comes_to phases.Asleep is ne T M t = inl (t _ (subst (λ u. Rests world (with_entry history d.entry) u) (sym (same_pid world C k valid rows running W st L s image job bag site d bag' start hand fits step mine wants missing absent at_home homes here on_site)) (caller_rests world valid rows running W st image job bag site d bag' (holds world C k valid rows running W st L s image job bag site d bag' start hand fits step mine wants missing absent at_home homes here on_site) step mine wants absent (fresh_unheld world C k valid rows running W st L s image job bag site d bag' start hand fits step mine wants missing absent at_home homes here on_site) here history table far (subst IsResting (sym is) tt))))
  comes_to phases.Stopped is ne T M t = inl (t _ (subst (λ u. Rests world (with_entry history d.entry) u) (sym (same_pid world C k valid rows running W st L s image job bag site d bag' start hand fits step mine wants missing absent at_home homes here on_site)) (caller_rests world valid rows running W st image job bag site d bag' (holds world C k valid rows running W st L s image job bag site d bag' start hand fits step mine wants missing absent at_home homes here on_site) step mine wants absent (fresh_unheld world C k valid rows running W st L s image job bag site d bag' start hand fits step mine wants missing absent at_home homes here on_site) here history table far (subst IsResting (sym is) tt))))

  settled_watch : WatchesAt world C k (now world C k valid rows running W st L s image job bag site d bag' start hand fits step mine wants missing absent at_home homes here on_site) (OrAmong world C k (Rests world (with_entry history d.entry)) d.nudges) (settled (all_given_back (with_born s d.born) (all_held bag')) (place_in bag' image.pid) (image_after world image d.own d.phase d.entry))
  settled_watch = go (image_after world image d.own d.phase d.entry).phase refl (own_view world C k valid rows running W st L s image job bag site d bag' start hand fits step mine wants missing absent at_home homes here on_site)
    where
      arrives : (s' : State) (j : ℕ) (v : Vproc) → vproc_in bag' image.pid ≡ Some v → (image_after world image d.own d.phase d.entry).phase ≢ phases.Gone →
          ImageWatched (now world C k valid rows running W st L s image job bag site d bag' start hand fits step mine wants missing absent at_home homes here on_site) (Fine world C k (now world C k valid rows running W st L s image job bag site d bag' start hand fits step mine wants missing absent at_home homes here on_site) (OrAmong world C k (Rests world (with_entry history d.entry)) d.nudges) s') (Marks world C k s') (image_after world image d.own d.phase d.entry) (Wire j v.loc.0)
      arrives s' j v is ne = (
        place_is v is,
        comes_to (image_after world image d.own d.phase d.entry).phase refl ne (Fine world C k (now world C k valid rows running W st L s image job bag site d bag' start hand fits step mine wants missing absent at_home homes here on_site) (OrAmong world C k (Rests world (with_entry history d.entry)) d.nudges) s') (Marks world C k s' v.loc.0 (image_after world image d.own d.phase d.entry).pid ≡ true) (λ q r. inl (inl r)),
      )

      at : (v : Vproc) → vproc_in bag' image.pid ≡ Some v → (image_after world image d.own d.phase d.entry).phase ≢ phases.Gone →
          WatchesAt world C k (now world C k valid rows running W st L s image job bag site d bag' start hand fits step mine wants missing absent at_home homes here on_site) (OrAmong world C k (Rests world (with_entry history d.entry)) d.nudges) (settled_at (all_given_back (with_born s d.born) (all_held bag')) v.loc.0 (image_after world image d.own d.phase d.entry))
      at v is ne = by (v.loc.0 == (all_given_back (with_born s d.born) (all_held bag')).id) refl
        where
          by : (t : Bool) → (v.loc.0 == (all_given_back (with_born s d.born) (all_held bag')).id) ≡ t →
              WatchesAt world C k (now world C k valid rows running W st L s image job bag site d bag' start hand fits step mine wants missing absent at_home homes here on_site) (OrAmong world C k (Rests world (with_entry history d.entry)) d.nudges) (cond t (placed (all_given_back (with_born s d.born) (all_held bag')) (image_after world image d.own d.phase d.entry)) (posted (all_given_back (with_born s d.born) (all_held bag')) v.loc.0 (message.Back (image_after world image d.own d.phase d.entry))))
          by true t =
              let s2 = all_given_back (with_born s d.born) (all_held bag') in
              placed_watch world C k (now world C k valid rows running W st L s image job bag site d bag' start hand fits step mine wants missing absent at_home homes here on_site) (given world C k valid rows running W st L s image job bag site d bag' start hand fits step mine wants missing absent at_home homes here on_site).places s2 (image_after world image d.own d.phase d.entry) (OrAmong world C k (Rests world (with_entry history d.entry)) d.nudges) (given world C k valid rows running W st L s image job bag site d bag' start hand fits step mine wants missing absent at_home homes here on_site).bench
              (ap (λ u. (given world C k valid rows running W st L s image job bag site d bag' start hand fits step mine wants missing absent at_home homes here on_site).places (Proc u)) (same_pid world C k valid rows running W st L s image job bag site d bag' start hand fits step mine wants missing absent at_home homes here on_site) ∙ (given world C k valid rows running W st L s image job bag site d bag' start hand fits step mine wants missing absent at_home homes here on_site).hand)
              (subst (λ n. ImageWatched (now world C k valid rows running W st L s image job bag site d bag' start hand fits step mine wants missing absent at_home homes here on_site) (Fine world C k (now world C k valid rows running W st L s image job bag site d bag' start hand fits step mine wants missing absent at_home homes here on_site) (OrAmong world C k (Rests world (with_entry history d.entry)) d.nudges) s2) (Marks world C k s2) (image_after world image d.own d.phase d.entry) (Wire k n)) (eqb-true _ _ t ∙ (given world C k valid rows running W st L s image job bag site d bag' start hand fits step mine wants missing absent at_home homes here on_site).bench.id) (arrives s2 k v is ne))
              given_watch_is
          by false t =
              let s2 = all_given_back (with_born s d.born) (all_held bag') in
              watch_post world C k (now world C k valid rows running W st L s image job bag site d bag' start hand fits step mine wants missing absent at_home homes here on_site) (OrAmong world C k (Rests world (with_entry history d.entry)) d.nudges) s2 v.loc.0 (message.Back (image_after world image d.own d.phase d.entry)) (ImageItem (image_after world image d.own d.phase d.entry)) (λ xs. refl)
              (arrives (posted s2 v.loc.0 (message.Back (image_after world image d.own d.phase d.entry))) k v is ne) given_watch_is

      living : (ph : Phase) → (image_after world image d.own d.phase d.entry).phase ≡ ph → ph ≢ phases.Gone → (now world C k valid rows running W st L s image job bag site d bag' start hand fits step mine wants missing absent at_home homes here on_site).proc image.pid ≡ Some (view (image_after world image d.own d.phase d.entry)) → ((v : Vproc) → settled_in (all_given_back (with_born s d.born) (all_held bag')) (Some v.loc) (image_after world image d.own d.phase d.entry) ph ≡ settled_at (all_given_back (with_born s d.born) (all_held bag')) v.loc.0 (image_after world image d.own d.phase d.entry)) →
          WatchesAt world C k (now world C k valid rows running W st L s image job bag site d bag' start hand fits step mine wants missing absent at_home homes here on_site) (OrAmong world C k (Rests world (with_entry history d.entry)) d.nudges) (settled_in (all_given_back (with_born s d.born) (all_held bag')) (place_in bag' image.pid) (image_after world image d.own d.phase d.entry) ph)
      living ph is ne e same =
          let v = own_vproc world C k valid rows running W st L s image job bag site d bag' start hand fits step mine wants missing absent at_home homes here on_site (image_after world image d.own d.phase d.entry) e in
          subst (λ o. WatchesAt world C k (now world C k valid rows running W st L s image job bag site d bag' start hand fits step mine wants missing absent at_home homes here on_site) (OrAmong world C k (Rests world (with_entry history d.entry)) d.nudges) (settled_in (all_given_back (with_born s d.born) (all_held bag')) o (image_after world image d.own d.phase d.entry) ph)) (sym (ap (option_map (λ (w : Vproc). w.loc)) v.1))
          (subst (WatchesAt world C k (now world C k valid rows running W st L s image job bag site d bag' start hand fits step mine wants missing absent at_home homes here on_site) (OrAmong world C k (Rests world (with_entry history d.entry)) d.nudges)) (sym (same v.0)) (at v.0 v.1 (λ g. ne (sym is ∙ g))))

      go : (ph : Phase) → (image_after world image d.own d.phase d.entry).phase ≡ ph → (now world C k valid rows running W st L s image job bag site d bag' start hand fits step mine wants missing absent at_home homes here on_site).proc image.pid ≡ view_unless_gone ph (image_after world image d.own d.phase d.entry) →
          WatchesAt world C k (now world C k valid rows running W st L s image job bag site d bag' start hand fits step mine wants missing absent at_home homes here on_site) (OrAmong world C k (Rests world (with_entry history d.entry)) d.nudges) (settled_in (all_given_back (with_born s d.born) (all_held bag')) (place_in bag' image.pid) (image_after world image d.own d.phase d.entry) ph)
      go phases.Gone is e = given_watch_is
      go phases.Ready is e = living phases.Ready is (λ x. cc) e (λ v. refl)
      go phases.Asleep is e = living phases.Asleep is (λ x. cc) e (λ v. refl)
      go phases.Stopped is e = living phases.Stopped is (λ x. cc) e (λ v. refl)

  -- ---- the child's image
  child_watch : (b : Option Vproc) → d.born ≡ b →
      WatchesAt world C k (now world C k valid rows running W st L s image job bag site d bag' start hand fits step mine wants missing absent at_home homes here on_site) (OrAmong world C k (Rests world (with_entry history d.entry)) d.nudges) (child_placed (settled (all_given_back (with_born s d.born) (all_held bag')) (place_in bag' image.pid) (image_after world image d.own d.phase d.entry)) (child_of world image b))
  child_watch None is = settled_watch
  child_watch (Some v) is =
      let f = forked world valid rows running W st image job bag site d bag' (holds world C k valid rows running W st L s image job bag site d bag' start hand fits step mine wants missing absent at_home homes here on_site) step mine wants absent (fresh_unheld world C k valid rows running W st L s image job bag site d bag' start hand fits step mine wants missing absent at_home homes here on_site) here v is in
      let ci = child_image image v.pid f.child in
      let s3 = settled (all_given_back (with_born s d.born) (all_held bag')) (place_in bag' image.pid) (image_after world image d.own d.phase d.entry) in
      let ne : v.pid.0 ≢ image.pid.0 = (λ e. not_child world C k valid rows running W st L s image job bag site d bag' start hand fits step mine wants missing absent at_home homes here on_site v (ap (λ (m : ℕ). record { 0 = m }) (sym e)) f) in
      let in_hand : (settled_keeps world C k valid rows running W st L s image job bag site d bag' start hand fits step mine wants missing absent at_home homes here on_site).places (Proc v.pid) ≡ Hand = (settled_keeps world C k valid rows running W st L s image job bag site d bag' start hand fits step mine wants missing absent at_home homes here on_site).keeps.hand v.pid ne ((given world C k valid rows running W st L s image job bag site d bag' start hand fits step mine wants missing absent at_home homes here on_site).keeps.hand v.pid ne (ap (λ u. child_hand world C k valid rows running W st L s image job bag site d bag' start hand fits step mine wants missing absent at_home homes here on_site d.born (Proc u)) f.born.pid ∙ ap (λ o. child_hand world C k valid rows running W st L s image job bag site d bag' start hand fits step mine wants missing absent at_home homes here on_site o (Proc site.fresh)) is ∙ moved-same L (Proc site.fresh) Hand)) in
      let there : (now world C k valid rows running W st L s image job bag site d bag' start hand fits step mine wants missing absent at_home homes here on_site).what (name.V site.fresh) ≡ held.V (Some v) =
      ap (λ o. unwrap_or o (unwrap_or (born_at d.born (name.V site.fresh)) (W.what (name.V site.fresh)))) (held_none bag' (name.V site.fresh) (held_same_names step.names (name.V site.fresh) ∙ fresh_unheld world C k valid rows running W st L s image job bag site d bag' start hand fits step mine wants missing absent at_home homes here on_site))
      ∙ ap (λ b. unwrap_or (born_at b (name.V site.fresh)) (W.what (name.V site.fresh))) is
      ∙ ap (λ t. unwrap_or (cond t (Some (held.V (Some v))) None) (W.what (name.V site.fresh))) (eq-eqb (site.fresh).0 v.pid.0 (ap (λ (u : Pid). u.0) (sym f.born.pid))) in
      subst (λ o. WatchesAt world C k (now world C k valid rows running W st L s image job bag site d bag' start hand fits step mine wants missing absent at_home homes here on_site) (OrAmong world C k (Rests world (with_entry history d.entry)) d.nudges) (child_placed s3 o)) (sym f.is)
      (placed_watch world C k (now world C k valid rows running W st L s image job bag site d bag' start hand fits step mine wants missing absent at_home homes here on_site) (settled_keeps world C k valid rows running W st L s image job bag site d bag' start hand fits step mine wants missing absent at_home homes here on_site).places s3 ci (OrAmong world C k (Rests world (with_entry history d.entry)) d.nudges) (settled_keeps world C k valid rows running W st L s image job bag site d bag' start hand fits step mine wants missing absent at_home homes here on_site).bench in_hand
      ((λ x e. ap (λ (y : Vproc). y.loc.0) (vproc_same x v (sym e ∙ ap (λ u. (now world C k valid rows running W st L s image job bag site d bag' start hand fits step mine wants missing absent at_home homes here on_site).what (name.V u)) f.born.pid ∙ there)) ∙ ap (λ (n : NodeId). n.0) f.born.place ∙ on_site), tt) settled_watch)

  -- a decision, and all that follows from it
  pub finished_watch : WatchesAt world C k (now world C k valid rows running W st L s image job bag site d bag' start hand fits step mine wants missing absent at_home homes here on_site) (Rests world (with_entry history d.entry)) (finished world s image bag' d)
  finished_watch =
      let c = child_keeps world C k valid rows running W st L s image job bag site d bag' start hand fits step mine wants missing absent at_home homes here on_site d.born refl in
      let s4 = child_placed (settled (all_given_back (with_born s d.born) (all_held bag')) (place_in bag' image.pid) (image_after world image d.own d.phase d.entry)) (child_of world image d.born) in
      all_nudged_watch world C k (now world C k valid rows running W st L s image job bag site d bag' start hand fits step mine wants missing absent at_home homes here on_site) c.places s4 d.nudges (Rests world (with_entry history d.entry)) c.bench lives_then (child_watch d.born refl)
