-- where a cluster is quiet, and each parked process is watched, its history is finished
use Rattle.std.proofs.Common.{◌≡◌, inl, inr, ℕ, true, false, List, [], ◌∷◌, refl, sym, ◌∙◌, subst, Option, None, Some}
use Rattle.std.specs.Prelude.{map, Bool}
use Rattle.unix_names.specs.declared.Pid.{Pid}
use Rattle.unix_names.specs.declared.Name.TheVariants as name
use Rattle.unix_names.specs.Names.{home}
use Rattle.unix_names.specs.States.{is_living}
use Rattle.unix_calls.specs.declared.Entry.{Entry}
use Rattle.unix_calls.specs.declared.World.{World}
use Rattle.proc_image.specs.Follows.{first_running, after_entries}
use Rattle.courier_core.specs.declared.courier.Message.{Message}
use Rattle.courier_core.specs.declared.courier.Message.TheVariants as message
use Rattle.process_table.specs.declared.Row.{Row}
use Rattle.process_table.specs.Rows.{row_of}
use Rattle.kernel_model.specs.Legal.{after_all}
use Rattle.audit_core.specs.Finished.{IsFinished}
use Rattle.history_laws.specs.Living.{IsOver}
use Rattle.cluster_state.specs.Cluster.{Cluster}
use Rattle.cluster_contents.specs.Placement.{Where, Ready, Parked, InLine, Wire, Spot, In, Hand, AtHome, With, Nowhere, ProcSpot, Proc, Places, Contents, View, CourierItem, Occurs}
use Rattle.cluster_state.specs.Quiet.{IsQuiet}
use Rattle.cluster_stands.specs.Stands.{StandsBy}
use Rattle.cluster_laws.specs.Wires.{StaysInside}
use Rattle.cluster_contents.specs.Standing.{ProcessIs}
use Rattle.ordered_table.specs.declared.Entry.{Entry as ParkedEntry}
use Rattle.proc_image.specs.declared.image.Image.{Image}
use Rattle.cluster_moves.specs.Benches.{of_parked}
use Rattle.cluster_watch.specs.Watched.{IsOn, IsFlying, From, slot_in, marked_in, IsTold, Nudged, Marked, Poked, IsFine, AllWatched, AreWatched, Rests}
use Rattle.cluster_laws.proofs.Quiet.{nothing_ready, no_message, nothing_flies, all_home, no_courier}

-- what is said of a parked image
parked_fine : (W : Contents) (T : Pid → Type 0) (M : ℕ → Pid → Bool) (k : ℕ) (q : Pid) (es : List (ParkedEntry Image)) → Occurs (Proc q) (map of_parked es) → AllWatched W T M (Parked k) (map of_parked es) → T q
parked_fine W T M k q [] o a = absurd o
parked_fine W T M k q (e ∷ es) (inl same) a = let is : e.pid ≡ q = cc in subst T is (a.0).2
parked_fine W T M k q (e ∷ es) (inr o) a = parked_fine W T M k q es o a.1

module _ (world : World) (number : ℕ) (history : List Entry) (C : Cluster) (W : Contents) (L : Places) (s : StandsBy world number (after_all world history) (after_entries world (first_running world) history) C W L) (stays : StaysInside world.nodes C) (quiet : IsQuiet world.nodes C) (watched : AreWatched world C W (Rests world history)) where
  none_flies : (l : ℕ) (m : Message) → IsFlying C l m → ⊥
  none_flies l m (From i o) = subst (IsOn m) (no_message world number (after_all world history) (after_entries world (first_running world) history) C W L s stays quiet i l) o

  not_told : (q : Pid) → IsTold world W (slot_in world.nodes C.nodes) (IsFlying C) q → ⊥
  not_told q (Nudged n) = none_flies (home (name.V q) world.nodes) (message.Nudge q) n
  not_told q (Poked v is n) = none_flies v.loc.0 (message.Poke q) n
  not_told q (Marked line out marked) =
      let h = all_home world number (after_all world history) (after_entries world (first_running world) history) C W L s stays quiet (name.V q) in
      cc (sym out ∙ h.1)

  -- a living process's image is parked
  parked : (q : Pid) (r : Row) → row_of (after_all world history) q ≡ Some r → is_living r.life ≡ true → (k : ℕ) × (L (Proc q) ≡ In (Parked k))
  parked q r there lives = go (L (Proc q)) refl (s.sane.procs q)
    where
      inside : (X : Where) → L (Proc q) ≡ In X → (k : ℕ) × (L (Proc q) ≡ In (Parked k))
      inside (Parked k) at = (k, at)
      inside (Ready k) at = absurd (subst (Occurs (Proc q)) (nothing_ready world number (after_all world history) (after_entries world (first_running world) history) C W L s stays quiet k) (s.matches.whole (Proc q) (Ready k) at))
      inside (Wire i j) at = absurd (subst (Occurs (Proc q)) (nothing_flies world number (after_all world history) (after_entries world (first_running world) history) C W L s stays quiet i j) (s.matches.whole (Proc q) (Wire i j) at))
      inside (InLine y) at = absurd (subst (λ cs. Occurs (Proc q) (map CourierItem cs)) (no_courier world number (after_all world history) (after_entries world (first_running world) history) C W L s stays quiet y) (s.matches.whole (Proc q) (InLine y) at))

      nobody : (o : Option View) → W.proc q ≡ o → L (Proc q) ≡ Nowhere → ⊥
      nobody (Some x) e at = s.present q x e at
      nobody None e at =
          let over = subst (ProcessIs world (row_of (after_all world history) q) (after_entries world (first_running world) history q.0)) e (s.standing.procs q) in
          let x : is_living r.life ≡ false = subst IsOver there over in
          cc

      go : (o : Spot) → L (Proc q) ≡ o → ProcSpot o → (k : ℕ) × (L (Proc q) ≡ In (Parked k))
      go (In X) e fit = inside X e
      go Hand e fit = absurd (s.idle (Proc q) e)
      go Nowhere e fit = absurd (nobody (W.proc q) refl e)
      go AtHome e fit = absurd fit
      go (With p) e fit = absurd fit

  pub finished : IsFinished world history
  finished q r there lives =
      let at = parked q r there lives in
      elim (parked_fine W (IsFine world W (Rests world history) C.nodes (IsFlying C)) (marked_in C.nodes) at.0 q (C.nodes at.0).parked (s.matches.whole (Proc q) (Parked at.0) at.1) (watched.items (Parked at.0))) [ inl rests ↦ rests r there | inr told ↦ absurd (not_told q told) ]
