-- in the first cluster no image rests
use Rattle.std.proofs.Common.{ℕ, Bool, List, [], ◌∷◌, map}
use Rattle.unix_names.specs.declared.Pid.{Pid}
use Rattle.unix_names.specs.declared.Name.{Name}
use Rattle.unix_calls.specs.declared.World.{World}
use Rattle.unix_calls.specs.Valid.{IsValid}
use Rattle.record_table.specs.Places.{line_of}
use Rattle.courier_core.specs.declared.courier.Courier.{Courier}
use Rattle.node_state.specs.declared.Waiting.{Waiting}
use Rattle.node_state.specs.declared.Waiting.TheVariants as waiting
use Rattle.cluster_state.specs.Cluster.{first_cluster}
use Rattle.cluster_contents.specs.Placement.{Where, Ready, Parked, InLine, Wire, Contents, CourierItem}
use Rattle.cluster_moves.specs.Benches.{of_waiting, items, slots}
use Rattle.cluster_watch.specs.Watched.{IsFlying, IsFine, marked_in, AllWatched, AreWatched, Rests}
use Rattle.cluster_stands.proofs.First.{first_contents}

ready_watched : (W : Contents) (T : Pid → Type 0) (M : ℕ → Pid → Bool) (k : ℕ) (ws : List Waiting) → AllWatched W T M (Ready k) (map of_waiting ws)
ready_watched W T M k [] = tt
ready_watched W T M k (waiting.Image i ∷ ws) = (tt, ready_watched W T M k ws)
ready_watched W T M k (waiting.Courier c ∷ ws) = (tt, ready_watched W T M k ws)

line_watched : (W : Contents) (T : Pid → Type 0) (M : ℕ → Pid → Bool) (n : Name) (cs : List Courier) → AllWatched W T M (InLine n) (map CourierItem cs)
line_watched W T M n [] = tt
line_watched W T M n (c ∷ cs) = (tt, line_watched W T M n cs)

module _ (world : World) (valid : IsValid world) where
  all_first : (T : Pid → Type 0) (M : ℕ → Pid → Bool) (X : Where) → AllWatched (first_contents world valid) T M X (items world.nodes (first_cluster world) X)
  all_first T M (Ready k) = ready_watched (first_contents world valid) T M k ((first_cluster world).nodes k).ready
  all_first T M (Parked k) = tt
  all_first T M (InLine n) = line_watched (first_contents world valid) T M n (line_of (slots world.nodes (first_cluster world) n)).waiters
  all_first T M (Wire i j) = tt

  pub first_watched : AreWatched world (first_cluster world) (first_contents world valid) (Rests world [])
  first_watched = record {
    items = all_first (IsFine world (first_contents world valid) (Rests world []) (first_cluster world).nodes (IsFlying (first_cluster world))) (marked_in (first_cluster world).nodes);
    parked_rise = λ j. tt;
    marks_rise = λ j. tt;
  }
