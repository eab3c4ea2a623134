-- that nobody who could go on is left parked
use Rattle.std.specs.Prelude.{ℕ, Bool, true, ◌≡◌, ◌==◌, ◌⊎◌, List, [], ◌∷◌, ◌++◌, Some, if◌then◌else◌}
use Rattle.unix_names.specs.declared.Pid.{Pid}
use Rattle.unix_names.specs.declared.Name.{Name}
use Rattle.unix_names.specs.declared.Name.TheVariants as name
use Rattle.unix_names.specs.Names.{home}
use Rattle.unix_calls.specs.declared.Entry.{Entry}
use Rattle.unix_calls.specs.declared.Phase.{Phase}
use Rattle.unix_calls.specs.declared.Phase.TheVariants as phases
use Rattle.unix_calls.specs.declared.World.{World}
use Rattle.ordered_table.specs.Entries.{IsRising, has_value}
use Rattle.vproc_record.specs.declared.Vproc.{Vproc}
use Rattle.proc_image.specs.declared.image.Image.{Image}
use Rattle.record_bag.specs.declared.Held.{Held}
use Rattle.record_bag.specs.declared.Held.TheVariants as held
use Rattle.record_table.specs.declared.slot.Slot.{Slot}
use Rattle.record_table.specs.declared.slot.Slot.TheVariants.{Out}
use Rattle.record_table.specs.declared.slot.Line.{Line}
use Rattle.record_table.specs.Slots.{slot_at}
use Rattle.courier_core.specs.declared.courier.Courier.{Courier}
use Rattle.courier_core.specs.declared.courier.Message.{Message}
use Rattle.courier_core.specs.declared.courier.Message.TheVariants as message
use Rattle.process_table.specs.declared.Row.{Row}
use Rattle.process_table.specs.Rows.{row_of}
use Rattle.kernel_model.specs.Legal.{after_all}
use Rattle.kernel_rules.specs.Events.{StaysStopped}
use Rattle.audit_core.specs.Finished.{SleepsOn}
use Rattle.node_state.specs.declared.State.{State}
use Rattle.node_state.specs.declared.Sent.{Sent}
use Rattle.cluster_state.specs.Cluster.{Cluster}
use Rattle.cluster_contents.specs.Placement.{Where, Parked, Wire, Item, CourierItem, ImageItem, ParkedItem, RecordItem, Contents}
use Rattle.cluster_moves.specs.Benches.{stored, owner, flying}

-- ---- news, a second family beside the items: of each node, the messages on their way to it
abbrev pub News : Type 1
News = ℕ → Message → Type 0

-- a wire has this message
abbrev pub IsOn : Message → List Sent → Type 0
IsOn m [] = ⊥
IsOn m (x ∷ xs) = (x.message ≡ m) ⊎ IsOn m xs

-- what is to be sent has this message for node l
abbrev pub GoesTo : ℕ → Message → List Sent → Type 0
GoesTo l m [] = ⊥
GoesTo l m (x ∷ xs) = ((x.to ≡ l) × (x.message ≡ m)) ⊎ GoesTo l m xs

-- the message is on a wire to node l
pub data IsFlying (C : Cluster) (l : ℕ) (m : Message) : Type 0 where
  From : (i : ℕ) → IsOn m (C.wires i l) → IsFlying C l m

-- in a turn: the message is on a wire to node l, or is to be sent there
pub data IsComing (C : Cluster) (s : State) (l : ℕ) (m : Message) : Type 0 where
  Flies : (i : ℕ) → IsOn m (C.wires i l) → IsComing C s l m
  Leaves : GoesTo l m s.out → IsComing C s l m

-- ---- the states of the nodes, as one function
-- the nodes while node k has this state
abbrev pub state_at : Cluster → ℕ → State → ℕ → State
state_at C k s j = if j == k then s else C.nodes j

abbrev pub slot_in : ℕ → (ℕ → State) → Name → Slot Held (Line Courier)
slot_in nodes G n = slot_at (G (home n nodes)).slots n

abbrev pub marked_in : (ℕ → State) → ℕ → Pid → Bool
marked_in G j q = has_value (G j).marks q

abbrev pub items_in : ℕ → (ℕ → ℕ → List Sent) → (ℕ → State) → Where → List Item
items_in nodes wires G X = flying wires X ++ stored (G (owner nodes X)) X

-- ---- who is told
-- news for a process is on its way: to its record's home, with its record, or to its place
pub data IsTold (world : World) (W : Contents) (S : Name → Slot Held (Line Courier)) (N : News) (q : Pid) : Type 0 where
  Nudged : N (home (name.V q) world.nodes) (message.Nudge q) → IsTold world W S N q
  Marked : (line : Line Courier) → S (name.V q) ≡ Out line → line.is_marked ≡ true → IsTold world W S N q
  Poked : (v : Vproc) → W.what (name.V q) ≡ held.V (Some v) → N v.loc.0 (message.Poke q) → IsTold world W S N q

-- a process has nothing to do, or is told
abbrev pub IsFine : World → Contents → (Pid → Type 0) → (ℕ → State) → News → Pid → Type 0
IsFine world W P G N q = P q ⊎ IsTold world W (slot_in world.nodes G) N q

-- ---- what is said of an image that rests, or comes to rest
-- its record, wherever it is, names this place
abbrev pub IsAt : Contents → Pid → ℕ → Type 0
IsAt W q k = (v : Vproc) → W.what (name.V q) ≡ held.V (Some v) → v.loc.0 ≡ k

abbrev pub IsResting : Phase → Type 0
IsResting phases.Asleep = Unit {0}
IsResting phases.Stopped = Unit {0}
IsResting _ = ⊥

-- if the image is to rest; the image of a process that has ended goes nowhere
abbrev pub IfRests : Phase → Type 0 → Type 0
IfRests phases.Ready P = Unit {0}
IfRests phases.Asleep P = P
IfRests phases.Stopped P = P
IfRests phases.Gone P = ⊥

-- a parked image stands at its place, rests, and has nothing to do or is told
abbrev pub ParkedWatched : Contents → (Pid → Type 0) → Pid → Image → Where → Type 0
ParkedWatched W T q i (Parked k) = IsAt W q k × IsResting i.phase × T q
ParkedWatched W T q i _ = Unit {0}

-- an image on a wire goes to its place; if it is to rest, it has nothing to do, is told, or is marked there
abbrev pub ImageWatched : Contents → (Pid → Type 0) → (ℕ → Pid → Bool) → Image → Where → Type 0
ImageWatched W T M i (Wire j k) = IsAt W i.pid k × IfRests i.phase (T i.pid ⊎ (M k i.pid ≡ true))
ImageWatched W T M i _ = Unit {0}

abbrev pub ItemWatched : Contents → (Pid → Type 0) → (ℕ → Pid → Bool) → Item → Where → Type 0
ItemWatched W T M (CourierItem c) X = Unit {0}
ItemWatched W T M (ImageItem i) X = ImageWatched W T M i X
ItemWatched W T M (ParkedItem q i) X = ParkedWatched W T q i X
ItemWatched W T M (RecordItem n h) X = Unit {0}

abbrev pub AllWatched : Contents → (Pid → Type 0) → (ℕ → Pid → Bool) → Where → List Item → Type 0
AllWatched W T M X [] = Unit {0}
AllWatched W T M X (x ∷ xs) = ItemWatched W T M x X × AllWatched W T M X xs

-- each image that rests is watched; P says who has nothing to do
pub record Watches (world : World) (W : Contents) (P : Pid → Type 0) (N : News) (wires : ℕ → ℕ → List Sent) (G : ℕ → State) : Type 0 where
  pub items : (X : Where) → AllWatched W (IsFine world W P G N) (marked_in G) X (items_in world.nodes wires G X)
  pub parked_rise : (j : ℕ) → IsRising (G j).parked
  pub marks_rise : (j : ℕ) → IsRising (G j).marks

-- in a turn of node k
abbrev pub WatchesAt : World → Cluster → ℕ → Contents → (Pid → Type 0) → State → Type 0
WatchesAt world C k W P s = Watches world W P (IsComing C s) C.wires (state_at C k s)

-- between two turns
abbrev pub AreWatched : World → Cluster → Contents → (Pid → Type 0) → Type 0
AreWatched world C W P = Watches world W P (IsFlying C) C.wires C.nodes

-- after this history the process stays stopped, or sleeps on in a wait that was its last call
abbrev pub Rests : World → List Entry → Pid → Type 0
Rests world history q = (r : Row) → row_of (after_all world history) q ≡ Some r → StaysStopped r ⊎ SleepsOn world history r
