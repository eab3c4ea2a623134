-- where each record and each process of a cluster is
use Rattle.std.specs.Prelude.{ℕ, Bool, true, false, ◌≡◌, ◌≢◌, ◌⊎◌, ◌<◌, ◌≤◌, ◌+◌, ◌*◌, ◌==◌, List, [], ◌∷◌, Option, None, Some, if◌then◌else◌}
use Rattle.unix_names.specs.declared.Pid.{Pid}
use Rattle.unix_names.specs.declared.NodeId.{NodeId}
use Rattle.unix_names.specs.declared.Name.{Name}
use Rattle.unix_names.specs.Names.{home, pid_of}
use Rattle.unix_calls.specs.declared.Job.{Job}
use Rattle.unix_calls.specs.declared.Job.TheVariants.{Push}
use Rattle.unix_calls.specs.declared.World.{World}
use Rattle.decide_law.specs.Law.{is_stopped_phase}
use Rattle.signal_state.specs.declared.Own.{Own}
use Rattle.ordered_table.specs.Entries.{IsRising}
use Rattle.proc_image.specs.declared.image.Image.{Image}
use Rattle.proc_image.specs.Scripts.{Progress}
use Rattle.proc_image.specs.Images.{progress_of, next_job}
use Rattle.record_bag.specs.declared.Held.{Held}
use Rattle.record_bag.specs.declared.Bag.{Bag}
use Rattle.record_bag.specs.Bags.{is_held, held_at}
use Rattle.unix_names.specs.Names.{is_before}
use Rattle.record_bag.specs.Kinds.{of_kind}
use Rattle.record_table.specs.declared.slot.Slot.{Slot}
use Rattle.record_table.specs.declared.slot.Slot.TheVariants.{Home, Out}
use Rattle.record_table.specs.declared.slot.Line.{Line}
use Rattle.courier_core.specs.declared.courier.Courier.{Courier}
use Rattle.courier_core.specs.Wants.{is_name, lists}
use Rattle.unix_names.specs.declared.limits.TheConstants.{NO_PID, PIDS_PER_NODE}

-- the containers: a node's ready queue and its parked images, the line at a name's home, the wire from one node to another
pub data Where : Type 0 where
  Ready : ℕ → Where
  Parked : ℕ → Where
  InLine : Name → Where
  Wire : ℕ → ℕ → Where

-- a thing is in a container, in hand in the turn that runs, rests at home, is in the bag of a process's courier, or is not
pub data Spot : Type 0 where
  In : Where → Spot
  Hand : Spot
  AtHome : Spot
  With : Pid → Spot
  Nowhere : Spot

-- what is placed: the one image of a process, in a courier or not, and the one record of a name
pub data Token : Type 0 where
  Proc : Pid → Token
  Rec : Name → Token

abbrev pub is_token : Token → Token → Bool
is_token (Proc p) (Proc q) = p.0 == q.0
is_token (Proc p) (Rec n) = false
is_token (Rec n) (Proc p) = false
is_token (Rec n) (Rec m) = is_name n m

abbrev pub Places : Type 0
Places = Token → Spot

abbrev pub moved : Places → Token → Spot → Places
moved places t spot u = if is_token t u then spot else places u

-- a process is in a container, in hand or nowhere; a record is anywhere but nowhere
abbrev pub ProcSpot : Spot → Type 0
ProcSpot (In X) = Unit {0}
ProcSpot Hand = Unit {0}
ProcSpot Nowhere = Unit {0}
ProcSpot AtHome = ⊥
ProcSpot (With p) = ⊥

abbrev pub RecSpot : Spot → Type 0
RecSpot Nowhere = ⊥
RecSpot _ = Unit {0}

pub record Sane (L : Places) : Type 0 where
  pub procs : (q : Pid) → ProcSpot (L (Proc q))
  pub recs : (n : Name) → RecSpot (L (Rec n))

-- what of an image counts: being woken does not change it
pub record View : Type 0 where
  pub at : Progress
  pub own : Own
  pub stopped : Bool

abbrev pub view : Image → View
view image = record { at = progress_of image; own = image.own; stopped = is_stopped_phase image.phase }

-- the one record of each name, what each process is, and each node's next serial
pub record Contents : Type 0 where
  pub what : Name → Held
  pub proc : Pid → Option View
  pub serials : ℕ → ℕ

-- a number that some node is still to give out
pub record IsUngiven (world : World) (serials : ℕ → ℕ) (q : ℕ) : Type 0 where
  pub node : ℕ
  pub serial : ℕ
  pub within : node < world.nodes
  pub is : q ≡ PIDS_PER_NODE * node + serial
  pub from : serials node ≤ serial
  pub small : serial < PIDS_PER_NODE
  pub somebody : q ≢ NO_PID

-- a number that no node is still to give out
abbrev pub Known : World → Contents → ℕ → Type 0
Known world W q = IsUngiven world W.serials q → ⊥

-- ---- what stands in containers
pub data Item : Type 0 where
  CourierItem : Courier → Item
  ImageItem : Image → Item
  ParkedItem : Pid → Image → Item
  RecordItem : Name → Held → Item

abbrev pub token : Item → Token
token (CourierItem c) = Proc c.image.pid
token (ImageItem i) = Proc i.pid
token (ParkedItem p i) = Proc p
token (RecordItem n h) = Rec n

abbrev pub carried_by : Pid → Spot → Held → Option Held
carried_by p (With q) h = if q.0 == p.0 then Some h else None
carried_by p (In X) h = None
carried_by p Hand h = None
carried_by p AtHome h = None
carried_by p Nowhere h = None

-- what is in the bag of a process's courier
abbrev pub carried : Contents → Places → Pid → Name → Option Held
carried W L p n = carried_by p (L (Rec n)) (W.what n)

abbrev pub JobFits : World → Image → Job → Type 0
JobFits world image job = (job ≡ next_job world image) ⊎ ((k : NodeId) × (job ≡ Push k) × (is_stopped_phase image.phase ≡ false) × (k.0 < world.nodes))

abbrev pub ImageFits : Contents → Image → Type 0
ImageFits W image = W.proc image.pid ≡ Some (view image)

pub record BagFits (W : Contents) (L : Places) (p : Pid) (bag : Bag) : Type 0 where
  pub holds : (n : Name) → held_at bag n ≡ carried W L p n
  pub vprocs : IsRising bag.vprocs
  pub groups : IsRising bag.groups

-- a wanted name below a held one is held
abbrev pub Below : Courier → Type 0
Below c = (w m : Name) → lists c.wants w ≡ true → is_held c.bag m ≡ true → is_before w m ≡ true → is_held c.bag w ≡ true

-- who waits for a name holds no greater one, and holds each lesser one that it wants
pub record WaitsFor (x : Name) (c : Courier) : Type 0 where
  pub lacks : is_held c.bag x ≡ false
  pub highest : (m : Name) → is_held c.bag m ≡ true → is_before x m ≡ false
  pub least : (w : Name) → lists c.wants w ≡ true → is_before w x ≡ true → is_held c.bag w ≡ true

abbrev pub Waits : Where → Courier → Type 0
Waits (InLine x) c = WaitsFor x c
Waits _ c = Unit {0}

pub record CourierFits (world : World) (W : Contents) (L : Places) (c : Courier) : Type 0 where
  pub image : ImageFits W c.image
  pub job : JobFits world c.image c.job
  pub bag : BagFits W L c.image.pid c.bag
  pub wants : (n : Name) → lists c.wants n ≡ true → Known world W (pid_of n)
  pub below : Below c

-- a process whose courier holds nothing, or that has none
abbrev pub Bare : Contents → Places → Pid → Type 0
Bare W L p = (n : Name) → carried W L p n ≡ None

-- a record travels to its name's home
abbrev pub GoesHome : World → Where → Name → Type 0
GoesHome world (Wire j k) n = home n world.nodes ≡ k
GoesHome world _ n = ⊥

abbrev pub ItemFits : World → Contents → Places → Where → Item → Type 0
ItemFits world W L X (CourierItem c) = (L (Proc c.image.pid) ≡ In X) × CourierFits world W L c × Waits X c
ItemFits world W L X (ImageItem i) = (L (Proc i.pid) ≡ In X) × ImageFits W i × Bare W L i.pid
ItemFits world W L X (ParkedItem p i) = (L (Proc p) ≡ In X) × (i.pid ≡ p) × ImageFits W i × Bare W L p
ItemFits world W L X (RecordItem n h) = (L (Rec n) ≡ In X) × (W.what n ≡ h) × GoesHome world X n

-- none of these is that thing
abbrev pub Lacks : Token → List Item → Type 0
Lacks t [] = Unit {0}
Lacks t (x ∷ xs) = (token x ≢ t) × Lacks t xs

-- one of these is that thing
abbrev pub Occurs : Token → List Item → Type 0
Occurs t [] = ⊥
Occurs t (x ∷ xs) = (token x ≡ t) ⊎ Occurs t xs

-- each thing in a container is said to be there, stands there once and is what it is said to be
abbrev pub Fits : World → Contents → Places → Where → List Item → Type 0
Fits world W L X [] = Unit {0}
Fits world W L X (x ∷ xs) = ItemFits world W L X x × Lacks (token x) xs × Fits world W L X xs

-- a record is at home exactly if it is said to be
abbrev pub SlotIs : Spot → Held → Slot Held (Line Courier) → Type 0
SlotIs spot h (Home stands) = (spot ≡ AtHome) × (stands ≡ h)
SlotIs spot h (Out line) = spot ≢ AtHome

-- the containers and the slots are as the placement says
pub record Matches (world : World) (W : Contents) (L : Places) (F : Where → List Item) (S : Name → Slot Held (Line Courier)) : Type 0 where
  pub kinds : (n : Name) → of_kind n (W.what n) ≡ W.what n
  pub slots : (n : Name) → SlotIs (L (Rec n)) (W.what n) (S n)
  pub items : (X : Where) → Fits world W L X (F X)
  -- what is said to be in a container is there
  pub whole : (t : Token) (X : Where) → L t ≡ In X → Occurs t (F X)
