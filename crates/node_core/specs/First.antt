-- the state of a node before the first turn
use Rattle.std.specs.Prelude.{ℕ, Bool, false, ◌+◌, ◌==◌, List, [], ◌∷◌, ◌++◌, map, filter, drop, replicate, slice_get, Option, None, Some, option_and_then, if◌then◌else◌}
use Rattle.unix_names.specs.declared.Pid.{Pid}
use Rattle.unix_names.specs.declared.Name.TheVariants as name
use Rattle.unix_names.specs.declared.Life.TheVariants.{Runs}
use Rattle.unix_calls.specs.declared.Start.{Start}
use Rattle.unix_calls.specs.declared.World.{World}
use Rattle.unix_calls.specs.Valid.{starts_at}
use Rattle.vproc_record.specs.declared.Vproc.{Vproc}
use Rattle.group_record.specs.declared.Member.{Member}
use Rattle.group_record.specs.declared.Group.{Group}
use Rattle.proc_image.specs.Images.{start_image}
use Rattle.record_bag.specs.declared.Held.TheVariants as held
use Rattle.record_table.specs.declared.Slot.TheVariants.{Home}
use Rattle.record_table.specs.declared.Slots.{Slots}
use Rattle.record_table.specs.Slots.{with_slot}
use Rattle.courier_core.specs.declared.Courier.{Courier}
use Rattle.node_state.specs.declared.Waiting.{Waiting}
use Rattle.node_state.specs.declared.Waiting.TheVariants as waiting
use Rattle.node_state.specs.declared.State.{State}
use Rattle.node_core.specs.declared.led.Led.{Led}

-- a start leads its own group and session, or has those of the start that it joins
abbrev pub leader_with : Start → Option Led → Pid
leader_with start None = start.pid
leader_with start (Some joined) = joined.leader

abbrev pub led_by : List Led → Start → Led
led_by earlier start = record { start = start; leader = leader_with start (option_and_then (slice_get earlier) start.joined) }

abbrev pub all_led : List Led → List Start → List Led
all_led earlier [] = earlier
all_led earlier (start ∷ starts) = all_led (earlier ++ led_by earlier start ∷ []) starts

-- the starts of a world, each with who leads its group and session
abbrev pub led_starts : World → List Led
led_starts world = all_led [] world.starts

-- the pid of a start
abbrev pub led_number : Led → ℕ
led_number led = led.start.pid.0

-- the record of a start, whose parent is the system process
abbrev pub first_vproc : Led → Vproc
first_vproc led = record {
  pid = led.start.pid;
  parent = record { 0 = 1 };
  group = led.leader;
  session = led.leader;
  uid = led.start.uid;
  life = Runs;
  change = None;
  execed = false;
  ignchld = false;
  loc = led.start.node;
  children = [];
  backlog = [];
}

abbrev pub has_leader : Pid → Led → Bool
has_leader leader led = led.leader.0 == leader.0

abbrev pub first_member : Led → Member
first_member led = record { pid = led.start.pid; from = 0; uid = led.start.uid }

-- a group of starts, in their order; each has the system process as its parent, so there is no link
abbrev pub first_group : List Led → Pid → Group
first_group all leader = record { id = leader; session = leader; members = map first_member (filter (has_leader leader) all); log = []; links = 0; stopped = 0 }

abbrev pub with_first_group : List Led → Led → Slots Courier → Slots Courier
with_first_group all led slots = if led.leader.0 == led.start.pid.0 then with_slot slots (name.G led.leader) (Home (held.G (Some (first_group all led.leader)))) else slots

abbrev pub is_at : ℕ → Start → Bool
is_at k start = start.node.0 == k

-- the record of a start of node k comes to its home, and that of the group that it leads
abbrev pub with_first : ℕ → List Led → Slots Courier → Led → Slots Courier
with_first k all slots led = if is_at k led.start then with_first_group all led (with_slot slots (name.V led.start.pid) (Home (held.V (Some (first_vproc led))))) else slots

abbrev pub first_slots : ℕ → List Led → Slots Courier → List Led → Slots Courier
first_slots k all slots [] = slots
first_slots k all slots (led ∷ rest) = first_slots k all (with_first k all slots led) rest

-- the images of the starts of node k, from the i-th start on
abbrev pub ready_from : World → ℕ → ℕ → List Waiting
ready_from world k i = map (λ start. waiting.Image (start_image world start)) (filter (is_at k) (drop i world.starts))

-- node k before the first turn: its own starts are ready, in their order, and the next process id comes after theirs
abbrev pub first_state : World → ℕ → State
first_state world k = record {
  id = k;
  nodes = world.nodes;
  slots = first_slots k (led_starts world) (record { vprocs = []; groups = [] }) (led_starts world);
  ready = ready_from world k 0;
  parked = [];
  marks = [];
  serial = 2 + starts_at (record { 0 = k }) world.starts;
  sent = replicate world.nodes 0;
  taken = replicate world.nodes 0;
  out = [];
}
