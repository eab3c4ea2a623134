-- how records come back to their homes, and how news reaches processes
use Rattle.std.specs.Prelude.{Bool, true, false, ◌==◌, List, [], ◌∷◌, if◌then◌else◌}
use Rattle.unix_names.specs.declared.Pid.{Pid}
use Rattle.unix_names.specs.declared.Name.{Name}
use Rattle.unix_names.specs.declared.Name.TheVariants as name
use Rattle.unix_names.specs.Names.{home}
use Rattle.record_bag.specs.declared.Held.{Held}
use Rattle.record_bag.specs.Bags.{with_held}
use Rattle.record_table.specs.declared.Slot.{Slot}
use Rattle.record_table.specs.declared.Slot.TheVariants.{Home, Out}
use Rattle.record_table.specs.declared.Line.{Line}
use Rattle.record_table.specs.declared.Nudged.{Nudged}
use Rattle.record_table.specs.declared.Nudged.TheVariants.{Marked, At, Nobody}
use Rattle.record_table.specs.Places.{line_of, poked_at, marked}
use Rattle.record_table.specs.Slots.{slot_at, with_slot}
use Rattle.courier_core.specs.declared.Courier.{Courier}
use Rattle.courier_core.specs.declared.Message.TheVariants as message
use Rattle.node_state.specs.declared.ready.Waiting.TheVariants as waiting
use Rattle.node_state.specs.declared.state.State.{State}
use Rattle.node_state.specs.Wires.{posted}
use Rattle.node_state.specs.Places.{queued, poked}

abbrev pub pid_named : Name → Pid
pid_named (name.V p) = p
pid_named (name.G g) = g

-- a process is told where it is, by a message if that is another node
abbrev pub called : State → Pid → Nudged → State
called s p Marked = s
called s p Nobody = s
called s p (At place) = if place.0 == s.id then poked s p else posted s place.0 (message.Poke p)

abbrev pub told_if : Bool → State → Pid → Nudged → State
told_if true s p nudged = called s p nudged
told_if false s p nudged = s

-- a courier gets the record for which it waited, and joins the queue
abbrev pub handed : State → Courier → Name → Held → State
handed s c n h = queued s (waiting.Courier (record c { bag = with_held c.bag n h }))

abbrev pub laid_by : State → Name → Held → Bool → List Courier → State
laid_by s n h mark [] = told_if mark (record s { slots = with_slot s.slots n (Home h) }) (pid_named n) (poked_at h)
laid_by s n h mark (c ∷ cs) = handed (record s { slots = with_slot s.slots n (Out (record { is_marked = mark; waiters = cs })) }) c n h

-- a record comes back to its home: the first in line gets it and joins the queue, or it rests, and a process that was marked meanwhile is told
abbrev pub laid : State → Name → Held → State
laid s n h = laid_by s n h (line_of (slot_at s.slots n)).is_marked (line_of (slot_at s.slots n)).waiters

-- a record is returned, by a message where its home is another node
abbrev pub given_back : State → Name → Held → State
given_back s n h = if home n s.nodes == s.id then laid s n h else posted s (home n s.nodes) (message.Put n h)

abbrev pub all_given_back : State → List (Name × Held) → State
all_given_back s [] = s
all_given_back s (e ∷ es) = all_given_back (given_back s e.0 e.1) es

abbrev pub nudged_by : State → Pid → Slot Held (Line Courier) → State
nudged_by s p (Home h) = called s p (poked_at h)
nudged_by s p (Out line) = record s { slots = with_slot s.slots (name.V p) (marked (Out line)) }

-- news for a process reaches its record's home
abbrev pub nudged_here : State → Pid → State
nudged_here s p = nudged_by s p (slot_at s.slots (name.V p))

-- news for a process goes to its record's home
abbrev pub nudged : State → Pid → State
nudged s p = if home (name.V p) s.nodes == s.id then nudged_here s p else posted s (home (name.V p) s.nodes) (message.Nudge p)

abbrev pub all_nudged : State → List Pid → State
all_nudged s [] = s
all_nudged s (p ∷ ps) = all_nudged (nudged s p) ps
