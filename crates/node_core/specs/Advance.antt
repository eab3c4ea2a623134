-- what a courier does at a node, for any meaning of the decisions
use Rattle.std.specs.Prelude.{ℕ, zero, suc, ◌+◌, ◌*◌, ◌==◌, List, [], Option, None, Some, if◌then◌else◌}
use Rattle.unix_names.specs.declared.Pid.{Pid}
use Rattle.unix_names.specs.declared.Name.{Name}
use Rattle.unix_names.specs.Names.{home}
use Rattle.unix_calls.specs.declared.Entry.{Entry}
use Rattle.unix_calls.specs.declared.Job.{Job}
use Rattle.unix_calls.specs.declared.World.{World}
use Rattle.signal_state.specs.declared.Own.{Own}
use Rattle.record_bag.specs.declared.Held.{Held}
use Rattle.record_bag.specs.declared.Bag.{Bag}
use Rattle.record_bag.specs.declared.Site.{Site}
use Rattle.record_bag.specs.declared.Outcome.{Outcome}
use Rattle.record_bag.specs.declared.Outcome.TheVariants.{Done, Need, Away}
use Rattle.record_bag.specs.Bags.{with_held, all_held}
use Rattle.record_bag.specs.Decisions.{Answered}
use Rattle.record_table.specs.declared.Slot.{Slot}
use Rattle.record_table.specs.declared.Slot.TheVariants.{Home, Out}
use Rattle.record_table.specs.declared.Line.{Line}
use Rattle.record_table.specs.Places.{nobody, joined}
use Rattle.record_table.specs.Slots.{slot_at, with_slot}
use Rattle.courier_core.specs.declared.Courier.{Courier}
use Rattle.courier_core.specs.declared.Message.TheVariants as message
use Rattle.courier_core.specs.Couriers.{next_want, must_restart, remembered}
use Rattle.node_state.specs.declared.State.{State}
use Rattle.node_state.specs.Wires.{posted}
use Rattle.node_state.specs.Returns.{all_given_back}
use Rattle.node_state.specs.Endings.{finished}
use Rattle.node_core.specs.declared.step.Step.{Step}
use Rattle.node_core.specs.declared.step.Step.TheVariants.{Again, Over}
use Rattle.unix_names.specs.declared.limits.TheConstants.{PIDS_PER_NODE}

-- what is answered to a question: process, job, own signals, bag and site
abbrev pub Ask : Type 0
Ask = Pid → Job → Own → Bag → Site → Answered

-- a node after a question, and what the courier does next
pub record Stepped : Type 0 where
  pub state : State
  pub step : Step

abbrev pub is_stepped : State → Step → Stepped
is_stepped state step = record { state = state; step = step }

-- the process id that the node gives out next
abbrev pub fresh_number : State → ℕ
fresh_number s = PIDS_PER_NODE * s.id + s.serial

abbrev pub site_of : State → Site
site_of s = record { node = record { 0 = s.id }; fresh = record { 0 = fresh_number s } }

abbrev pub asked : Ask → State → Courier → Answered
asked ask s c = ask c.image.pid c.job c.image.own c.bag (site_of s)

abbrev pub empty_bag : Bag
empty_bag = record { vprocs = []; groups = [] }

abbrev pub wanted_at : State → Courier → Name → Slot Held (Line Courier) → Stepped
wanted_at s c x (Home h) = is_stepped (record s { slots = with_slot s.slots x (Out nobody) }) (Again (record c { bag = with_held c.bag x h }))
wanted_at s c x (Out line) = is_stepped (record s { slots = with_slot s.slots x (Out (joined line c)) }) (Over None)

-- the record is taken, waited for, or looked for at its home
abbrev pub wanted : State → Courier → Name → Stepped
wanted s c x =
    if home x s.nodes == s.id then wanted_at s c x (slot_at s.slots x)
    else is_stepped (posted s (home x s.nodes) (message.Ride c)) (Over None)

-- all goes back, and the courier begins anew with what it then knows that it wants
abbrev pub restarted : State → Courier → List Name → Stepped
restarted s c names = is_stepped (all_given_back s (all_held c.bag)) (Again (record c { wants = (remembered c names).wants; bag = empty_bag }))

abbrev pub needed_least : State → Courier → List Name → Option Name → Stepped
needed_least s c names None = is_stepped s (Over None)
needed_least s c names (Some x) = if must_restart c x then restarted s c names else wanted s c x

-- the least name that is lacking comes next; where a held name is above it, the courier begins anew
abbrev pub needed : State → Courier → List Name → Stepped
needed s c names = needed_least s c names (next_want c names)

abbrev pub stepped_by : World → State → Courier → Outcome → Bag → Stepped
stepped_by world s c (Done done) bag = is_stepped (finished world s c.image bag done) (Over done.entry)
stepped_by world s c (Away k) bag = is_stepped (posted s k.0 (message.Ride (record c { bag = bag }))) (Over None)
stepped_by world s c (Need names) bag = needed s (record c { bag = bag }) names

-- one question, and what follows from its answer
abbrev pub stepped : World → Ask → State → Courier → Stepped
stepped world ask s c = stepped_by world s c (asked ask s c).outcome (asked ask s c).bag

-- a node after a turn, and the line of the history, if there is one
pub record Advanced : Type 0 where
  pub state : State
  pub entry : Option Entry

abbrev pub is_advanced : State → Option Entry → Advanced
is_advanced state entry = record { state = state; entry = entry }

abbrev pub goes_on : (State → Courier → Option Advanced) → State → Step → Option Advanced
goes_on rest s (Again c) = rest s c
goes_on rest s (Over e) = Some (is_advanced s e)

-- where at most so many questions lead; None where they do not suffice
abbrev pub advanced : World → Ask → ℕ → State → Courier → Option Advanced
advanced world ask zero s c = None
advanced world ask (suc n) s c = goes_on (advanced world ask n) (stepped world ask s c).state (stepped world ask s c).step
