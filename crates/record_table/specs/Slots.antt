-- the slots of a node as a map from names
use Rattle.std.specs.Prelude.{◌≡◌, ◌≢◌, Bool, true, false, List, [], ◌∷◌, Option}
use Rattle.unix_names.specs.declared.Pid.{Pid}
use Rattle.unix_names.specs.declared.Name.{Name}
use Rattle.unix_names.specs.declared.Name.TheVariants as name
use Rattle.ordered_table.specs.Entries.{with_value, has_value}
use Rattle.vproc_record.specs.declared.Vproc.{Vproc}
use Rattle.group_record.specs.declared.Group.{Group}
use Rattle.record_bag.specs.declared.Held.{Held}
use Rattle.record_bag.specs.declared.Held.TheVariants as held
use Rattle.record_table.specs.declared.slot.Slot.{Slot}
use Rattle.record_table.specs.declared.slot.Slot.TheVariants.{Home, Out}
use Rattle.record_table.specs.declared.slot.Line.{Line}
use Rattle.record_table.specs.declared.slots.Slots.{Slots}
use Rattle.record_table.specs.Places.{nobody, in_vprocs, in_groups, of_vproc, of_group, place_in, is_out_slot, line_of, marked}

-- what stands at the home of a name: what is held under it, or a line of those who wait
abbrev pub slot_at : {C : Type 0} → Slots C → Name → Slot Held (Line C)
slot_at slots (name.V p) = of_vproc (place_in slots.vprocs p)
slot_at slots (name.G g) = of_group (place_in slots.groups g)

-- the slots once this stands at the home of a name
abbrev pub with_slot : {C : Type 0} → Slots C → Name → Slot Held (Line C) → Slots C
with_slot slots (name.V p) slot = record slots { vprocs = with_value slots.vprocs p (in_vprocs slot) }
with_slot slots (name.G g) slot = record slots { groups = with_value slots.groups g (in_groups slot) }

-- the name of a process
abbrev pub process : Pid → Name
process p = name.V p

-- the record of a process, present or absent, at home
abbrev pub resting : {C : Type 0} → Option Vproc → Slot Held (Line C)
resting v = Home (held.V v)

-- the name of a group
abbrev pub group_name : Pid → Name
group_name g = name.G g

-- the record of a group, present or absent, at home
abbrev pub resting_group : {C : Type 0} → Option Group → Slot Held (Line C)
resting_group g = Home (held.G g)

-- whether a name was ever seen
abbrev pub is_known : {C : Type 0} → Slots C → Name → Bool
is_known slots (name.V p) = has_value slots.vprocs p
is_known slots (name.G g) = has_value slots.groups g

-- whether the record of a name is out
abbrev pub is_out : {C : Type 0} → Slots C → Name → Bool
is_out slots n = is_out_slot (slot_at slots n)

abbrev pub is_somebody : {C : Type 0} → List C → Bool
is_somebody [] = false
is_somebody (c ∷ cs) = true

-- whether somebody waits for the record of a name
abbrev pub is_awaited : {C : Type 0} → Slots C → Name → Bool
is_awaited slots n = is_somebody (line_of (slot_at slots n)).waiters

-- under every name but n the same stands before and after
abbrev pub SameElsewhere : {C : Type 0} → Name → Slots C → Slots C → Type 0
SameElsewhere n old new = (m : Name) → m ≢ n → slot_at new m ≡ slot_at old m

-- the slots once somebody asked for the record of a name that has this slot
abbrev pub after_take : {C : Type 0} → Slots C → Name → Slot Held (Line C) → Slots C
after_take slots n (Home h) = with_slot slots n (Out nobody)
after_take slots n (Out line) = slots

-- the slots once a process that has this slot was nudged
abbrev pub after_nudge : {C : Type 0} → Slots C → Pid → Slot Held (Line C) → Slots C
after_nudge slots p (Home h) = slots
after_nudge slots p (Out line) = with_slot slots (process p) (marked (Out line))
