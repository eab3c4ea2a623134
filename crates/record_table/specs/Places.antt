-- what stands at the home of a record
use Rattle.std.specs.Prelude.{Bool, true, false, List, [], ◌∷◌, ◌++◌, Option, None, Some, unwrap_or, if◌then◌else◌}
use Rattle.unix_names.specs.declared.Pid.{Pid}
use Rattle.unix_names.specs.States.{is_living}
use Rattle.vproc_record.specs.declared.Vproc.{Vproc}
use Rattle.group_record.specs.declared.Group.{Group}
use Rattle.ordered_table.specs.declared.Entry.{Entry}
use Rattle.ordered_table.specs.Entries.{value_at}
use Rattle.record_bag.specs.declared.Held.{Held}
use Rattle.record_bag.specs.declared.Held.TheVariants as held
use Rattle.record_bag.specs.Kinds.{vproc_of, group_of}
use Rattle.record_table.specs.declared.slot.Slot.{Slot}
use Rattle.record_table.specs.declared.slot.Slot.TheVariants.{Home, Out}
use Rattle.record_table.specs.declared.slot.Line.{Line}
use Rattle.record_table.specs.declared.slots.Taken.{Taken}
use Rattle.record_table.specs.declared.slots.Taken.TheVariants as answer
use Rattle.record_table.specs.declared.slots.PutBack.{PutBack}
use Rattle.record_table.specs.declared.slots.PutBack.TheVariants.{Rests, Handed}
use Rattle.record_table.specs.declared.slots.Nudged.{Nudged}
use Rattle.record_table.specs.declared.slots.Nudged.TheVariants.{Marked, At, Nobody}

-- a line without a mark, in which nobody waits
abbrev pub nobody : {C : Type 0} → Line C
nobody = record { is_marked = false; waiters = [] }

-- a slot as one of a process; a group's record counts as absent
abbrev pub in_vprocs : {C : Type 0} → Slot Held (Line C) → Slot (Option Vproc) (Line C)
in_vprocs (Home h) = Home (vproc_of h)
in_vprocs (Out line) = Out line

-- a slot as one of a group; a process's record counts as absent
abbrev pub in_groups : {C : Type 0} → Slot Held (Line C) → Slot (Option Group) (List C)
in_groups (Home h) = Home (group_of h)
in_groups (Out line) = Out line.waiters

-- the slot of a process under its name
abbrev pub of_vproc : {C : Type 0} → Slot (Option Vproc) (Line C) → Slot Held (Line C)
of_vproc (Home v) = Home (held.V v)
of_vproc (Out line) = Out line

-- the slot of a group under its name, never marked
abbrev pub of_group : {C : Type 0} → Slot (Option Group) (List C) → Slot Held (Line C)
of_group (Home g) = Home (held.G g)
of_group (Out waiters) = Out (record { is_marked = false; waiters = waiters })

-- what stands at an id's home; an id never seen is at home and absent
abbrev pub place_in : {R L : Type 0} → List (Entry (Slot (Option R) L)) → Pid → Slot (Option R) L
place_in slots p = unwrap_or (value_at slots p) (Home None)

-- whether the record is out
abbrev pub is_out_slot : {R L : Type 0} → Slot R L → Bool
is_out_slot (Home r) = false
is_out_slot (Out line) = true

-- who waits there
abbrev pub line_of : {R C : Type 0} → Slot R (Line C) → Line C
line_of (Home r) = nobody
line_of (Out line) = line

-- what who asks for the record is told
abbrev pub taken : {C : Type 0} → Slot Held (Line C) → Taken
taken (Home h) = answer.Here h
taken (Out line) = answer.Out

-- the slot once somebody asked for the record: out, also where it was at home
abbrev pub left : {C : Type 0} → Slot Held (Line C) → Slot Held (Line C)
left (Home h) = Out nobody
left (Out line) = Out line

-- what becomes of a record that comes back, by the mark and those who wait: it rests, or the first in line gets it
abbrev pub put_back : {C : Type 0} → Bool → List C → Held → PutBack C
put_back marked [] h = Rests marked
put_back marked (c ∷ cs) h = Handed c h

-- the slot once a record came back: it rests without a mark, or the first has left the line
abbrev pub given : {C : Type 0} → Bool → List C → Held → Slot Held (Line C)
given marked [] h = Home h
given marked (c ∷ cs) h = Out (record { is_marked = marked; waiters = cs })

-- a line in which one more waits, the last
abbrev pub joined : {C : Type 0} → Line C → C → Line C
joined line c = record line { waiters = line.waiters ++ c ∷ [] }

-- where a process that rests is to be poked: at its place, unless it has ended
abbrev pub poked_at : Held → Nudged
poked_at (held.V None) = Nobody
poked_at (held.V (Some v)) = if is_living v.life then At v.loc else Nobody
poked_at (held.G g) = Nobody

-- what becomes of a nudge
abbrev pub nudged : {C : Type 0} → Slot Held (Line C) → Nudged
nudged (Home h) = poked_at h
nudged (Out line) = Marked

-- the slot once its process was nudged: a mark, if the record is out
abbrev pub marked : {C : Type 0} → Slot Held (Line C) → Slot Held (Line C)
marked (Home h) = Home h
marked (Out line) = Out (record line { is_marked = true })
