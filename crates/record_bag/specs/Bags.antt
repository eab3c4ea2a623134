-- a bag as a map from names to records, present or absent
use Rattle.std.specs.Prelude.{◌≡◌, ◌≢◌, Bool, List, [], ◌∷◌, ◌++◌, map, drop, Option, Some, None}
use Rattle.std.specs.Option.{option_map}
use Rattle.unix_names.specs.declared.Pid.{Pid}
use Rattle.unix_names.specs.declared.Name.{Name}
use Rattle.unix_names.specs.declared.Name.TheVariants as name
use Rattle.vproc_record.specs.declared.Vproc.{Vproc}
use Rattle.group_record.specs.declared.Group.{Group}
use Rattle.ordered_table.specs.declared.Entry.{Entry}
use Rattle.ordered_table.specs.Entries.{value_at, with_value, has_value, pids_of}
use Rattle.record_bag.specs.declared.held.Held.{Held}
use Rattle.record_bag.specs.declared.held.Held.TheVariants as held
use Rattle.record_bag.specs.declared.bag.Bag.{Bag}
use Rattle.record_bag.specs.Kinds.{vproc_of, group_of}

-- whether a name is held, absent records included
abbrev pub is_held : Bag → Name → Bool
is_held bag (name.V p) = has_value bag.vprocs p
is_held bag (name.G g) = has_value bag.groups g

-- what is held under a name, if it is held
abbrev pub held_at : Bag → Name → Option Held
held_at bag (name.V p) = option_map held.V (value_at bag.vprocs p)
held_at bag (name.G g) = option_map held.G (value_at bag.groups g)

-- the bag once this is held under a name
abbrev pub with_held : Bag → Name → Held → Bag
with_held bag (name.V p) h = record bag { vprocs = with_value bag.vprocs p (vproc_of h) }
with_held bag (name.G g) h = record bag { groups = with_value bag.groups g (group_of h) }

-- what is there, if anything is
abbrev pub present : {T : Type 0} → Option (Option T) → Option T
present None = None
present (Some kept) = kept

-- the record of a process, if it is held and present
abbrev pub vproc_in : Bag → Pid → Option Vproc
vproc_in bag p = present (value_at bag.vprocs p)

-- the record of a group, if it is held and present
abbrev pub group_in : Bag → Pid → Option Group
group_in bag g = present (value_at bag.groups g)

-- the names that are held, in order
abbrev pub held_names : Bag → List Name
held_names bag = map name.V (pids_of bag.vprocs) ++ map name.G (pids_of bag.groups)

-- a process's entry under its name
abbrev pub named_vproc : Entry (Option Vproc) → Name × Held
named_vproc e = (name.V e.pid, held.V e.value)

-- a group's entry under its name
abbrev pub named_group : Entry (Option Group) → Name × Held
named_group e = (name.G e.pid, held.G e.value)

-- the names that are held with what is held under them, in order
abbrev pub all_held : Bag → List (Name × Held)
all_held bag = map named_vproc bag.vprocs ++ map named_group bag.groups

-- the bag without its first process, or else without its first group
abbrev pub without_first : List (Entry (Option Vproc)) → Bag → Bag
without_first [] bag = record bag { groups = drop 1 bag.groups }
without_first (e ∷ es) bag = record bag { vprocs = es }

-- the bag without its least name
abbrev pub without_least : Bag → Bag
without_least bag = without_first bag.vprocs bag

-- under every name but n the same is held before and after
abbrev pub SameElsewhere : Name → Bag → Bag → Type 0
SameElsewhere n old new = (m : Name) → m ≢ n → held_at new m ≡ held_at old m
