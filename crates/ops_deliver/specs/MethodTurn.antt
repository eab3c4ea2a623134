-- method: how the code tells a parent, and counts the stopped members of a group again
use Rattle.std.specs.Prelude.{ℕ, Bool, ◌+◌, ◌-◌, Option, None, Some, if◌then◌else◌}
use Rattle.std.specs.Option.{option_map}
use Rattle.list_laws.specs.Keyed.{one_if}
use Rattle.unix_names.specs.declared.Pid.{Pid}
use Rattle.unix_names.specs.declared.Name.TheVariants.{G}
use Rattle.vproc_record.specs.declared.Vproc.{Vproc}
use Rattle.group_record.specs.declared.LogEntry.{LogEntry}
use Rattle.group_record.specs.declared.Group.{Group}
use Rattle.record_bag.specs.declared.bag.Bag.{Bag}
use Rattle.record_bag.specs.Bags.{is_held, vproc_in}
use Rattle.decide_law.specs.Effects.{only, told_to}

-- ---- the parent
-- the group of a record, where its name is held
abbrev pub held_group : Bag → Option Vproc → Option Pid
held_group bag None = None
held_group bag (Some d) = if is_held bag (G d.group) then Some d.group else None

abbrev pub group_told : Bag → Pid → Option Pid
group_told bag up = held_group bag (vproc_in bag up)

-- the groups once an entry stands at the end of that one's log
abbrev pub telling : Option Pid → LogEntry → Pid → Option Group → Option Group
telling None e q h = h
telling (Some t) e q h = only t (option_map (told_to e)) q h

-- ---- the count
-- a count of stopped members, of which one may have changed
abbrev pub restopped : ℕ → Bool → Bool → ℕ
restopped n was now = (n + one_if now) - one_if was

abbrev pub counting : ℕ → Group → Group
counting n g = record g { stopped = n }
