-- what is held under a name, by its kind
use Rattle.std.specs.Prelude.{Option, None}
use Rattle.unix_names.specs.declared.Name.{Name}
use Rattle.unix_names.specs.declared.Name.TheVariants as name
use Rattle.vproc_record.specs.declared.Vproc.{Vproc}
use Rattle.group_record.specs.declared.Group.{Group}
use Rattle.record_bag.specs.declared.held.Held.{Held}
use Rattle.record_bag.specs.declared.held.Held.TheVariants as held

-- the record of a process, if it is one
abbrev pub vproc_of : Held → Option Vproc
vproc_of (held.V v) = v
vproc_of (held.G g) = None

-- the record of a group, if it is one
abbrev pub group_of : Held → Option Group
group_of (held.V v) = None
group_of (held.G g) = g

-- what counts under a name: a record of the other kind is as good as none
abbrev pub of_kind : Name → Held → Held
of_kind (name.V p) h = held.V (vproc_of h)
of_kind (name.G g) h = held.G (group_of h)

-- a record that there is none of
abbrev pub absent : Name → Held
absent (name.V p) = held.V None
absent (name.G g) = held.G None
