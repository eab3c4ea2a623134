-- what the index of a table knows of its rows, so that few of them need be looked at. No rule cites this file.
use Rattle.std.specs.List.{list_any}
use Rattle.std.specs.Prelude.{◌≡◌, ◌<◌, ◌==◌, ◌&&◌, ◌||◌, ◌∷◌, if◌then◌else◌, [], Bool, IsTrue, List, Some, false, nat_lt, not, suc, true, zero, ℕ}
use Rattle.unix_names.specs.States.{is_living}
use Rattle.unix_names.specs.declared.Pid.{Pid}
use Rattle.ordered_table.specs.Entries.{value_at}
use Rattle.ordered_table.specs.Rising.{AllAboveBy, IsRisingBy, place_by}
use Rattle.ordered_table.specs.Lists.{Lists, members_of}
use Rattle.ordered_table.specs.declared.entries.Entry.{Entry}
use Rattle.process_table.specs.Orphans.{is_orphaned}
use Rattle.process_table.specs.Rows.{is_same}
use Rattle.process_table.specs.declared.index.Index.{Index}
use Rattle.process_table.specs.declared.rows.Row.{Row}

-- the key by which rows are found by halves
abbrev pub pid_number : Row → ℕ
pid_number c = c.pid.0

-- every pid is above p
abbrev pub AllAbove : Pid → List Row → Type 0
AllAbove p rows = AllAboveBy pid_number p.0 rows

-- the pids rise from row to row
abbrev pub IsRising : List Row → Type 0
IsRising rows = IsRisingBy pid_number rows

-- how many of the first rows have a lesser pid
abbrev pub place : List Row → Pid → ℕ
place rows p = place_by pid_number rows p.0

-- the pid is above that of the last row
abbrev pub is_next : List Row → Pid → Bool
is_next [] p = true
is_next (c ∷ []) p = nat_lt c.pid.0 p.0
is_next (c ∷ d ∷ rows) p = is_next (d ∷ rows) p

-- a child of another process than the system process is listed with its parent
abbrev pub is_listed : Lists → Row → Bool
is_listed children c = (c.parent.0 == 1) || list_any (is_same c.pid) (members_of children c.parent)

-- each is; who has gone may be listed too
abbrev pub AreListed : Lists → List Row → Type 0
AreListed children [] = Unit {0}
AreListed children (c ∷ rows) = IsTrue (is_listed children c) × AreListed children rows

-- what is noted of groups is so
abbrev pub AreRight : List (Entry Bool) → List Row → Type 0
AreRight orphaned rows = (g : Pid) (b : Bool) → value_at orphaned g ≡ Some b → b ≡ is_orphaned rows g

pub record IsIndexOf (index : Index) (rows : List Row) : Type 0 where
  pub rising : IsRising rows
  pub listed : AreListed index.children rows
  pub right : AreRight index.orphaned rows

-- all that the index knows is so; it knows nothing where the pids do not rise
abbrev pub Knows : Index → List Row → Type 0
Knows index rows = IsTrue index.rises → IsIndexOf index rows

-- both live, or neither does
abbrev pub is_same_life : Bool → Bool → Bool
is_same_life true b = b
is_same_life false b = not b

-- the row has kept its group and its session, and lives as before
abbrev pub is_same_place : Row → Row → Bool
is_same_place c d = is_same c.group d.group && (is_same c.session d.session && is_same_life (is_living c.life) (is_living d.life))

-- each row keeps its place under a change of rows
abbrev pub AllStay : (Row → Row) → List Row → Type 0
AllStay f [] = Unit {0}
AllStay f (c ∷ rows) = IsTrue (is_same_place c (f c)) × AllStay f rows

-- the index without what is noted of groups
abbrev pub forgotten : Index → Index
forgotten index = record index { orphaned = [] }
