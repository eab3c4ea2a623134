-- orphaned process groups (POSIX.1-2017, XBD chapter 3, Orphaned Process Group)
use Rattle.std.specs.List.{list_any}
use Rattle.std.specs.Prelude.{◌&&◌, Bool, List, None, Option, Some, false, not}
use Rattle.unix_names.specs.States.{is_living}
use Rattle.unix_names.specs.declared.Pid.{Pid}
use Rattle.process_table.specs.Rows.{in_group, in_session, is_stopped, row_of}
use Rattle.process_table.specs.declared.rows.Row.{Row}

-- the parent is in the member's session, and in another group; the system process has no row and is in no session
abbrev pub is_outside_parent : Row → Option Row → Bool
is_outside_parent r None = false
is_outside_parent r (Some parent) = not (in_group r.group parent) && in_session r.session parent

-- a living process whose parent keeps its group from being orphaned
abbrev pub is_link : List Row → Row → Bool
is_link rows r = is_living r.life && is_outside_parent r (row_of rows r.parent)

-- a member that keeps this group from being orphaned
abbrev pub is_link_of : List Row → Pid → Row → Bool
is_link_of rows g r = in_group g r && is_link rows r

-- the parent of each living member is itself a member, or is not in the group's session
abbrev pub is_orphaned : List Row → Pid → Bool
is_orphaned rows g = not (list_any (is_link_of rows g) rows)

-- a stopped member
abbrev pub is_stopped_in : Pid → Row → Bool
is_stopped_in g r = in_group g r && is_stopped r.life
