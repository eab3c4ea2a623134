-- the rules on lists of members are the rules of the one kernel
use Rattle.std.specs.Prelude.{◌≡◌, ◌&&◌, List, Some}
use Rattle.std.specs.List.{list_any}
use Rattle.unix_names.specs.declared.Pid.{Pid}
use Rattle.process_table.specs.declared.Row.{Row}
use Rattle.process_table.specs.Rows.{row_of}
use Rattle.kernel_model.specs.Sound.{IsSound}
use Rattle.process_table.specs.Orphans.{is_link, is_orphaned, is_stopped_in}
use Rattle.kernel_rules.specs.Orphans.{is_newly_orphaned}
use Rattle.orphan_rules.specs.declared.Kin.{Kin}
use Rattle.orphan_rules.specs.Orphans.{is_link as is_link_told, orphaned, newly_orphaned}
use Rattle.orphan_laws.specs.Kins.{kin_of, ListsMembers}

-- a process is a link by what the table tells of it exactly where it is one in the table
abbrev pub LinksAgree : Type 0
LinksAgree = (rows : List Row) (q : Pid) (r : Row) → IsSound rows → row_of rows q ≡ Some r → is_link_told (kin_of rows r) ≡ is_link rows r

-- a list that has a group's living members tells whether the group is orphaned
abbrev pub OrphanedAgrees : Type 0
OrphanedAgrees = (rows : List Row) (group : Pid) (kin : List Kin) → IsSound rows → ListsMembers rows group kin → orphaned kin group ≡ is_orphaned rows group

-- and two such lists tell whether an end made it so; a signal comes of it where a member is stopped
abbrev pub NewlyAgrees : Type 0
NewlyAgrees = (before after : List Row) (group : Pid) (kin_before kin_after : List Kin) → IsSound before → IsSound after → ListsMembers before group kin_before → ListsMembers after group kin_after →
    (newly_orphaned kin_before kin_after group && list_any (is_stopped_in group) after) ≡ is_newly_orphaned before after group
