-- what a table tells of the relations of its processes
use Rattle.std.specs.Prelude.{true, ◌≡◌, ◌&&◌, List, Option, None, Some, All, Contains}
use Rattle.unix_names.specs.declared.Pid.{Pid}
use Rattle.unix_names.specs.States.{is_living}
use Rattle.process_table.specs.declared.Row.{Row}
use Rattle.process_table.specs.Rows.{pid, row_of, in_group}
use Rattle.orphan_rules.specs.declared.Kin.{Kin}
use Rattle.orphan_rules.specs.Orphans.{is_living_member}

-- the group of a process, where 0 stands for none: the system process has no row
abbrev pub group_told : Option Row → Pid
group_told None = pid 0
group_told (Some r) = r.group

-- and its session
abbrev pub session_told : Option Row → Pid
session_told None = pid 0
session_told (Some r) = r.session

-- what the table tells of a process and its parent
abbrev pub kin_of : List Row → Row → Kin
kin_of rows r = record {
  pid = r.pid;
  group = r.group;
  session = r.session;
  living = is_living r.life;
  parent = r.parent;
  parent_group = group_told (row_of rows r.parent);
  parent_session = session_told (row_of rows r.parent);
}

-- the list has the living members of a group as the table tells of them, and whoever else besides
pub record ListsMembers (rows : List Row) (group : Pid) (kin : List Kin) : Type 0 where
  pub each_is_told : All (λ k. is_living_member group k ≡ true → (r : Row) × (row_of rows k.pid ≡ Some r) × (k ≡ kin_of rows r)) kin
  pub each_is_listed : (q : Pid) (r : Row) → row_of rows q ≡ Some r → (in_group group r && is_living r.life) ≡ true → Contains kin (kin_of rows r)
