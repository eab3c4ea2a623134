-- orphaned process groups (POSIX.1-2017, XBD Orphaned Process Group), told of what the members know of their parents
use Rattle.std.specs.Prelude.{ℕ, Bool, ◌==◌, ◌&&◌, ◌||◌, not, List, filter, length}
use Rattle.std.specs.List.{list_all}
use Rattle.unix_names.specs.declared.Pid.{Pid}
use Rattle.orphan_rules.specs.declared.Kin.{Kin}

-- a process of the group that has not ended
abbrev pub is_living_member : Pid → Kin → Bool
is_living_member group k = k.group.0 == group.0 && k.living

-- the parent is in the session of its child; the system process is in no session
abbrev pub is_parent_in_session : Kin → Bool
is_parent_in_session k = not (k.parent.0 == 1) && k.parent_session.0 == k.session.0

-- the parent is itself a member of its child's group, or is not in the session
abbrev pub is_parent_no_help : Kin → Bool
is_parent_no_help k = k.parent_group.0 == k.group.0 || not (is_parent_in_session k)

-- the parent of each living member is itself a member or is not in the group's session
abbrev pub orphaned : List Kin → Pid → Bool
orphaned kin group = list_all (λ k. not (is_living_member group k) || is_parent_no_help k) kin

-- an end made it so
abbrev pub newly_orphaned : List Kin → List Kin → Pid → Bool
newly_orphaned before after group = not (orphaned before group) && orphaned after group

-- a living process whose parent is in its session and outside its group
abbrev pub is_link : Kin → Bool
is_link k = k.living && (is_parent_in_session k && not (k.parent_group.0 == k.group.0))

abbrev pub is_link_of : Pid → Kin → Bool
is_link_of group k = k.group.0 == group.0 && is_link k

-- how many links the group has
abbrev pub links_of : List Kin → Pid → ℕ
links_of kin group = length (filter (is_link_of group) kin)
