-- which groups the end of a process may leave orphaned: the code looks at these alone. No rule cites this file.
use Rattle.std.specs.List.{list_any}
use Rattle.std.specs.Prelude.{◌&&◌, ◌||◌, ◌∷◌, ◌++◌, if◌then◌else◌, [], Bool, List, filter, map}
use Rattle.unix_names.specs.declared.Pid.{Pid}
use Rattle.unix_names.specs.declared.Signal.{Signal}
use Rattle.unix_names.specs.declared.Signal.TheVariants.{Cont, Hup}
use Rattle.process_table.specs.Orphans.{is_link_of, is_orphaned, is_stopped_in}
use Rattle.process_table.specs.Rows.{is_among, is_ended_child, is_parent, is_pid}
use Rattle.process_table.specs.declared.Row.{Row}
use Rattle.kernel_rules.specs.Ending.{sent_to_parent}

-- the ended children of a process
abbrev pub ended_children : List Row → Pid → List Pid
ended_children rows p = map (λ c. c.pid) (filter (is_ended_child p) rows)

-- the row is that of the process, of a child of it, or of a child of an ended child: its end changes this row, or removes that of its parent
abbrev pub is_near : List Row → Pid → Row → Bool
is_near rows p c = is_pid p c || (is_parent p c || is_among (ended_children rows p) c.parent)

-- a member that keeps this group from being orphaned, and is near the process
abbrev pub is_near_link : List Row → Pid → Pid → Row → Bool
is_near_link rows p g c = is_near rows p c && is_link_of rows g c

-- the group has such a member, and a stopped one
abbrev pub is_at_risk : List Row → Pid → Pid → Bool
is_at_risk rows p g = list_any (is_near_link rows p g) rows && list_any (is_stopped_in g) rows

-- the group has a stopped member, and is orphaned
abbrev pub is_left : List Row → Pid → Bool
is_left rows g = list_any (is_stopped_in g) rows && is_orphaned rows g

-- what an end sends to a row, where these groups are newly orphaned
abbrev pub sent_with : Row → List Pid → Row → List Signal
sent_with r groups c = sent_to_parent r c ++ (if is_among groups c.group then Hup ∷ Cont ∷ [] else [])
