-- method: the code of an end tells what becomes of each record before any changes, and then changes them where they stand
use Rattle.std.specs.Prelude.{ℕ, ◌≡◌, ◌<◌, ◌==◌, ◌-◌, ◌&&◌, Bool, not, List, [], ◌∷◌, ◌++◌, length, take, drop, slice_get, slice_set, filter, flat_map, Option, None, Some, if◌then◌else◌}
use Rattle.std.specs.Option.{option_map}
use Rattle.unix_names.specs.declared.Pid.{Pid}
use Rattle.unix_names.specs.declared.Life.TheVariants.{Ended}
use Rattle.unix_names.specs.declared.Signal.TheVariants.{Hup, Chld, Cont}
use Rattle.unix_names.specs.declared.WaitStatus.{WaitStatus}
use Rattle.unix_calls.specs.declared.Entry.{Entry}
use Rattle.signal_state.specs.declared.Own.{Own}
use Rattle.vproc_record.specs.declared.Vproc.{Vproc}
use Rattle.group_record.specs.declared.Member.{Member}
use Rattle.group_record.specs.declared.LogEntry.{LogEntry}
use Rattle.group_record.specs.declared.Group.{Group}
use Rattle.ordered_table.specs.declared.Entry.{Entry as Held}
use Rattle.ordered_table.specs.Entries.{with_each}
use Rattle.record_bag.specs.declared.bag.Bag.{Bag}
use Rattle.record_bag.specs.Bags.{vproc_in, group_in}
use Rattle.record_bag.specs.Decisions.{Answered}
use Rattle.process_table.specs.Rows.{pid}
use Rattle.decide_law.specs.Answer.{on_footprint}
use Rattle.decide_law.specs.Counts.{passes, recounted}
use Rattle.decide_law.specs.Effects.{folded, emptied, settled_in, to_one, to_all, unless_empty, regroups}
use Rattle.decide_law.specs.Footprints.{end_footprint}
use Rattle.decide_law.specs.Nudges.{others_of}
use Rattle.ops_ending.specs.declared.left_vprocs.End.{End}
use Rattle.ops_ending.specs.Ending.{vanishes, left_vproc, ended_vproc, ended_vprocs, left_group, end_nudges, goes, is_newly_orphaned, left_members, passes_group, end_effect}

-- counts so small that a few more fit 32 bits
pub record IsCounted (g : Group) : Type 0 where
  pub links : g.links < 1000000
  pub stopped : g.stopped < 1000000

abbrev pub IsCountedIn : Option Group → Type 0
IsCountedIn None = Unit {0}
IsCountedIn (Some g) = IsCounted g

-- ---- records of processes
-- the process itself ends and has no children; another has a child less where nobody waits
abbrev pub own_left : Pid → Bool → WaitStatus → Vproc → Vproc
own_left p vanished w v = record v {
  life = if v.pid.0 == p.0 then Ended w else v.life;
  change = if v.pid.0 == p.0 then None else v.change;
  children = if v.pid.0 == p.0 then [] else filter (λ c. not ((c.0 == p.0) && vanished)) v.children;
}

-- a child goes to the system process
abbrev pub adopted : Pid → Vproc → Vproc
adopted p v = record v { parent = if v.parent.0 == p.0 then pid 1 else v.parent }

-- ---- the end
-- the end of the process with this record: its parent, whether nobody waits, and the status
abbrev pub end_of : Bag → Vproc → WaitStatus → End
end_of bag v w = record { pid = v.pid; parent = v.parent; vanishes = vanishes bag v; status = w }

-- whether a record stays, and what it then is
abbrev pub stays : End → Vproc → Bool
stays e v = not (goes e.pid e.vanishes v)

abbrev pub left_by : End → Vproc → Vproc
left_by e v = left_vproc e.pid e.vanishes e.status v

-- the bag once the records of processes tell of the end
abbrev pub later_by : Bag → End → Bag
later_by bag e = ended_vprocs bag e.pid e.vanishes e.status

-- ---- records of groups
-- what the log of a group gets, of which the parent may be a member and which may be left orphaned
abbrev pub entries_of : Pid → Bool → Bool → List LogEntry
entries_of parent member orphaned = (if member then to_one Chld parent ∷ [] else []) ++ (if orphaned then to_all Hup ∷ to_all Cont ∷ [] else [])

abbrev pub recounted_by : Bag → List Pid → End → Pid → Group → Group
recounted_by bag near e id g = recounted bag (later_by bag e) near id g

abbrev pub is_newly_by : Bag → List Pid → End → Pid → Group → Bool
is_newly_by bag near e id g = is_newly_orphaned g (recounted_by bag near e id g)

-- what the log of this group gets
abbrev pub entries_by : Bag → List Pid → End → Pid → Group → List LogEntry
entries_by bag near e id g = entries_of e.parent (passes (λ d. d.group.0 == id.0) (vproc_in bag e.parent)) (is_newly_by bag near e id g)

-- the group once its log has that
abbrev pub told_by : Bag → List Pid → End → Pid → Group → Group
told_by bag near e id g = record g { log = g.log ++ entries_by bag near e id g }

-- the group once as many entries have left the end of its log again
abbrev pub untold_by : Bag → List Pid → End → Pid → Group → Group
untold_by bag near e id g = record g { log = take (length g.log - length (entries_by bag near e id g)) g.log }

-- the group once its counts and its members are those after the end
abbrev pub thinned_by : Bag → List Pid → End → Pid → Group → Group
thinned_by bag near e id g = record (recounted_by bag near e id g) { members = left_members bag e.pid e.vanishes g }

-- the same of what is held; a group without members is absent
abbrev pub held_told_by : Bag → List Pid → End → Pid → Option Group → Option Group
held_told_by bag near e id h = option_map (told_by bag near e id) h

abbrev pub held_untold_by : Bag → List Pid → End → Pid → Option Group → Option Group
held_untold_by bag near e id h = option_map (untold_by bag near e id) h

abbrev pub held_thinned_by : Bag → List Pid → End → Pid → Option Group → Option Group
held_thinned_by bag near e id None = None
held_thinned_by bag near e id (Some g) = unless_empty (thinned_by bag near e id g)

-- both, one after the other
abbrev pub held_group_by : Bag → List Pid → End → Pid → Option Group → Option Group
held_group_by bag near e id h = held_thinned_by bag near e id (held_told_by bag near e id h)

-- ---- tables that change entry by entry
-- of the entries, so many of the first have changed by f
abbrev pub partly : {T : Type 0} → (Pid → T → T) → ℕ → List (Held T) → List (Held T)
partly f n es = with_each f (take n es) ++ drop n es

-- the entry at i has changed by f
pub record IsChangedAt {T : Type 0} (f : Pid → T → T) (i : ℕ) (old new : List (Held T)) : Type 0 where
  pub entry : Held T
  pub there : slice_get old i ≡ Some entry
  pub now : new ≡ slice_set old i (record entry { value = f entry.pid entry.value })

-- ---- nudges
-- the members but p whose records stay
abbrev pub others_left : Bag → Pid → Bool → List Member → List Pid
others_left bag p vanished members = others_of p (filter (λ m. not (passes (goes p vanished) (vproc_in bag m.pid))) members)

abbrev pub orphaned_by : Bag → List Pid → End → Pid → Bool
orphaned_by bag near e id = passes_group (is_newly_by bag near e id) (group_in bag id)

abbrev pub nudged_by : Bag → List Pid → End → Pid → Option Group → List Pid
nudged_by bag near e id None = []
nudged_by bag near e id (Some g) = if orphaned_by bag near e id then others_left bag e.pid e.vanishes g.members else []

abbrev pub nudges_in : Bag → List Pid → End → List (Held (Option Group)) → List Pid
nudges_in bag near e groups = flat_map (λ (h : Held (Option Group)). nudged_by bag near e h.pid h.value) groups

-- ---- the whole
-- the answer of an end with this entry and this status, once the caller has taken its stream
abbrev pub end_answer : Entry → WaitStatus → Own → Bag → Pid → Vproc → Group → Answered
end_answer e w own bag p v g = on_footprint (end_footprint bag v) p v bag (end_effect (settled_in p v.group bag) (folded own v g).sig (emptied v) e w)

-- the bag that an end of the caller v leaves, and whom it nudges
pub record IsLeft (bag : Bag) (v : Vproc) (w : WaitStatus) (left : Bag) (nudges : List Pid) : Type 0 where
  pub vprocs : left.vprocs ≡ with_each (ended_vproc v.pid (vanishes bag v) w) bag.vprocs
  pub groups : left.groups ≡ with_each (regroups v.session (left_group bag w v.pid v.parent v.children (vanishes bag v))) bag.groups
  pub nudged : nudges ≡ end_nudges bag w v.pid v.parent v.children (vanishes bag v)
