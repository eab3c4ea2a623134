-- what settling takes from a process, so that it can be given back
use Rattle.std.specs.Prelude.{◌≡◌, Some}
use Rattle.list_laws.specs.Keyed.{Distinct}
use Rattle.unix_names.specs.declared.Pid.{Pid}
use Rattle.vproc_record.specs.declared.Vproc.{Vproc}
use Rattle.group_record.specs.declared.Group.{Group}
use Rattle.group_record.specs.Members.{member_number, from_of}
use Rattle.record_bag.specs.declared.bag.Bag.{Bag}
use Rattle.decide_law.specs.declared.keeping.Kept.{Kept}
use Rattle.decide_law.specs.Agrees.{vproc_at, group_at}

-- what a process of this record has in this group before it is settled
abbrev pub kept_of : Pid → Vproc → Group → Kept
kept_of p v g = record { group = v.group; backlog = v.backlog; from = from_of g.members p }

-- this was taken from the process in this bag, where its group lists each member once
pub record IsKeptFrom (before : Bag) (p : Pid) (kept : Kept) : Type 0 where
  pub vproc : Vproc
  pub group : Group
  pub vproc_is : vproc_at before p ≡ Some (Some vproc)
  pub group_is : group_at before vproc.group ≡ Some (Some group)
  pub kept_is : kept ≡ kept_of p vproc group
  pub distinct : Distinct member_number group.members
