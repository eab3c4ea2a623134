-- what the changes of a group's record leave
use Rattle.std.specs.Prelude.{ℕ, ◌==◌, not, [], ◌∷◌, ◌++◌, map, filter, drop, length, if◌then◌else◌}
use Rattle.std.specs.List.{list_any}
use Rattle.unix_names.specs.declared.Pid.{Pid}
use Rattle.group_record.specs.declared.log.LogEntry.{LogEntry}
use Rattle.group_record.specs.declared.group.Group.{Group}
use Rattle.group_record.specs.Members.{least_from, is_behind, lowered, begun_at}

-- a member more, the last, whose part of the log begins at its end
abbrev pub joined : Group → Pid → ℕ → Group
joined g p uid = record g { members = g.members ++ (record { pid = p; from = length g.log; uid = uid }) ∷ [] }

-- a member less
abbrev pub left : Group → Pid → Group
left g p = record g { members = filter (λ m. not (m.pid.0 == p.0)) g.members }

-- an entry more, the last
abbrev pub with_entry : Group → LogEntry → Group
with_entry g e = record g { log = g.log ++ e ∷ [] }

-- the first entries of the log are gone, and each member's part begins that much earlier
abbrev pub cut : ℕ → Group → Group
cut count g = record g { members = map (lowered count) g.members; log = drop count g.log }

-- how many of the log's first entries are taken out: those that each member has passed, once no member is behind, so that no more entries move up than go
abbrev pub spare : Group → ℕ
spare g = if list_any (is_behind (length g.log)) g.members then 0 else least_from g.members

-- what each member has passed is gone from the log, once that is half of it
abbrev pub trimmed : Group → Group
trimmed g = cut (spare g) g

-- a member's part of the log is emptied: it begins at the log's end
abbrev pub settled : Group → Pid → Group
settled g p = record g { members = map (begun_at (length g.log) p) g.members }
