-- the members of a group, by process id
use Rattle.std.specs.Prelude.{ℕ, Bool, ◌==◌, nat_lt, ◌-◌, min, List, [], ◌∷◌, fold, Option, None, Some, is_some, if◌then◌else◌}
use Rattle.std.specs.Option.{option_map}
use Rattle.list_laws.specs.Keyed.{at}
use Rattle.unix_names.specs.declared.Pid.{Pid}
use Rattle.group_record.specs.declared.member.Member.{Member}

abbrev pub member_number : Member → ℕ
member_number m = m.pid.0

-- the member of that process id
abbrev pub member_of : List Member → Pid → Option Member
member_of members p = at member_number p.0 members

abbrev pub has_member : List Member → Pid → Bool
has_member members p = is_some (member_of members p)

-- the user id under which a process is a member
abbrev pub uid_of : List Member → Pid → Option ℕ
uid_of members p = option_map (λ m. m.uid) (member_of members p)

abbrev pub from_in : Option Member → ℕ
from_in None = 0
from_in (Some m) = m.from

-- where a member's part of the log begins
abbrev pub from_of : List Member → Pid → ℕ
from_of members p = from_in (member_of members p)

-- the least of a number and of each `from`
abbrev pub least_of : ℕ → List Member → ℕ
least_of n ms = fold (λ least x. min least x.from) n ms

-- the least `from`, or 0 with no member
abbrev pub least_from : List Member → ℕ
least_from [] = 0
least_from (m ∷ ms) = least_of m.from ms

-- whether a member has passed less than half of a log of that length
abbrev pub is_behind : ℕ → Member → Bool
is_behind all m = nat_lt m.from (all - m.from)

abbrev pub lowered : ℕ → Member → Member
lowered by m = record m { from = m.from - by }

-- a member whose part of the log begins elsewhere, if it is that process
abbrev pub begun_at : ℕ → Pid → Member → Member
begun_at from p m = if m.pid.0 == p.0 then record m { from = from } else m
