-- method: where a process stands among the members
use Rattle.std.specs.Prelude.{ℕ, zero, suc, ◌==◌, List, [], ◌∷◌, if◌then◌else◌}
use Rattle.unix_names.specs.declared.Pid.{Pid}
use Rattle.group_record.specs.declared.member.Member.{Member}

-- how many members stand before the first process of that id
abbrev pub others_first : Pid → List Member → ℕ
others_first p [] = zero
others_first p (m ∷ ms) = if m.pid.0 == p.0 then zero else suc (others_first p ms)
