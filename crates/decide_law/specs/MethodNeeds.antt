-- method: how the code gathers the names that a decision needs, one after another
use Rattle.std.specs.Prelude.{ℕ, zero, suc, Bool, false, not, List, [], ◌∷◌, Option, None, Some, if◌then◌else◌}
use Rattle.unix_names.specs.declared.Name.{Name}
use Rattle.record_bag.specs.declared.bag.Bag.{Bag}
use Rattle.record_bag.specs.Bags.{is_held}
use Rattle.unix_names.specs.Names.{is_before}
use Rattle.decide_law.specs.Footprints.{with_name}

-- how many of the first names come before this one
abbrev pub passed : Name → List Name → ℕ
passed n [] = zero
passed n (m ∷ ms) = if is_before m n then suc (passed n ms) else zero

-- the name that stands there does not come after this one
abbrev pub not_before : Name → Option Name → Bool
not_before n None = false
not_before n (Some m) = not (is_before n m)

-- the needed names, once these were asked for in their order
abbrev pub wanted : Bag → List Name → List Name → List Name
wanted bag [] acc = acc
wanted bag (n ∷ ns) acc = wanted bag ns (if is_held bag n then acc else with_name n acc)
