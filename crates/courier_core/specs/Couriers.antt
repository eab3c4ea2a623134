-- what couriers want
use Rattle.std.specs.Prelude.{◌≡◌, Bool, true, List, ◌++◌, Option, None}
use Rattle.std.specs.List.{list_any}
use Rattle.unix_names.specs.declared.Name.{Name}
use Rattle.record_bag.specs.Bags.{is_held, held_names}
use Rattle.unix_names.specs.Names.{is_before}
use Rattle.courier_core.specs.declared.courier.Courier.{Courier}
use Rattle.courier_core.specs.Wants.{lists, lacking, least_of, all_added}

-- the names that a courier wants, and those that its job needs now
abbrev pub asked : Courier → List Name → List Name
asked courier need = courier.wants ++ need

-- the least of them that the bag lacks
abbrev pub next_want : Courier → List Name → Option Name
next_want courier need = least_of None (lacking courier.bag (asked courier need))

-- whether a name is below some held name
abbrev pub must_restart : Courier → Name → Bool
must_restart courier n = list_any (λ m. is_before n m) (held_names courier.bag)

-- the courier that also wants the needed names and then the held ones, each once
abbrev pub remembered : Courier → List Name → Courier
remembered courier need = record courier { wants = all_added courier.wants (need ++ held_names courier.bag) }

-- a wanted name below a held one is held
abbrev pub HoldsWhatIsBelow : Courier → Type 0
HoldsWhatIsBelow courier = (n : Name) → lists courier.wants n ≡ true → must_restart courier n ≡ true → is_held courier.bag n ≡ true
