-- names in their order
use Rattle.std.specs.Prelude.{◌≡◌, false, List, [], ◌∷◌}
use Rattle.unix_names.specs.declared.Name.{Name}
use Rattle.unix_names.specs.Names.{is_before, IsBefore}

-- each name comes after n
abbrev pub AllAfter : Name → List Name → Type 0
AllAfter n [] = Unit {0}
AllAfter n (m ∷ ms) = IsBefore n m × AllAfter n ms

-- no name comes after n
abbrev pub NoneAfter : Name → List Name → Type 0
NoneAfter n [] = Unit {0}
NoneAfter n (m ∷ ms) = (is_before n m ≡ false) × NoneAfter n ms

-- each name comes before the next ones, so each stands once
abbrev pub AreRising : List Name → Type 0
AreRising [] = Unit {0}
AreRising (n ∷ ns) = AllAfter n ns × AreRising ns
