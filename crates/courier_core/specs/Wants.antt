-- lists of names
use Rattle.std.specs.Prelude.{◌≡◌, ◌==◌, Bool, true, false, not, List, [], ◌∷◌, ◌++◌, fold, filter, Option, None, Some, if◌then◌else◌}
use Rattle.std.specs.List.{list_any}
use Rattle.unix_names.specs.declared.Name.{Name}
use Rattle.unix_names.specs.declared.Name.TheVariants.{V, G}
use Rattle.record_bag.specs.declared.Bag.{Bag}
use Rattle.record_bag.specs.Bags.{is_held}
use Rattle.unix_names.specs.Names.{is_before}

-- whether two names are one
abbrev pub is_name : Name → Name → Bool
is_name (V p) (V q) = p.0 == q.0
is_name (V p) (G h) = false
is_name (G g) (V q) = false
is_name (G g) (G h) = g.0 == h.0

-- whether a name stands in a list
abbrev pub lists : List Name → Name → Bool
lists names n = list_any (λ m. is_name m n) names

-- the names that a bag lacks, in their order
abbrev pub lacking : Bag → List Name → List Name
lacking bag names = filter (λ n. not (is_held bag n)) names

-- the lesser of a name and the least one so far
abbrev pub lesser : Option Name → Name → Name
lesser None n = n
lesser (Some m) n = if is_before n m then n else m

-- the least of the names, and of the least one so far
abbrev pub least_of : Option Name → List Name → Option Name
least_of least names = fold (λ best n. Some (lesser best n)) least names

-- no name comes before n
abbrev pub NoneBefore : Name → List Name → Type 0
NoneBefore n [] = Unit {0}
NoneBefore n (m ∷ ms) = (is_before m n ≡ false) × NoneBefore n ms

-- a name of the list before which none of the list comes
pub record IsLeast (n : Name) (names : List Name) : Type 0 where
  pub among : lists names n ≡ true
  pub first : NoneBefore n names

-- the list with a name more, the last, unless it stands there
abbrev pub added : List Name → Name → List Name
added names n = if lists names n then names else names ++ n ∷ []

-- the list once each of these names was added, in order
abbrev pub all_added : List Name → List Name → List Name
all_added names more = fold added names more
