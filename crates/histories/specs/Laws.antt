-- what is true of every history part
use Rattle.std.specs.Prelude.{◌≡◌, ◌⊎◌, ℕ, List}
use Rattle.file_parts.specs.Parts.{Lines}
use Rattle.histories.specs.Reading.{Meanings, IsHistoryOf, IsFirstBadOf}

-- lines are a history of these values and of no others
pub record MeansOne {X : Type 0} (M : Meanings X) (ls : Lines) (xs : List X) : Type 0 where
  pub history : IsHistoryOf M ls xs
  pub one : (other : List X) → IsHistoryOf M ls other → other ≡ xs

-- this line is the first bad one, and no other is
pub record HasOneBad {X : Type 0} (M : Meanings X) (ls : Lines) (number bad : ℕ) : Type 0 where
  pub first : IsFirstBadOf M ls number bad
  pub one : (other : ℕ) → IsFirstBadOf M ls number other → other ≡ bad

-- either lines, the first of which has this number, are a history of one list of values and have no first bad line; or they have one, and are a history of nothing
abbrev pub MeansOrFails : {X : Type 0} → Meanings X → Type 0
MeansOrFails {X} M = (ls : Lines) (number : ℕ) →
    ((xs : List X) × MeansOne M ls xs × ((bad : ℕ) → ¬ IsFirstBadOf M ls number bad))
    ⊎ ((bad : ℕ) × HasOneBad M ls number bad × ((xs : List X) → ¬ IsHistoryOf M ls xs))
