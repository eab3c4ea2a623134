-- An input has one meaning, or one fault.
use Rattle.std.specs.Prelude.{◌≡◌, ℕ, List}
use Rattle.script_words.specs.declared.Fault.{Fault}
use Rattle.given_files.specs.declared.input.Given.{Given}
use Rattle.given_files.specs.Input.{Means, IsFault, IsRun, IsFaultOfRun}

-- what an input gives is one, and its fault is one, and it has not both
pub record IsOne (Gives : Given → Type 0) (Has : Fault → Type 0) : Type 0 where
  pub one : (g g' : Given) → Gives g → Gives g' → g ≡ g'
  pub one_fault : (fault fault' : Fault) → Has fault → Has fault' → fault ≡ fault'
  pub not_both : (g : Given) (fault : Fault) → Gives g → ¬ Has fault

abbrev pub HaveOneMeaning : Type 0
HaveOneMeaning = (input : List ℕ) → IsOne (Means input) (IsFault input)

abbrev pub HaveOneRun : Type 0
HaveOneRun = (input : List ℕ) → IsOne (IsRun input) (IsFaultOfRun input)
