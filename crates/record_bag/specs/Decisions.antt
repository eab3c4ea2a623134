-- what the decisions of every vector have in common
use Rattle.std.specs.Prelude.{◌≡◌, ◌<◌, ◌^◌, false, All, List, length}
use Rattle.unix_names.specs.declared.Name.{Name}
use Rattle.unix_names.specs.Names.{pid_of}
use Rattle.record_bag.specs.declared.bag.Bag.{Bag}
use Rattle.record_bag.specs.declared.vector.Outcome.{Outcome}
use Rattle.record_bag.specs.declared.vector.Outcome.TheVariants.{Done, Need, Away}
use Rattle.record_bag.specs.Names.{AreRising}
use Rattle.record_bag.specs.Bags.{is_held, held_names}

-- the answer to a question: the outcome, and the bag that it leaves
pub record Answered : Type 0 where
  pub outcome : Outcome
  pub bag : Bag

-- an outcome with the bag that it leaves
abbrev pub answered : Outcome → Bag → Answered
answered outcome bag = record { outcome = outcome; bag = bag }

-- names that a decision may ask for: at least one, each lacking in the bag, in order of name and each once
pub record NamesLacking (bag : Bag) (names : List Name) : Type 0 where
  pub some : 0 < length names
  pub lacking : All (λ n. is_held bag n ≡ false) names
  pub rising : AreRising names
  pub in_range : All (λ n. pid_of n < 2 ^ 32) names

-- a need asks for names that the bag lacks; only a decision that is done changes what is held, and not under which names
abbrev pub IsLawfulFor : Bag → Bag → Outcome → Type 0
IsLawfulFor bag next (Done decided) = held_names next ≡ held_names bag
IsLawfulFor bag next (Need names) = NamesLacking bag names × (next ≡ bag)
IsLawfulFor bag next (Away node) = next ≡ bag

-- the law that each answer of a vector keeps
abbrev pub IsLawful : Bag → Answered → Type 0
IsLawful bag answer = IsLawfulFor bag answer.bag answer.outcome
