-- numbers that count messages, also where there is no such wire
use Rattle.std.proofs.Common.{◌≡◌, ◌≤◌, ℕ, List, length, slice_index, slice_get, slice_set}
use Rattle.std.specs.Prelude.{unwrap_or}
use Rattle.std.proofs.lemmas.Option.{unwrap_or-slice_get}
use Rattle.std.proofs.lemmas.List.{set_past}

pub number-read : (xs : List ℕ) (i : ℕ) → unwrap_or (slice_get xs i) 0 ≡ slice_index xs i
number-read xs i = unwrap_or-slice_get xs i 0

pub number-past : (xs : List ℕ) (i v : ℕ) → length xs ≤ i → slice_set xs i v ≡ xs
number-past xs i v le = set_past xs i v le

pub ruleset wire_laws = (number-read, number-past)
