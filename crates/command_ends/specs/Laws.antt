-- One input has one answer.
use Rattle.std.specs.Prelude.{◌≡◌, ℕ, List}
use Rattle.command_ends.specs.declared.status.Status.{Status}
use Rattle.command_ends.specs.Ends.{Texts}

-- the status and the text that belong to an input are one
abbrev pub HasOneAnswer : Texts → Type 0
HasOneAnswer P = (input text text' : List ℕ) (status status' : Status) → P status input text → P status' input text' → (status ≡ status') × (text ≡ text')
