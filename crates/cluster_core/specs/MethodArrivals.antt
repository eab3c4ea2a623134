-- method: which of the wires to a node has a message
use Rattle.std.specs.Prelude.{ℕ, suc, ◌≡◌, All, List, [], ◌∷◌, Option, None, Some}
use Rattle.node_state.specs.declared.Sent.{Sent}

-- no wire has a message
abbrev pub AllSilent : List (List Sent) → Type 0
AllSilent wires = All (λ wire. wire ≡ []) wires

-- the number of the first wire that has a message, where the first of the list has this number
abbrev pub first_heard : ℕ → List (List Sent) → Option ℕ
first_heard n [] = None
first_heard n ([] ∷ wires) = first_heard (suc n) wires
first_heard n ((m ∷ ms) ∷ wires) = Some n
