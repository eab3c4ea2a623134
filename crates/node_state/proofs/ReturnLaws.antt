-- records that are returned one after the other
use Rattle.std.proofs.Common.{◌≡◌, refl, List, [], ◌∷◌, ◌++◌}
use Rattle.unix_names.specs.declared.Name.{Name}
use Rattle.record_bag.specs.declared.Held.{Held}
use Rattle.node_state.specs.declared.state.State.{State}
use Rattle.node_state.specs.Returns.{given_back, all_given_back}

-- some, and then the others
pub given_back_in_turn : (s : State) (first others : List (Name × Held)) → all_given_back (all_given_back s first) others ≡ all_given_back s (first ++ others)
given_back_in_turn s [] others = refl
given_back_in_turn s (e ∷ es) others = given_back_in_turn (given_back s e.0 e.1) es others
