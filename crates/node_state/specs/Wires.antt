-- what a node sends
use Rattle.std.specs.Prelude.{ℕ, ◌+◌, slice_index, slice_set, [], ◌∷◌, ◌++◌}
use Rattle.courier_core.specs.declared.Message.{Message}
use Rattle.node_state.specs.declared.state.State.{State}

-- the message goes out with the next number of its wire
abbrev pub posted : State → ℕ → Message → State
posted s to m = record s { sent = slice_set s.sent to (slice_index s.sent to + 1); out = s.out ++ (record { to = to; number = slice_index s.sent to; message = m }) ∷ [] }

-- one more message of the wire from a node counts as taken
abbrev pub one_taken : State → ℕ → State
one_taken s from = record s { taken = slice_set s.taken from (slice_index s.taken from + 1) }

-- what was sent is gone
abbrev pub sent_off : State → State
sent_off s = record s { out = [] }
