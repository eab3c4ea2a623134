-- a node as its callers see it
use Rattle.std.specs.Prelude.{ℕ, Bool, true, false, ◌≡◌, ◌≢◌, List, [], slice_index, Option, None, Some}
use Rattle.unix_names.specs.declared.NodeId.{NodeId}
use Rattle.unix_calls.specs.declared.Entry.{Entry}
use Rattle.unix_calls.specs.declared.World.{World}
use Rattle.courier_core.specs.declared.Message.{Message}
use Rattle.node_state.specs.declared.State.{State}
use Rattle.node_state.specs.declared.Sent.{Sent}
use Rattle.node_state.specs.Ready.{first_movable}
use Rattle.node_state.specs.Wires.{one_taken}
use Rattle.node_core.specs.declared.refusal.GoRefusal.{GoRefusal}
use Rattle.node_core.specs.declared.refusal.GoRefusal.TheVariants as go_refusal
use Rattle.node_core.specs.declared.refusal.TakeRefusal.{TakeRefusal}
use Rattle.node_core.specs.declared.refusal.TakeRefusal.TheVariants as take_refusal
use Rattle.node_core.specs.Advance.{Ask, Advanced, is_advanced}
use Rattle.node_core.specs.Turns.{Departure, led, going, pushed, arriving}
use Rattle.node_core.specs.Conditions.{Fit, CanSetOut}

-- who decides at a node, its state, and whether it has failed
pub record NodeView (O : Type 0) : Type 0 where
  pub ops : O
  pub state : State
  pub has_failed : Bool

-- a turn that leaves this state and entry, where so many questions lead who sets out there; without anybody who sets out nothing changes
abbrev pub IsLed : World → Ask → Option Departure → State → State → Option (Option Entry) → Type 0
IsLed world ask departure old new None = (departure ≡ None) × (new ≡ old)
IsLed world ask departure old new (Some entry) = (n : ℕ) × (led world ask n departure ≡ Some (is_advanced new entry))

-- the turn leaves this state but for what it sends, which is taken out, and gives this entry
abbrev pub IsTurned : State → Option Entry → List Sent → Option Advanced → Type 0
IsTurned new entry sends turn = (turn ≡ Some (is_advanced (record new { out = sends }) entry)) × (new.out ≡ [])

-- ---- what a turn asks of its caller, unless the node has failed
abbrev pub CanGo : {O : Type 0} → (O → Fit) → (O → Ask) → World → NodeView O → Type 0
CanGo fits answer world node = node.has_failed ≡ false → CanSetOut (fits node.ops) world (answer node.ops) (going world node.state)

abbrev pub CanPush : {O : Type 0} → (O → Fit) → (O → Ask) → World → NodeId → NodeView O → Type 0
CanPush fits answer world to node = node.has_failed ≡ false → CanSetOut (fits node.ops) world (answer node.ops) (pushed node.state to)

abbrev pub CanTake : {O : Type 0} → (O → Fit) → (O → Ask) → World → NodeId → ℕ → Message → NodeView O → Type 0
CanTake fits answer world from number message node =
    node.has_failed ≡ false → number ≡ slice_index node.state.taken from.0 → CanSetOut (fits node.ops) world (answer node.ops) (arriving (one_taken node.state from.0) message)

-- ---- refusals
-- Idle where nobody stands in the queue, and then nothing changes; after NoMemory the node has failed
abbrev pub GoRefuses : {O : Type 0} → GoRefusal → NodeView O → NodeView O → Type 0
GoRefuses go_refusal.Idle old new = (old.state.ready ≡ []) × (new ≡ old)
GoRefuses go_refusal.NoMemory old new = new.has_failed ≡ true

-- Idle where no image stands in the queue that is not stopped
abbrev pub PushRefuses : {O : Type 0} → GoRefusal → NodeView O → NodeView O → Type 0
PushRefuses go_refusal.Idle old new = (first_movable old.state.ready ≡ None) × (new ≡ old)
PushRefuses go_refusal.NoMemory old new = new.has_failed ≡ true

-- NotNext where another message of the wire is expected, and then nothing changes
abbrev pub TakeRefuses : {O : Type 0} → TakeRefusal → ℕ → ℕ → NodeView O → NodeView O → Type 0
TakeRefuses (take_refusal.NotNext expected got) from number old new = (expected ≡ slice_index old.state.taken from) × (got ≡ number) × (number ≢ expected) × (new ≡ old)
TakeRefuses take_refusal.NoMemory from number old new = new.has_failed ≡ true
