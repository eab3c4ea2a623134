-- the laws of a node's couriers
use Rattle.std.specs.Prelude.{ℕ, All, List, Option, None, Some}
use Rattle.unix_names.specs.declared.NodeId.{NodeId}
use Rattle.unix_names.specs.declared.Name.{Name}
use Rattle.unix_calls.specs.declared.Entry.{Entry}
use Rattle.unix_calls.specs.declared.World.{World}
use Rattle.record_bag.specs.declared.Held.{Held}
use Rattle.record_bag.specs.Decisions.{IsLawful}
use Rattle.courier_core.specs.declared.Courier.{Courier}
use Rattle.courier_core.specs.declared.Message.{Message}
use Rattle.node_state.specs.declared.Sent.{Sent}
use Rattle.node_state.specs.declared.State.{State}
use Rattle.node_state.specs.Wires.{one_taken}
use Rattle.node_state.specs.Returns.{laid}
use Rattle.node_core.specs.declared.step.Step.{Step}
use Rattle.node_core.specs.declared.step.Step.TheVariants.{Again, Over}
use Rattle.node_core.specs.Advance.{Ask, asked, stepped}
use Rattle.node_core.specs.Turns.{Departure, led, going, pushed, arriving, came}
use Rattle.node_core.specs.Conditions.{Fit, AsksFit}
use Rattle.node_core.specs.Views.{IsTurned}
use Rattle.node_core.specs.First.{first_state}
use Rattle.node_laws.specs.Couriers.{IsSound, CarriesSound, SendsSound, KeepsCouriers}

-- a question is answered lawfully
abbrev pub LawfulBy : Ask → Fit
LawfulBy ask pid job own bag site = IsLawful bag (ask pid job own bag site)

-- the first so many questions of who sets out, if anybody does, are answered lawfully
abbrev pub AnswersLawfully : World → Ask → ℕ → Option Departure → Type 0
AnswersLawfully world ask n None = Unit {0}
AnswersLawfully world ask n (Some d) = AsksFit (LawfulBy ask) world ask n d.state d.courier

-- who sets out, if anybody does, is sound, and so is the node without it
abbrev pub SetsOutSound : Option Departure → Type 0
SetsOutSound None = Unit {0}
SetsOutSound (Some d) = KeepsCouriers d.state × IsSound d.courier

-- a courier that goes on is sound
abbrev pub GoesOnSound : Step → Type 0
GoesOnSound (Again c) = IsSound c
GoesOnSound (Over entry) = Unit {0}

-- what a turn leaves: the couriers of the node and those that it sends are sound
abbrev pub LeavesSound : State → List Sent → Type 0
LeavesSound new sends = KeepsCouriers new × All SendsSound sends

-- ---- who sets out
abbrev pub GoersAreSound : Type 0
GoersAreSound = (world : World) (s : State) → KeepsCouriers s → SetsOutSound (going world s)

abbrev pub MoversAreSound : Type 0
MoversAreSound = (s : State) (to : NodeId) → KeepsCouriers s → SetsOutSound (pushed s to)

abbrev pub ArrivalsAreSound : Type 0
ArrivalsAreSound = (s : State) (from : ℕ) (m : Message) → CarriesSound m → KeepsCouriers s → SetsOutSound (arriving (one_taken s from) m)

-- ---- the steps
-- one question, with its restart, its taking, its waiting and its end
abbrev pub StepsKeep : Type 0
StepsKeep = (world : World) (ask : Ask) (s : State) (c : Courier) → IsLawful c.bag (asked ask s c) → KeepsCouriers s → IsSound c → KeepsCouriers (stepped world ask s c).state × GoesOnSound (stepped world ask s c).step

-- a record that comes back, and is handed to the first in line
abbrev pub ReturnsKeep : Type 0
ReturnsKeep = (s : State) (n : Name) (h : Held) → KeepsCouriers s → KeepsCouriers (laid s n h)

-- ---- the turns
abbrev pub TurnsKeep : Type 0
TurnsKeep = (world : World) (ask : Ask) (n : ℕ) (departure : Option Departure) (new : State) (entry : Option Entry) (sends : List Sent) →
    AnswersLawfully world ask n departure → SetsOutSound departure → IsTurned new entry sends (led world ask n departure) → LeavesSound new sends

abbrev pub MessagesKeep : Type 0
MessagesKeep = (world : World) (ask : Ask) (n from : ℕ) (s new : State) (m : Message) (entry : Option Entry) (sends : List Sent) →
    AnswersLawfully world ask n (arriving (one_taken s from) m) → CarriesSound m → KeepsCouriers s → IsTurned new entry sends (came world ask n (one_taken s from) m) → LeavesSound new sends

abbrev pub NodesBeginSound : Type 0
NodesBeginSound = (world : World) (k : ℕ) → KeepsCouriers (first_state world k)
