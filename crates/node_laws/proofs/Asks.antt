-- what a turn asks of its caller, where each courier of the node is sound
use Rattle.std.proofs.Common.{ℕ, zero, suc, Option, None, Some}
use Rattle.unix_names.specs.declared.Pid.{Pid}
use Rattle.unix_calls.specs.declared.Job.{Job}
use Rattle.unix_calls.specs.declared.World.{World}
use Rattle.unix_calls.specs.Valid.{IsValid}
use Rattle.signal_state.specs.declared.Own.{Own}
use Rattle.proc_image.specs.Images.{IsFit}
use Rattle.record_bag.specs.declared.Bag.{Bag}
use Rattle.record_bag.specs.declared.Site.{Site}
use Rattle.record_bag.specs.Decisions.{IsLawful}
use Rattle.courier_core.specs.declared.Courier.{Courier}
use Rattle.node_state.specs.declared.State.{State}
use Rattle.node_core.specs.declared.step.Step.{Step}
use Rattle.node_core.specs.declared.step.Step.TheVariants.{Again, Over}
use Rattle.node_core.specs.Advance.{Ask, site_of, stepped}
use Rattle.node_core.specs.Turns.{Departure}
use Rattle.node_core.specs.Conditions.{Fit, AsksFit, FitsOn, CanSetOut}
use Rattle.node_laws.specs.Laws.{LawfulBy, AnswersLawfully, SetsOutSound}

-- each answer that fits is lawful
abbrev pub KeepsTheLaw : Fit → Ask → Type 0
KeepsTheLaw fits ask = (pid : Pid) (job : Job) (own : Own) (bag : Bag) (site : Site) → fits pid job own bag site → IsLawful bag (ask pid job own bag site)

on-more : (f g : State → Courier → Type 0) → ((s : State) (c : Courier) → f s c → g s c) → (s : State) (step : Step) → FitsOn f s step → FitsOn g s step
on-more f g more s (Again c) fits = more s c fits
on-more f g more s (Over e) fits = tt

asks-lawful : (fits : Fit) (world : World) (ask : Ask) → KeepsTheLaw fits ask → (n : ℕ) (s : State) (c : Courier) → AsksFit fits world ask n s c → AsksFit (LawfulBy ask) world ask n s c
asks-lawful fits world ask law zero s c asks = tt
asks-lawful fits world ask law (suc n) s c asks = (
  law c.image.pid c.job c.image.own c.bag (site_of s) asks.0,
  on-more (AsksFit fits world ask n) (AsksFit (LawfulBy ask) world ask n) (asks-lawful fits world ask law n) (stepped world ask s c).state (stepped world ask s c).step asks.1,
)

-- who may set out by a vector that keeps the law is answered lawfully
pub answers-lawfully : (fits : Fit) (world : World) (ask : Ask) → KeepsTheLaw fits ask → (n : ℕ) (o : Option Departure) → CanSetOut fits world ask o → AnswersLawfully world ask n o
answers-lawfully fits world ask law n None can = tt
answers-lawfully fits world ask law n (Some d) can = asks-lawful fits world ask law n d.state d.courier (can.asks n)

-- the image of who sets out, if anybody does, fits the world
abbrev pub SetsOutFit : World → Option Departure → Type 0
SetsOutFit world None = Unit {0}
SetsOutFit world (Some d) = IsFit world d.courier.image

-- each question of who sets out, if anybody does, fits
abbrev pub AsksWhatFits : Fit → World → Ask → Option Departure → Type 0
AsksWhatFits fits world ask None = Unit {0}
AsksWhatFits fits world ask (Some d) = (n : ℕ) → AsksFit fits world ask n d.state d.courier

-- where who sets out is sound, a turn asks of its caller only that the world is valid, that the image fits it, and that the questions fit
pub can-set-out : (fits : Fit) (world : World) (ask : Ask) (o : Option Departure) → IsValid world → SetsOutSound o → SetsOutFit world o → AsksWhatFits fits world ask o → CanSetOut fits world ask o
can-set-out fits world ask None valid sound image asks = tt
can-set-out fits world ask (Some d) valid sound image asks = record { valid = valid; kept = record { image = image; below = sound.1.below }; asks = asks }
