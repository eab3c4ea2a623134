-- what a turn asks of its caller
use Rattle.std.specs.Prelude.{ℕ, zero, suc, Option, None, Some}
use Rattle.unix_names.specs.declared.Pid.{Pid}
use Rattle.unix_calls.specs.declared.Job.{Job}
use Rattle.unix_calls.specs.declared.World.{World}
use Rattle.unix_calls.specs.Valid.{IsValid}
use Rattle.signal_state.specs.declared.Own.{Own}
use Rattle.proc_image.specs.Images.{IsFit}
use Rattle.record_bag.specs.declared.Bag.{Bag}
use Rattle.record_bag.specs.declared.Site.{Site}
use Rattle.courier_core.specs.declared.Courier.{Courier}
use Rattle.courier_core.specs.Couriers.{HoldsWhatIsBelow}
use Rattle.node_state.specs.declared.State.{State}
use Rattle.node_core.specs.declared.step.Step.{Step}
use Rattle.node_core.specs.declared.step.Step.TheVariants.{Again, Over}
use Rattle.node_core.specs.Advance.{Ask, site_of, stepped}
use Rattle.node_core.specs.Turns.{Departure}

-- which questions may be asked
abbrev pub Fit : Type 1
Fit = Pid → Job → Own → Bag → Site → Type 0

abbrev pub AskFits : Fit → State → Courier → Type 0
AskFits fits s c = fits c.image.pid c.job c.image.own c.bag (site_of s)

abbrev pub FitsOn : (State → Courier → Type 0) → State → Step → Type 0
FitsOn rest s (Again c) = rest s c
FitsOn rest s (Over e) = Unit {0}

-- the first so many questions fit
abbrev pub AsksFit : Fit → World → Ask → ℕ → State → Courier → Type 0
AsksFit fits world ask zero s c = Unit {0}
AsksFit fits world ask (suc n) s c = AskFits fits s c × FitsOn (AsksFit fits world ask n) (stepped world ask s c).state (stepped world ask s c).step

-- the image fits the world, and each wanted name that is below a held one is held
pub record IsKept (world : World) (c : Courier) : Type 0 where
  pub image : IsFit world c.image
  pub below : HoldsWhatIsBelow c

-- a courier may set out in a valid world: it keeps its invariant, and each question that it comes to fits
pub record CanGoOn (fits : Fit) (world : World) (ask : Ask) (s : State) (c : Courier) : Type 0 where
  pub valid : IsValid world
  pub kept : IsKept world c
  pub asks : (n : ℕ) → AsksFit fits world ask n s c

-- so it is for who sets out, if there is one
abbrev pub CanSetOut : Fit → World → Ask → Option Departure → Type 0
CanSetOut fits world ask None = Unit {0}
CanSetOut fits world ask (Some d) = CanGoOn fits world ask d.state d.courier
