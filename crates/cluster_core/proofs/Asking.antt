-- what a turn asks of its caller, told by the laws of runs
use Rattle.std.proofs.Common.{ℕ, zero, suc, Option, None, Some, sym, subst}
use Rattle.unix_names.specs.declared.Pid.{Pid}
use Rattle.unix_calls.specs.declared.Job.{Job}
use Rattle.unix_calls.specs.declared.World.{World}
use Rattle.signal_state.specs.declared.Own.{Own}
use Rattle.record_bag.specs.declared.bag.Bag.{Bag}
use Rattle.record_bag.specs.declared.vector.Site.{Site}
use Rattle.courier_core.specs.declared.Courier.{Courier}
use Rattle.node_state.specs.declared.State.{State}
use Rattle.node_core.specs.declared.step.Step.{Step}
use Rattle.node_core.specs.declared.step.Step.TheVariants.{Again, Over}
use Rattle.node_core.specs.Advance.{Ask, stepped}
use Rattle.node_core.specs.Conditions.{Fit, FitsOn, AsksFit, CanSetOut}
use Rattle.node_core.specs.Turns.{Departure}
use Rattle.node_core.specs.Views.{NodeView}
use Rattle.cluster_core.specs.MethodShows.{ShowsNode}

-- where more may be asked, whoever may set out may still
module _ (fits more : Fit) (wider : (pid : Pid) (job : Job) (own : Own) (bag : Bag) (site : Site) → fits pid job own bag site → more pid job own bag site) (world : World) (ask : Ask) where
  on_wider : (rest rest' : State → Courier → Type 0) → ((s : State) (c : Courier) → rest s c → rest' s c) → (s : State) (step : Step) → FitsOn rest s step → FitsOn rest' s step
  on_wider rest rest' f s (Again c) h = f s c h
  on_wider rest rest' f s (Over e) h = tt

  asks_wider : (n : ℕ) (s : State) (c : Courier) → AsksFit fits world ask n s c → AsksFit more world ask n s c
  asks_wider zero s c h = tt
  asks_wider (suc n) s c h = (wider _ _ _ _ _ h.0, on_wider (AsksFit fits world ask n) (AsksFit more world ask n) (λ t d g. asks_wider n t d g) (stepped world ask s c).state (stepped world ask s c).step h.1)

  pub sets_out_wider : (o : Option Departure) → CanSetOut fits world ask o → CanSetOut more world ask o
  sets_out_wider None h = tt
  sets_out_wider (Some d) h = record { valid = h.valid; kept = h.kept; asks = λ n. asks_wider n d.state d.courier (h.asks n) }

-- what may set out of the state that a node shows may set out of the node
pub sets_out_shown : {O : Type 0} (fits : O → Fit) (answer : O → Ask) (world : World) (ops : O) (s : State) (node : NodeView O) (leaves : State → Option Departure) → ShowsNode ops s node →
    CanSetOut (fits ops) world (answer ops) (leaves s) → CanSetOut (fits node.ops) world (answer node.ops) (leaves node.state)
sets_out_shown fits answer world ops s node leaves shows h =
    subst (λ (x : State). CanSetOut (fits node.ops) world (answer node.ops) (leaves x)) (sym shows.state_is)
    (subst (λ (o : _). CanSetOut (fits o) world (answer o) (leaves s)) (sym shows.ops_is) h)
