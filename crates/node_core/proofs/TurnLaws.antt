-- who sets out, and what the turn then is
use Rattle.std.proofs.Common.{◌≡◌, ◌∙◌, ℕ, List, [], ◌∷◌, Option, None, Some, sym, ap, subst}
use Rattle.unix_names.specs.declared.NodeId.{NodeId}
use Rattle.unix_calls.specs.declared.Entry.{Entry}
use Rattle.unix_calls.specs.declared.Job.TheVariants as job
use Rattle.unix_calls.specs.declared.World.{World}
use Rattle.proc_image.specs.declared.Image.{Image}
use Rattle.courier_core.specs.declared.Courier.{Courier}
use Rattle.courier_core.specs.declared.Message.{Message}
use Rattle.courier_core.specs.declared.Message.TheVariants as message
use Rattle.node_state.specs.declared.Waiting.{Waiting}
use Rattle.node_state.specs.declared.State.{State}
use Rattle.node_state.specs.Ready.{first_movable, without_movable}
use Rattle.node_core.specs.Advance.{Ask, is_advanced, advanced}
use Rattle.node_core.specs.Turns.{courier_of, courier_with, first_of, going, moved_with, pushed, led, arriving, came}
use Rattle.node_core.specs.Conditions.{Fit, CanGoOn, CanSetOut}
use Rattle.node_core.specs.Views.{IsLed}
use Rattle.std.specs.Option.{option_map}

-- ---- go
pub go-fits : (fits : Fit) (world : World) (ask : Ask) (s : State) (w : Waiting) (ws : List Waiting) (c : Courier) → s.ready ≡ w ∷ ws → c ≡ courier_of world w → CanSetOut fits world ask (going world s) → CanGoOn fits world ask (record s { ready = ws }) c
go-fits fits world ask s w ws c e is can = subst (λ k. CanGoOn fits world ask (record s { ready = ws }) k) (sym is) (subst (λ q. CanSetOut fits world ask (first_of world s q)) e can)

pub go-back : (world : World) (ask : Ask) (s new : State) (w : Waiting) (ws : List Waiting) (c : Courier) (entry : Option Entry) → s.ready ≡ w ∷ ws → c ≡ courier_of world w →
    (n : ℕ) × (advanced world ask n (record s { ready = ws }) c ≡ Some (is_advanced new entry)) → IsLed world ask (going world s) s new (Some entry)
go-back world ask s new w ws c entry e is (n, came-so) =
    (n, ap (λ q. led world ask n (first_of world s q)) e ∙ (ap (advanced world ask n (record s { ready = ws })) (sym is) ∙ came-so))

pub go-idle : (world : World) (ask : Ask) (s : State) (q : List Waiting) → s.ready ≡ [] → q ≡ [] → IsLed world ask (going world s) s (record s { ready = q }) None
go-idle world ask s q e now = (ap (first_of world s) e, ap (λ r. record s { ready = r }) (now ∙ sym e))

-- ---- push
pub push-fits : (fits : Fit) (world : World) (ask : Ask) (s : State) (to : NodeId) (image : Image) (q : List Waiting) (c : Courier) → Some image ≡ first_movable s.ready → q ≡ without_movable s.ready → c ≡ courier_with image (job.Push to) →
    CanSetOut fits world ask (pushed s to) → CanGoOn fits world ask (record s { ready = q }) c
push-fits fits world ask s to image q c first rest is can =
    subst (λ k. CanGoOn fits world ask (record s { ready = q }) k) (sym is)
    (subst (λ r. CanGoOn fits world ask (record s { ready = r }) (courier_with image (job.Push to))) (sym rest) (subst (λ o. CanSetOut fits world ask (option_map (moved_with s to) o)) (sym first) can))

pub push-back : (world : World) (ask : Ask) (s new : State) (to : NodeId) (image : Image) (q : List Waiting) (c : Courier) (entry : Option Entry) → Some image ≡ first_movable s.ready → q ≡ without_movable s.ready → c ≡ courier_with image (job.Push to) →
    (n : ℕ) × (advanced world ask n (record s { ready = q }) c ≡ Some (is_advanced new entry)) → IsLed world ask (pushed s to) s new (Some entry)
push-back world ask s new to image q c entry first rest is (n, came-so) = (
  n,
  ap (λ o. led world ask n (option_map (moved_with s to) o)) (sym first)
      ∙ (ap (λ r. advanced world ask n (record s { ready = r }) (courier_with image (job.Push to))) (sym rest)
      ∙ (ap (advanced world ask n (record s { ready = q })) (sym is) ∙ came-so)),
)

pub push-idle : (world : World) (ask : Ask) (s : State) (to : NodeId) (q : List Waiting) → None ≡ first_movable s.ready → q ≡ s.ready → IsLed world ask (pushed s to) s (record s { ready = q }) None
push-idle world ask s to q none same = (ap (option_map (moved_with s to)) (sym none), ap (λ r. record s { ready = r }) same)

-- ---- a message
pub come-fits : (fits : Fit) (world : World) (ask : Ask) (s : State) (m : Message) (c : Courier) → m ≡ message.Ride c → CanSetOut fits world ask (arriving s m) → CanGoOn fits world ask s c
come-fits fits world ask s m c e can = subst (λ k. CanSetOut fits world ask (arriving s k)) e can

pub take-fits : (fits : Fit) (world : World) (ask : Ask) (s s' : State) (m : Message) → s' ≡ s → CanSetOut fits world ask (arriving s m) → CanSetOut fits world ask (arriving s' m)
take-fits fits world ask s s' m e can = subst (λ k. CanSetOut fits world ask (arriving k m)) (sym e) can

pub take-back : (world : World) (ask : Ask) (s s' new : State) (m : Message) (entry : Option Entry) → s' ≡ s → (n : ℕ) × (came world ask n s' m ≡ Some (is_advanced new entry)) → (n : ℕ) × (came world ask n s m ≡ Some (is_advanced new entry))
take-back world ask s s' new m entry e (n, so) = (n, ap (λ k. came world ask n k m) (sym e) ∙ so)
