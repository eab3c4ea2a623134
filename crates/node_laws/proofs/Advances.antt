-- a courier's questions, one and many
use Rattle.std.proofs.Common.{◌≡◌, ◌==◌, ℕ, zero, suc, Bool, true, false, List, [], ◌∷◌, Option, None, Some, if◌then◌else◌, refl, sym, subst}
use Rattle.std.specs.Prelude.{All}
use Rattle.std.proofs.lemmas.List.Elements.{All-nil, All-cons, All-append}
use Rattle.unix_names.specs.declared.Name.{Name}
use Rattle.unix_names.specs.Names.{home}
use Rattle.unix_calls.specs.declared.World.{World}
use Rattle.record_bag.specs.declared.Held.{Held}
use Rattle.record_bag.specs.declared.Bag.{Bag}
use Rattle.record_bag.specs.declared.Outcome.{Outcome}
use Rattle.record_bag.specs.declared.Outcome.TheVariants.{Done, Need, Away}
use Rattle.record_bag.specs.Bags.{all_held}
use Rattle.record_bag.specs.Decisions.{IsLawfulFor}
use Rattle.record_table.specs.declared.Slot.{Slot}
use Rattle.record_table.specs.declared.Slot.TheVariants.{Home, Out}
use Rattle.record_table.specs.declared.Line.{Line}
use Rattle.record_table.specs.Places.{nobody, joined, line_of}
use Rattle.record_table.specs.Slots.{slot_at}
use Rattle.courier_core.specs.declared.Courier.{Courier}
use Rattle.courier_core.specs.declared.Message.TheVariants as message
use Rattle.courier_core.specs.Couriers.{next_want, must_restart}
use Rattle.node_state.specs.declared.State.{State}
use Rattle.node_state.specs.Wires.{posted}
use Rattle.node_core.specs.declared.step.Step.{Step}
use Rattle.node_core.specs.declared.step.Step.TheVariants.{Again, Over}
use Rattle.node_core.specs.Advance.{Ask, Stepped, Advanced, asked, is_stepped, wanted_at, wanted, restarted, needed_least, needed, stepped_by, stepped, goes_on, advanced}
use Rattle.node_core.specs.Conditions.{AsksFit, FitsOn}
use Rattle.node_laws.specs.Couriers.{IsSound, WaitsFor, KeepsCouriers}
use Rattle.node_laws.specs.Laws.{LawfulBy, GoesOnSound, StepsKeep}
use Rattle.node_laws.proofs.Sound.{taking-sound, waiting-sound, restart-sound}
use Rattle.node_laws.proofs.Moves.{lines-put, posted-keeps, all_given_back-keeps, finished-keeps}

abbrev StepKeeps : Stepped → Type 0
StepKeeps z = KeepsCouriers z.state × GoesOnSound z.step

either-step : (b : Bool) (x y : Stepped) → (b ≡ true → StepKeeps x) → (b ≡ false → StepKeeps y) → StepKeeps (if b then x else y)
either-step true x y f g = f refl
either-step false x y f g = g refl

module _ (s : State) (c : Courier) (names : List Name) (k : KeepsCouriers s) (sound : IsSound c) where
  wanted_at-keeps : (x : Name) (a : Slot Held (Line Courier)) → All (WaitsFor x) (line_of a).waiters → next_want c names ≡ Some x → StepKeeps (wanted_at s c x a)
  wanted_at-keeps x (Home h) line next = (
    record { ready = k.ready; lines = lines-put s.slots x (Out nobody) k.lines (All-nil (WaitsFor x)); out = k.out },
    taking-sound c names x h sound next,
  )
  wanted_at-keeps x (Out l) line next = (
    record {
      ready = k.ready;
      lines = lines-put s.slots x (Out (joined l c)) k.lines (All-append (WaitsFor x) l.waiters (c ∷ []) line (All-cons (WaitsFor x) c [] (waiting-sound c names x sound next) (All-nil (WaitsFor x))));
      out = k.out;
    },
    tt,
  )

  wanted-keeps : (x : Name) → next_want c names ≡ Some x → StepKeeps (wanted s c x)
  wanted-keeps x next = either-step (home x s.nodes == s.id) (wanted_at s c x (slot_at s.slots x)) (is_stepped (posted s (home x s.nodes) (message.Ride c)) (Over None))
      (λ e. wanted_at-keeps x (slot_at s.slots x) (k.lines x) next)
      (λ e. (posted-keeps s (home x s.nodes) (message.Ride c) sound k, tt))

  restarted-keeps : StepKeeps (restarted s c names)
  restarted-keeps = (all_given_back-keeps s (all_held c.bag) k, restart-sound c names sound)

  least-keeps : (o : Option Name) → next_want c names ≡ o → StepKeeps (needed_least s c names o)
  least-keeps None next = (k, tt)
  least-keeps (Some x) next = either-step (must_restart c x) (restarted s c names) (wanted s c x) (λ e. restarted-keeps) (λ e. wanted-keeps x next)

  needed-keeps : StepKeeps (needed s c names)
  needed-keeps = least-keeps (next_want c names) refl

by-answer : (world : World) (s : State) (c : Courier) (bag : Bag) (o : Outcome) → IsLawfulFor c.bag bag o → KeepsCouriers s → IsSound c → StepKeeps (stepped_by world s c o bag)
by-answer world s c bag (Done d) law k sound = (finished-keeps world s c.image bag d k, tt)
by-answer world s c bag (Away node) law k sound = subst (λ b. StepKeeps (is_stepped (posted s node.0 (message.Ride (record c { bag = b }))) (Over None))) (sym law) (posted-keeps s node.0 (message.Ride c) sound k, tt)
by-answer world s c bag (Need names) law k sound = subst (λ b. StepKeeps (needed s (record c { bag = b }) names)) (sym law.1) (needed-keeps s c names k sound)

pub steps_keep : StepsKeep
steps_keep world ask s c law k sound = by-answer world s c (asked ask s c).bag (asked ask s c).outcome law k sound

goes-on : (world : World) (ask : Ask) (n : ℕ) (r : Advanced) →
    ((s : State) (c : Courier) → AsksFit (LawfulBy ask) world ask n s c → KeepsCouriers s → IsSound c → advanced world ask n s c ≡ Some r → KeepsCouriers r.state) →
    (s : State) (step : Step) → FitsOn (AsksFit (LawfulBy ask) world ask n) s step → KeepsCouriers s → GoesOnSound step → goes_on (advanced world ask n) s step ≡ Some r → KeepsCouriers r.state
goes-on world ask n r rest s (Again c) laws k sound e = rest s c laws k sound e
goes-on world ask n r rest s (Over entry) laws k sound e = let is : r.state ≡ s = cc in subst KeepsCouriers (sym is) k

pub advanced-keeps : (world : World) (ask : Ask) (n : ℕ) (r : Advanced) (s : State) (c : Courier) → AsksFit (LawfulBy ask) world ask n s c → KeepsCouriers s → IsSound c → advanced world ask n s c ≡ Some r → KeepsCouriers r.state
advanced-keeps world ask zero r s c laws k sound e = absurd (cc e)
advanced-keeps world ask (suc n) r s c laws k sound e =
    let after = steps_keep world ask s c laws.0 k sound in
    goes-on world ask n r (advanced-keeps world ask n r) (stepped world ask s c).state (stepped world ask s c).step laws.1 after.0 after.1 e
