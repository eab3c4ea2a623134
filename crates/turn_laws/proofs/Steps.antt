-- a turn does one thing, and so does a list of turns
use Rattle.std.proofs.Common.{◌≡◌, ℕ, zero, suc, List, [], ◌∷◌, ◌++◌, sym, ap, ◌∙◌, subst, Option, None, Some}
use Rattle.std.specs.Option.{option_map}
use Rattle.unix_calls.specs.declared.Turn.{Turn}
use Rattle.unix_calls.specs.declared.Turn.TheVariants.{Go, Push, Take, Auto}
use Rattle.unix_calls.specs.declared.World.{World}
use Rattle.list_laws.proofs.Filters.{mapped_some, some_same}
use Rattle.courier_core.specs.declared.courier.Courier.{Courier}
use Rattle.courier_core.specs.declared.courier.Message.{Message}
use Rattle.courier_core.specs.declared.courier.Message.TheVariants as message
use Rattle.node_state.specs.declared.State.{State}
use Rattle.node_state.specs.declared.Sent.{Sent}
use Rattle.node_core.specs.Advance.{Ask, Advanced, stepped, goes_on, advanced}
use Rattle.node_core.specs.declared.step.Step.{Step}
use Rattle.node_core.specs.declared.step.Step.TheVariants.{Again, Over}
use Rattle.cluster_state.specs.Cluster.{Cluster, Turned, with_wire, turned_at, took, turned}
use Rattle.node_core.specs.Turns.{Departure, going, pushed, led, came}
use Rattle.node_state.specs.Wires.{one_taken}
use Rattle.unix_calls.specs.declared.Entry.{Entry}
use Rattle.cluster_state.specs.Possible.{Does, Ran}

module _ (world : World) (ask : Ask) where
  -- ---- a turn does one thing, however many questions it may ask
  pub advanced_one : (n m : ℕ) (s : State) (c : Courier) (a b : Advanced) → advanced world ask n s c ≡ Some a → advanced world ask m s c ≡ Some b → a ≡ b
  advanced_one zero m s c a b e f = cc
  advanced_one (suc n) zero s c a b e f = cc
  advanced_one (suc n) (suc m) s c a b e f = go (stepped world ask s c).step (advanced_one n m) e f
    where
      go : (step : Step) → ((s : State) (c : Courier) (a b : Advanced) → advanced world ask n s c ≡ Some a → advanced world ask m s c ≡ Some b → a ≡ b) →
          goes_on (advanced world ask n) (stepped world ask s c).state step ≡ Some a → goes_on (advanced world ask m) (stepped world ask s c).state step ≡ Some b → a ≡ b
      go (Again c') rest e f = rest (stepped world ask s c).state c' a b e f
      go (Over entry) rest e f = some_same a b (sym e ∙ f)

  led_one : (n m : ℕ) (o : Option Departure) (a b : Advanced) → led world ask n o ≡ Some a → led world ask m o ≡ Some b → a ≡ b
  led_one n m None a b e f = cc
  led_one n m (Some d) a b e f = advanced_one n m d.state d.courier a b e f

  pub came_one : (n m : ℕ) (s : State) (x : Message) (a b : Advanced) → came world ask n s x ≡ Some a → came world ask m s x ≡ Some b → a ≡ b
  came_one n m s (message.Ride c) a b e f = advanced_one n m s c a b e f
  came_one n m s (message.Put k h) a b e f = some_same a b (sym e ∙ f)
  came_one n m s (message.Back image) a b e f = some_same a b (sym e ∙ f)
  came_one n m s (message.Nudge p) a b e f = some_same a b (sym e ∙ f)
  came_one n m s (message.Poke p) a b e f = some_same a b (sym e ∙ f)

  both_mapped : (C : Cluster) (k : ℕ) (o p : Option Advanced) (r t : Turned) → ((a b : Advanced) → o ≡ Some a → p ≡ Some b → a ≡ b) → option_map (turned_at C k) o ≡ Some r → option_map (turned_at C k) p ≡ Some t → r ≡ t
  both_mapped C k o p r t one e f =
      let a = mapped_some (turned_at C k) o r e in
      let b = mapped_some (turned_at C k) p t f in
      a.2 ∙ ap (turned_at C k) (one a.0 b.0 a.1 b.1) ∙ sym b.2

  pub turned_one : (n m : ℕ) (C : Cluster) (x : Turn) (r t : Turned) → turned world ask n C x ≡ Some r → turned world ask m C x ≡ Some t → r ≡ t
  turned_one n m C (Go k) r t e f = both_mapped C k _ _ r t (led_one n m (going world (C.nodes k))) e f
  turned_one n m C (Push k to) r t e f = both_mapped C k _ _ r t (led_one n m (pushed (C.nodes k) (record { 0 = to }))) e f
  turned_one n m C (Take k from) r t e f = go (C.wires from k) e f
    where
      go : (wire : List Sent) → took world ask n C k from wire ≡ Some r → took world ask m C k from wire ≡ Some t → r ≡ t
      go [] e f = cc
      go (first ∷ rest) e f = both_mapped (with_wire C from k rest) k _ _ r t (came_one n m (one_taken (C.nodes k) from) first.message) e f
  turned_one n m C (Auto count) r t e f = cc

  pub does_one : (C : Cluster) (x : Turn) (r t : Turned) → Does world ask C x r → Does world ask C x t → r ≡ t
  does_one C x r t d e = turned_one d.questions e.questions C x r t d.is e.is

-- ---- runs
module _ (world : World) (ask : Ask) where
  pub ran_one : (C A B : Cluster) (turns : List Turn) (es fs : List (Option Entry)) → Ran world ask C turns A es → Ran world ask C turns B fs → (A ≡ B) × (es ≡ fs)
  ran_one C A B [] es fs a b = (a.0 ∙ sym b.0, a.1 ∙ sym b.1)
  ran_one C A B (x ∷ xs) es fs a b =
      let same = does_one world ask C x a.0 b.0 a.1 b.1 in
      let rest = ran_one (b.0).cluster A B xs a.2 b.2 (subst (λ (r : Turned). Ran world ask r.cluster xs A a.2) same a.4) b.4 in
      (rest.0, a.3 ∙ (ap (λ (r : Turned). r.entry ∷ a.2) same ∙ (ap (λ (l : List (Option Entry)). (b.0).entry ∷ l) rest.1 ∙ sym b.3)))

  pub ran_join : (C D E : Cluster) (xs ys : List Turn) (es more : List (Option Entry)) → Ran world ask C xs D es → Ran world ask D ys E more → Ran world ask C (xs ++ ys) E (es ++ more)
  ran_join C D E [] ys es more a b = subst (λ (l : List (Option Entry)). Ran world ask C ys E (l ++ more)) (sym a.1) (subst (λ (X : Cluster). Ran world ask X ys E more) a.0 b)
  ran_join C D E (x ∷ xs) ys es more a b = (a.0, a.1, a.2 ++ more, ap (λ (l : List (Option Entry)). l ++ more) a.3, ran_join (a.0).cluster D E xs ys a.2 more a.4 b)
