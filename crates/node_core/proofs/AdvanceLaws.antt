-- from one question to the next
use Rattle.std.proofs.Common.{◌≡◌, ℕ, zero, suc, sym, subst, Some, refl, ap, ◌∙◌, Option, List, Result, Ok, Err, IfOk, OnOk}
use Rattle.unix_names.specs.declared.NoMemory.{NoMemory}
use Rattle.unix_names.specs.declared.Name.{Name}
use Rattle.unix_calls.specs.declared.Entry.{Entry}
use Rattle.unix_calls.specs.declared.World.{World}
use Rattle.record_bag.specs.declared.Bag.{Bag}
use Rattle.record_bag.specs.declared.Site.{Site}
use Rattle.record_bag.specs.declared.Outcome.{Outcome}
use Rattle.record_bag.specs.declared.Outcome.TheVariants.{Need}
use Rattle.record_bag.specs.Decisions.{IsLawful, answered}
use Rattle.courier_core.specs.declared.Courier.{Courier}
use Rattle.node_state.specs.declared.State.{State}
use Rattle.node_core.specs.declared.step.Step.{Step}
use Rattle.node_core.specs.declared.step.Step.TheVariants.{Again, Over}
use Rattle.node_core.specs.declared.step.Next.{Next}
use Rattle.node_core.specs.MethodAsking.{left_to_do}
use Rattle.node_core.specs.Advance.{Ask, asked, site_of, needed, stepped_by, stepped, is_stepped, goes_on, advanced, Advanced, is_advanced}
use Rattle.node_core.specs.Conditions.{Fit, AskFits, AsksFit, FitsOn, IsKept}
use Rattle.node_core.proofs.Universe.{IsUniverse}
use Rattle.node_core.proofs.Nearer.{Nearer, IsNearer, IsWithin, nearer}

pub again-fits : (fits : Fit) (world : World) (ask : Ask) (s s' : State) (c c' : Courier) → is_stepped s' (Again c') ≡ stepped world ask s c → ((n : ℕ) → AsksFit fits world ask n s c) → (n : ℕ) → AsksFit fits world ask n s' c'
again-fits fits world ask s s' c c' e h n = subst (λ z. FitsOn (AsksFit fits world ask n) z.state z.step) (sym e) (h (suc n)).1

pub again-back : (world : World) (ask : Ask) (s s' : State) (c c' : Courier) → is_stepped s' (Again c') ≡ stepped world ask s c → (n : ℕ) (r : Advanced) → advanced world ask n s' c' ≡ Some r → advanced world ask (suc n) s c ≡ Some r
again-back world ask s s' c c' e n r h = subst (λ z. goes_on (advanced world ask n) z.state z.step ≡ Some r) e h

pub over-back : (world : World) (ask : Ask) (s s' : State) (c : Courier) (x : Option Entry) → is_stepped s' (Over x) ≡ stepped world ask s c → advanced world ask 1 s c ≡ Some (is_advanced s' x)
over-back world ask s s' c x e = subst (λ z. goes_on (advanced world ask 0) z.state z.step ≡ Some (is_advanced s' x)) e refl

-- what a courier that goes on keeps
pub again-nearer : (world : World) (ask : Ask) (U : List Name) → IsUniverse U → (s s' : State) (c c' : Courier) → is_stepped s' (Again c') ≡ stepped world ask s c → IsLawful c.bag (asked ask s c) → IsKept world c → IsWithin U c → IsNearer world U c c'
again-nearer world ask U whole s s' c c' e law kept within = subst (λ z. Nearer world U c z.step) (sym e) (nearer world ask U whole s c law kept within)

goes_more : (f g : State → Courier → Option Advanced) → ((s : State) (c : Courier) (r : Advanced) → f s c ≡ Some r → g s c ≡ Some r) → (s : State) (step : Step) (r : Advanced) → goes_on f s step ≡ Some r → goes_on g s step ≡ Some r
goes_more f g ih s (Again c) r h = ih s c r h
goes_more f g ih s (Over e) r h = h

-- more questions than suffice change nothing
pub one-more : (world : World) (ask : Ask) (n : ℕ) (s : State) (c : Courier) (r : Advanced) → advanced world ask n s c ≡ Some r → advanced world ask (suc n) s c ≡ Some r
one-more world ask zero s c r h = cc
one-more world ask (suc n) s c r h = goes_more (advanced world ask n) (advanced world ask (suc n)) (one-more world ask n) (stepped world ask s c).state (stepped world ask s c).step r h

-- ---- what the code asks
pub question-fits : (fits : Fit) (s : State) (c : Courier) (site : Site) → site ≡ site_of s → AskFits fits s c → fits c.image.pid c.job c.image.own c.bag site
question-fits fits s c site at h = subst (fits c.image.pid c.job c.image.own c.bag) (sym at) h

-- the step that follows from its answer
pub step-by : (world : World) (ask : Ask) (s : State) (c : Courier) (site : Site) (told o : Outcome) (bag : Bag) → site ≡ site_of s → told ≡ o → answered told bag ≡ ask c.image.pid c.job c.image.own c.bag site → stepped_by world s c o bag ≡ stepped world ask s c
step-by world ask s c site told o bag at is answer =
    ap (λ z. stepped_by world s c z bag) (sym is) ∙ ap (λ a. stepped_by world s c a.outcome a.bag) (answer ∙ ap (ask c.image.pid c.job c.image.own c.bag) at)

-- what is left to do after a need is the step
pub left-by : (world : World) (ask : Ask) (s s' : State) (c c' : Courier) (bag : Bag) (told next : Next) (read names : List Name) → stepped_by world s c (Need names) bag ≡ stepped world ask s c →
    left_to_do s' c' told ≡ needed s (record c { bag = bag }) read → told ≡ next → read ≡ names → left_to_do s' c' next ≡ stepped world ask s c
left-by world ask s s' c c' bag told next read names step left is same =
    ap (left_to_do s' c') (sym is) ∙ (left ∙ (ap (needed s (record c { bag = bag })) same ∙ step))

-- a turn that ends by this step, where all that comes after this question comes after the first
pub ends-so : (world : World) (ask : Ask) (s first new after : State) (c begun : Courier) (result : Result (Option Entry) NoMemory) (entry : Option Entry) → is_stepped after (Over entry) ≡ stepped world ask s c → OnOk result (new ≡ after) → IfOk result (λ e. e ≡ entry) →
    ((n : ℕ) (r : Advanced) → advanced world ask n s c ≡ Some r → (m : ℕ) × (advanced world ask m first begun ≡ Some r)) → IfOk result (λ e. (m : ℕ) × (advanced world ask m first begun ≡ Some (is_advanced new e)))
ends-so world ask s first new after c begun (Ok x) entry step is told back =
    back 1 (is_advanced new x) (over-back world ask s new c x (ap (λ z. is_stepped z (Over x)) is ∙ (ap (λ e. is_stepped after (Over e)) told ∙ step)))
ends-so world ask s first new after c begun (Err x) entry step is told back = tt
