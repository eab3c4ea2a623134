use Rattle.std.proofs.Common.{◌≡◌, ℕ, Option, Some, None, refl}
use Rattle.std.specs.Prelude.{find, IsNone, IfSome, ◌↔◌}
use Rattle.unix_names.specs.Sets.{has, IsSignals, IsLeast}
use Rattle.unix_names.specs.Signals.{all_signals}
use Rattle.unix_names.specs.declared.signals.Signal.{Signal}
use Rattle.unix_names.proofs.SetLaws.{found-least, found-none, found-some}
use Rattle.unix_names.proofs.sets.SigSet.least.Goals as goal

none_is : (n : ℕ) (r : Option Signal) → IsSignals n → r ≡ find (has n) all_signals → IsNone r ↔ (n ≡ 0)
none_is n None signals e = (λ _. found-none n signals (cc), λ _. refl)
none_is n (Some s) signals e = (λ none. absurd (cc), λ empty. absurd (found-some n s (cc) empty))

some_is : (n : ℕ) (r : Option Signal) → r ≡ find (has n) all_signals → IfSome r (IsLeast n)
some_is n None e = tt
some_is n (Some s) e = found-least n s (cc)

pub returns-else-self-eq0-clause-none : goal.returns-else-self-eq0-clause-none
returns-else-self-eq0-clause-none c = none_is c.args.self.now c.first.result (rw (← c.self.view_is) c.self.invariant) c.first.ensures

pub returns-else-self-eq0-clause-some : goal.returns-else-self-eq0-clause-some
returns-else-self-eq0-clause-some c = some_is c.args.self.now c.first.result c.first.ensures
