-- a call of this part is one of three
use Rattle.std.proofs.Common.{◌≡◌, ℕ, ℤ, Bool, refl}
use Rattle.unix_calls.specs.declared.Call.{Call}
use Rattle.unix_calls.specs.declared.Call.TheVariants.{Exec, Exit, Waitpid}
use Rattle.ops_exit_wait.specs.Decide.{IsExitWaitCall}

pub one_of_three : (call : Call) → IsExitWaitCall call → (call ≡ Exec → ⊥) → ((n : ℕ) → call ≡ Exit n → ⊥) → ((sel : ℤ) (stopped continued : Bool) → call ≡ Waitpid sel stopped continued → ⊥) → ⊥
one_of_three Exec part exec exit wait = exec refl
one_of_three (Exit n) part exec exit wait = exit n refl
one_of_three (Waitpid sel stopped continued) part exec exit wait = wait sel stopped continued refl
one_of_three _ part exec exit wait = absurd part
