-- what is so of signals by the definitions alone
use Rattle.std.specs.Prelude.{ℕ, true, false, ◌≡◌, List, ◌++◌}
use Rattle.unix_names.specs.declared.Signal.{Signal}
use Rattle.unix_names.specs.declared.Signal.TheVariants.{Kill, Stop, Tstp, Ttin, Ttou, Cont}
use Rattle.unix_names.specs.Sets.{has}
use Rattle.signal_state.specs.Signals.{Signals, IsKept}
use Rattle.signal_state.specs.Sig.{generated, generated_all, with_mask}

-- SIGKILL and SIGSTOP are pending once they are generated, whatever the process does with signals
abbrev pub KillAlwaysPends : Type 0
KillAlwaysPends = (x : Signals) → IsKept x → (has (generated x Kill).pending Kill ≡ true) × (has (generated x Stop).pending Stop ≡ true)

-- after SIGCONT no stop signal is pending, and after SIGSTOP no SIGCONT
abbrev pub ContIsOneOrTheOther : Type 0
ContIsOneOrTheOther = (x : Signals) →
    (has (generated x Cont).pending Stop ≡ false) × (has (generated x Cont).pending Tstp ≡ false) × (has (generated x Cont).pending Ttin ≡ false) × (has (generated x Cont).pending Ttou ≡ false) × (has (generated x Stop).pending Cont ≡ false)

-- a stopped process is to go on after SIGCONT, also where it ignores it
abbrev pub ContMakesDue : Type 0
ContMakesDue = (x : Signals) → x.stopped ≡ true → (generated x Cont).due ≡ true

-- what is blocked is pending all the same
abbrev pub MaskIsNotRead : Type 0
MaskIsNotRead = (x : Signals) (m : ℕ) (s : Signal) → generated (with_mask x m) s ≡ with_mask (generated x s) m

-- a list of signals after another is the two lists in one
abbrev pub OneAfterAnother : Type 0
OneAfterAnother = (x : Signals) (first later : List Signal) → generated_all x (first ++ later) ≡ generated_all (generated_all x first) later

-- generating signals keeps what is always so
abbrev pub GeneratingKeeps : Type 0
GeneratingKeeps = (x : Signals) (signals : List Signal) → IsKept x → IsKept (generated_all x signals)
