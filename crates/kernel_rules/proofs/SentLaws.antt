-- where nothing is sent the table stays
use Rattle.std.proofs.Common.{◌≡◌, Bool, true, false, cond, List, [], ◌∷◌, refl, ap}
use Rattle.unix_names.specs.declared.Signal.{Signal}
use Rattle.unix_names.specs.States.{is_living}
use Rattle.signal_state.specs.Signals.{Signals}
use Rattle.signal_state.specs.Sig.{generated_all}
use Rattle.process_table.specs.declared.Row.{Row}
use Rattle.process_table.specs.Changes.{receives, received, sent_nothing}

sig_same : (x : Signals) (living : Bool) (list : List Signal) → list ≡ [] → generated_all x (cond living list []) ≡ x
sig_same x true list e = rw e
sig_same x false list e = refl

pub receives-none : (sent : Row → List Signal) (c : Row) → sent c ≡ [] → receives sent c ≡ c
receives-none sent c e = ap (λ sig. record c { sig = sig }) (sig_same c.sig (is_living c.life) (sent c) e)

pub received-none : (sent : Row → List Signal) → ((c : Row) → sent c ≡ []) → (rows : List Row) → received sent rows ≡ rows
received-none sent none [] = refl
received-none sent none (c ∷ rows) = rw (receives-none sent c (none c), received-none sent none rows)

pub received-nothing : (rows : List Row) → received sent_nothing rows ≡ rows
received-nothing rows = received-none sent_nothing (λ c. refl) rows
