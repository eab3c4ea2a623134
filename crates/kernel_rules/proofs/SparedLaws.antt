-- whether the group is orphaned matters to a stop signal from a terminal alone
use Rattle.std.proofs.Common.{◌≡◌, ◌&&◌, ◌||◌, not, Bool, true, false, refl, ap}
use Rattle.unix_names.specs.declared.Signal.{Signal}
use Rattle.signal_state.specs.Signals.{Signals}
use Rattle.signal_state.specs.Sig.{is_dropped_by_default}
use Rattle.kernel_rules.specs.Events.{acts_by_default_in, is_stop_signal, is_plain_stop, is_spared_in, is_discarded_in, stops_in}

spared_twice : (stop plain orphaned : Bool) → (stop && (not plain && (stop && (not plain && orphaned)))) ≡ (stop && (not plain && orphaned))
spared_twice false plain orphaned = refl
spared_twice true true orphaned = refl
spared_twice true false orphaned = refl

stopped_twice : (stop plain orphaned : Bool) → (stop && (plain || not (stop && (not plain && orphaned)))) ≡ (stop && (plain || not orphaned))
stopped_twice false plain orphaned = refl
stopped_twice true true orphaned = refl
stopped_twice true false orphaned = refl

pub discarded_same : (x : Signals) (orphaned : Bool) (s : Signal) → is_discarded_in x (is_spared_in orphaned s) s ≡ is_discarded_in x orphaned s
discarded_same x orphaned s = ap (λ b. acts_by_default_in x s && (is_dropped_by_default s || b)) (spared_twice (is_stop_signal s) (is_plain_stop s) orphaned)

pub stops_same : (x : Signals) (orphaned : Bool) (s : Signal) → stops_in x (is_spared_in orphaned s) s ≡ stops_in x orphaned s
stops_same x orphaned s = ap (λ b. acts_by_default_in x s && b) (stopped_twice (is_stop_signal s) (is_plain_stop s) orphaned)
