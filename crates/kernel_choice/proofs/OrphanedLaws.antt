-- whether the group is orphaned matters only where a stop signal from a terminal is deliverable
use Rattle.std.proofs.Common.{◌≡◌, ◌&&◌, ◌||◌, Bool, true, false, cond, Option, None, Some, refl, ap}
use Rattle.std.specs.Option.{option_map}
use Rattle.std.proofs.lemmas.Bool.{or_parts}
use Rattle.unix_names.specs.declared.Signal.{Signal}
use Rattle.unix_names.specs.declared.Signal.TheVariants.{Hup, Int, Quit, Abrt, Kill, Usr1, Usr2, Pipe, Alrm, Term, Chld, Cont, Stop, Tstp, Ttin, Ttou, Urg}
use Rattle.unix_names.specs.Signals.{all_signals}
use Rattle.unix_names.proofs.SignalLaws.{find-passes}
use Rattle.unix_calls.specs.declared.Event.{Event}
use Rattle.unix_calls.specs.declared.Event.TheVariants.{EndedBy, Continued}
use Rattle.signal_state.specs.Signals.{Signals}
use Rattle.kernel_rules.specs.Events.{is_deliverable_in, has_terminal_stop_in}
use Rattle.kernel_choice.specs.Choice.{event_in, least_in, first_event_of}

record HasNoTerminalStop (x : Signals) : Type 0 where
  tstp : is_deliverable_in x Tstp ≡ false
  ttin : is_deliverable_in x Ttin ≡ false
  ttou : is_deliverable_in x Ttou ≡ false

none_there : (a b c : Bool) → (a || (b || c)) ≡ false → (a ≡ false) × (b ≡ false) × (c ≡ false)
none_there true b c e = absurd (cc)
none_there false true c e = absurd (cc)
none_there false false c e = (refl, refl, e)

-- a signal that is deliverable does the same in both groups
event_same : (x : Signals) (s : Signal) → HasNoTerminalStop x → is_deliverable_in x s ≡ true → event_in x false s ≡ event_in x true s
event_same x Hup h d = refl
event_same x Int h d = refl
event_same x Quit h d = refl
event_same x Abrt h d = refl
event_same x Kill h d = refl
event_same x Usr1 h d = refl
event_same x Usr2 h d = refl
event_same x Pipe h d = refl
event_same x Alrm h d = refl
event_same x Term h d = refl
event_same x Chld h d = refl
event_same x Cont h d = refl
event_same x Stop h d = refl
event_same x Tstp h d = let t = h.tstp in cc
event_same x Ttin h d = let t = h.ttin in cc
event_same x Ttou h d = let t = h.ttou in cc
event_same x Urg h d = refl

mapped_same : (f g : Signal → Event) (o : Option Signal) → ((s : Signal) → o ≡ Some s → f s ≡ g s) → option_map f o ≡ option_map g o
mapped_same f g None same = refl
mapped_same f g (Some s) same = ap (λ (e : Event). Some e) (same s refl)

both_same : (x : Signals) → HasNoTerminalStop x → first_event_of x false ≡ first_event_of x true
both_same x h =
    ap (λ (later : Option Event). cond (is_deliverable_in x Kill) (Some (EndedBy Kill)) (cond x.due (Some Continued) later))
    (mapped_same (event_in x false) (event_in x true) (least_in x) (λ s found. event_same x s h (find-passes (is_deliverable_in x) all_signals s found)))

same_by : (x : Signals) (orphaned t : Bool) → has_terminal_stop_in x ≡ t → first_event_of x (t && orphaned) ≡ first_event_of x orphaned
same_by x orphaned true e = refl
same_by x false false e = refl
same_by x true false e =
    let parts = none_there (is_deliverable_in x Tstp) (is_deliverable_in x Ttin) (is_deliverable_in x Ttou) e in
    both_same x (record { tstp = parts.0; ttin = parts.1; ttou = parts.2 })

pub first_same : (x : Signals) (orphaned : Bool) → first_event_of x (has_terminal_stop_in x && orphaned) ≡ first_event_of x orphaned
first_same x orphaned = same_by x orphaned (has_terminal_stop_in x) refl
