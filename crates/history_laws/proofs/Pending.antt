-- pending sets are sets of signals, whatever is sent and done
use Rattle.std.proofs.Common.{ℕ, Bool, true, false, cond, List, [], ◌∷◌, ◌^◌, ◌-◌, Option, None, Some}
use Rattle.unix_names.specs.declared.Act.{Act}
use Rattle.unix_names.specs.declared.Act.TheVariants.{Default, Ignore, Catch}
use Rattle.unix_names.specs.declared.Signal.{Signal}
use Rattle.unix_names.specs.declared.Signal.TheVariants.{Stop, Tstp, Ttin, Ttou, Cont}
use Rattle.unix_names.specs.Signals.{number_of, signal_of}
use Rattle.unix_names.specs.Sets.{IsSignals, added, removed}
use Rattle.unix_names.proofs.SetLaws.{IsSignals-added, IsSignals-and}
use Rattle.unix_calls.specs.declared.Call.TheVariants.{Exec, Action, Mask}
use Rattle.unix_calls.specs.declared.Reply.TheVariants.{Fine}
use Rattle.unix_calls.specs.declared.Event.TheVariants.{Caught, Discarded, StoppedBy, Continued}
use Rattle.unix_calls.specs.declared.Entry.{Entry}
use Rattle.unix_calls.specs.declared.Entry.TheVariants.{Called, Happened}
use Rattle.signal_state.specs.Signals.{Signals}
use Rattle.signal_state.specs.Sig.{kept_pending, is_dropped, is_dropped_by_default, generated, generated_all, with_action}
use Rattle.kernel_laws.specs.Effects.{acted, own_signals}

pub signals-removed : (p : ℕ) (s : Signal) → IsSignals p → IsSignals (removed p s)
unfolding removed
signals-removed p s h = IsSignals-and p (2 ^ 32 - 1 - 2 ^ number_of s) h

pub signals-added : (p : ℕ) (s : Signal) → IsSignals p → IsSignals (added p s)
unfolding added
signals-added p s h = IsSignals-added p s h

kept-pending : (p : ℕ) (s : Signal) → IsSignals p → IsSignals (kept_pending p s)
kept-pending p Cont h =
    signals-removed (removed (removed (removed p Stop) Tstp) Ttin) Ttou
    (signals-removed (removed (removed p Stop) Tstp) Ttin
    (signals-removed (removed p Stop) Tstp
    (signals-removed p Stop h)))
kept-pending p Stop h = signals-removed p Cont h
kept-pending p Tstp h = signals-removed p Cont h
kept-pending p Ttin h = signals-removed p Cont h
kept-pending p Ttou h = signals-removed p Cont h
kept-pending p _ h = h

either : (b : Bool) (m n : ℕ) → IsSignals m → IsSignals n → IsSignals (cond b m n)
either true m n hm hn = hm
either false m n hm hn = hn

-- one signal more
pub pending-generated : (x : Signals) (s : Signal) → IsSignals x.pending → IsSignals (generated x s).pending
unfolding generated
pending-generated x s h =
    let kept = kept-pending x.pending s h in
    either (is_dropped x s) (kept_pending x.pending s) (added (kept_pending x.pending s) s) kept (signals-added (kept_pending x.pending s) s kept)

-- several signals more
pub pending-generated_all : (x : Signals) (ss : List Signal) → IsSignals x.pending → IsSignals (generated_all x ss).pending
pending-generated_all x [] h = h
pending-generated_all x (s ∷ ss) h = pending-generated_all (generated x s) ss (pending-generated x s h)

pending-action : (x : Signals) (s : Signal) (act : Act) → IsSignals x.pending → IsSignals (with_action x s act).pending
pending-action x s Default h = either (is_dropped_by_default s) (removed x.pending s) x.pending (signals-removed x.pending s h) h
pending-action x s Ignore h = signals-removed x.pending s h
pending-action x s Catch h = h

pending-acted : (o : Option Signal) (act : Act) (x : Signals) → IsSignals x.pending → IsSignals (acted o act x).pending
pending-acted None act x h = h
pending-acted (Some s) act x h = pending-action x s act h

-- what a process does with its own signals
pub pending-own : (entry : Entry) (x : Signals) → IsSignals x.pending → IsSignals (own_signals entry x).pending
pending-own (Called p (Action s act) Fine) x h = pending-acted (signal_of s) act x h
pending-own (Happened p (Caught s)) x h = signals-removed x.pending s h
pending-own (Happened p (Discarded s)) x h = signals-removed x.pending s h
pending-own (Happened p (StoppedBy s)) x h = signals-removed x.pending s h
pending-own (Called p Exec reply) x h = h
pending-own (Called p (Mask set) reply) x h = h
pending-own (Happened p Continued) x h = h
pending-own _ x h = h
