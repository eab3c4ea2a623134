-- a process to which something else happens than a stop, an end or a continuing is not stopped
use Rattle.std.proofs.Common.{◌≡◌, ◌==◌, ◌&&◌, ◌||◌, inl, inr, Bool, true, false, cond, not, List, refl, sym, ap, ◌∙◌}
use Rattle.std.proofs.lemmas.Bool.{and_parts, or_cases, eqb-true}
use Rattle.unix_names.specs.declared.Life.{Life}
use Rattle.unix_names.specs.declared.Signal.{Signal}
use Rattle.unix_names.specs.declared.Signal.TheVariants.{Kill}
use Rattle.unix_names.specs.Signals.{number_of}
use Rattle.unix_names.specs.Sets.{has, added, minus}
use Rattle.unix_names.specs.States.{is_living}
use Rattle.unix_names.proofs.SetLaws.{has-added, has-none}
use Rattle.unix_names.proofs.SignalLaws.{number_of-distinct}
use Rattle.unix_calls.specs.declared.Call.TheVariants.{Exit}
use Rattle.unix_calls.specs.declared.Event.TheVariants.{Caught, Discarded, StoppedBy, EndedBy, Continued, Moved}
use Rattle.unix_calls.specs.declared.Entry.{Entry}
use Rattle.unix_calls.specs.declared.Entry.TheVariants.{Called, Happened}
use Rattle.signal_state.specs.Signals.{Signals, IsKept}
use Rattle.signal_state.specs.Sig.{deliverable, is_dropped_by_default}
use Rattle.process_table.specs.declared.Row.{Row}
use Rattle.process_table.specs.Rows.{is_stopped}
use Rattle.kernel_rules.specs.Events.{can_call, is_deliverable, has_default_action, acts_by_default, is_spared, is_discarded}
use Rattle.kernel_model.specs.declared.verdict.Verdict.TheVariants.{Legal}
use Rattle.kernel_model.specs.Step.{row_verdict}
use Rattle.kernel_laws.specs.Effects.{is_end}
use Rattle.kernel_laws.proofs.Legal.{call_allowed, event_allowed, not_true}
use Rattle.history_laws.proofs.Lives.{life_after}

alone : (killed : Bool) (s : Signal) → has (cond killed (added 0 Kill) 0) s ≡ true → s ≡ Kill
alone true s h = elim (or_cases (has 0 s) (number_of s == number_of Kill) (sym (has-added 0 Kill s) ∙ h)) [ inl none ↦ absurd (cc (none, has-none s)) | inr same ↦ number_of-distinct s Kill (eqb-true _ _ same) ]
alone false s h = absurd (cc (h, has-none s))

-- a stopped process can be killed alone
only_kill : (x : Signals) (s : Signal) → x.stopped ≡ true → has (deliverable x) s ≡ true → s ≡ Kill
unfolding deliverable
only_kill x s stopped h = alone (has x.pending Kill) s (sym (ap (λ b. has (cond b (cond (has x.pending Kill) (added 0 Kill) 0) (minus x.pending x.mask)) s) stopped) ∙ h)

not_stopped : (b : Bool) → (b ≡ true → ⊥) → b ≡ false
not_stopped true h = absurd (h refl)
not_stopped false h = refl

can_awake : (r : Row) → can_call r ≡ true → r.sig.stopped ≡ false
can_awake r h = not_true r.sig.stopped ((and_parts (not r.sig.stopped) (deliverable r.sig == 0) h).0)

caught_awake : (r : Row) (s : Signal) → IsKept r.sig → (is_deliverable r s && has r.sig.caught s) ≡ true → r.sig.stopped ≡ false
caught_awake r s kept h = not_stopped r.sig.stopped (λ e.
    let parts = and_parts (is_deliverable r s) (has r.sig.caught s) h in
    let is : s ≡ Kill = only_kill r.sig s e parts.0 in
    let caught : has r.sig.caught Kill ≡ true = ap (has r.sig.caught) (sym is) ∙ parts.1 in
    cc (caught, kept.caught_allowed.0))

kill_discarded : (rows : List Row) (r : Row) → (is_dropped_by_default Kill || is_spared rows r Kill) ≡ false
kill_discarded rows r = refl

discarded_awake : (rows : List Row) (r : Row) (s : Signal) → is_discarded rows r s ≡ true → r.sig.stopped ≡ false
discarded_awake rows r s h = not_stopped r.sig.stopped (λ e.
    let parts = and_parts (acts_by_default r s) (is_dropped_by_default s || is_spared rows r s) h in
    let is : s ≡ Kill = only_kill r.sig s e ((and_parts (is_deliverable r s) (has_default_action r s) parts.0).0) in
    let dropped : (is_dropped_by_default Kill || is_spared rows r Kill) ≡ true = ap (λ t. is_dropped_by_default t || is_spared rows r t) (sym is) ∙ parts.1 in
    cc (dropped, kill_discarded rows r))

-- whether a process is stopped after its entry, if it does not end
abbrev pub is_stopped_by : Entry → Bool
is_stopped_by (Happened p (StoppedBy s)) = true
is_stopped_by _ = false

pub stopped_after : (rows : List Row) (r : Row) (entry : Entry) → IsKept r.sig → is_living r.life ≡ true → is_stopped r.life ≡ r.sig.stopped → row_verdict rows r entry ≡ Legal → is_end entry ≡ false → is_stopped (life_after entry r.life) ≡ is_stopped_by entry
stopped_after rows r (Called p (Exit n) reply) kept lives alike legal e = absurd (cc e)
stopped_after rows r (Called p call reply) kept lives alike legal e = alike ∙ can_awake r ((call_allowed rows r call reply legal).0)
stopped_after rows r (Happened p (Caught s)) kept lives alike legal e = alike ∙ caught_awake r s kept (event_allowed rows r (Caught s) legal)
stopped_after rows r (Happened p (Discarded s)) kept lives alike legal e = alike ∙ discarded_awake rows r s (event_allowed rows r (Discarded s) legal)
stopped_after rows r (Happened p (StoppedBy s)) kept lives alike legal e = refl
stopped_after rows r (Happened p (EndedBy s)) kept lives alike legal e = absurd (cc e)
stopped_after rows r (Happened p Continued) kept lives alike legal e = refl
stopped_after rows r (Happened p Moved) kept lives alike legal e = alike ∙ can_awake r (event_allowed rows r Moved legal)

-- a process that does not end lives on
pub living_after : (entry : Entry) (life : Life) → is_living life ≡ true → is_end entry ≡ false → is_living (life_after entry life) ≡ true
living_after (Called p (Exit n) reply) life lives e = absurd (cc e)
living_after (Happened p (EndedBy s)) life lives e = absurd (cc e)
living_after (Happened p (StoppedBy s)) life lives e = refl
living_after (Happened p Continued) life lives e = refl
living_after _ life lives e = lives
