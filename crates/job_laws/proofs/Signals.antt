-- what may happen to the shell and to a stage
use Rattle.std.proofs.Common.{◌≡◌, ◌==◌, ◌&&◌, ◌||◌, ◌⊎◌, inl, inr, ℕ, Bool, true, false, cond, not, List, refl, sym, ap, ◌∙◌, subst}
use Rattle.std.proofs.lemmas.Bool.{and_parts, eqb-true}
use Rattle.unix_names.specs.declared.Signal.{Signal}
use Rattle.unix_names.specs.declared.Signal.TheVariants.{Stop, Cont, Term, Kill}
use Rattle.unix_names.specs.Signals.{number_of, default_of}
use Rattle.unix_names.specs.Sets.{has, minus, added, removed}
use Rattle.unix_names.proofs.SetLaws.{has-minus, has-added, has-removed, has-none}
use Rattle.unix_names.proofs.SignalLaws.{number_of-distinct}
use Rattle.unix_calls.specs.declared.Event.TheVariants.{Caught, Discarded, StoppedBy, EndedBy}
use Rattle.signal_state.specs.Signals.{Signals}
use Rattle.signal_state.specs.Sig.{fresh, deliverable, is_dropped_by_default, generated, stopped_by, resumed, kept_pending, is_dropped}
use Rattle.process_table.specs.declared.Row.{Row}
use Rattle.kernel_rules.specs.Events.{can_call, is_deliverable, has_default_action, acts_by_default, is_spared, is_stop_signal, is_end_act, may_happen}
use Rattle.job_laws.proofs.Core.{halting, halted, IsLoose}

-- what can be taken is pending, or is the kill signal, pending too
pub taken_pends : (x : Signals) (s : Signal) → has (deliverable x) s ≡ true → has x.pending s ≡ true
unfolding deliverable
taken_pends x s e = go x.stopped refl e
  where
    kill : (b : Bool) → has x.pending Kill ≡ b → has (cond b (added 0 Kill) 0) s ≡ true → has x.pending s ≡ true
    kill false k h = let n = has-none s in cc
    kill true k h =
        let a : (has 0 s || (number_of s == number_of Kill)) ≡ true = sym (has-added 0 Kill s) ∙ h in
        let b : (number_of s == number_of Kill) ≡ true = ap (λ b. b || (number_of s == number_of Kill)) (sym (has-none s)) ∙ a in
        subst (λ t. has x.pending t ≡ true) (sym (number_of-distinct s Kill (eqb-true _ _ b))) k

    go : (b : Bool) → x.stopped ≡ b → has (cond b (cond (has x.pending Kill) (added 0 Kill) 0) (minus x.pending x.mask)) s ≡ true → has x.pending s ≡ true
    go true e h = kill (has x.pending Kill) refl h
    go false e h = (and_parts (has x.pending s) (not (has x.mask s)) (sym (has-minus x.pending x.mask s) ∙ h)).0

-- ---- events of a process with no action but the default ones, to which nothing comes but STOP and TERM
abbrev pub IsOfTwo : Signals → Type 0
IsOfTwo x = (s : Signal) → has x.pending s ≡ true → (s ≡ Stop) ⊎ (s ≡ Term)

module _ (rows : List Row) (r : Row) (plain : r.sig.caught ≡ 0) (two : IsOfTwo r.sig) where
  pending : (s : Signal) → is_deliverable r s ≡ true → has r.sig.pending s ≡ true
  pending s e = taken_pends r.sig s e

  pub no_catch : (s : Signal) → may_happen rows r (Caught s) ≡ true → ⊥
  no_catch s e =
      let c : has r.sig.caught s ≡ true = (and_parts (is_deliverable r s) (has r.sig.caught s) e).1 in
      let n : has r.sig.caught s ≡ false = ap (λ m. has m s) plain ∙ has-none s in
      cc

  pub no_discard : (s : Signal) → may_happen rows r (Discarded s) ≡ true → ⊥
  no_discard s e =
      let a = and_parts (acts_by_default r s) (is_dropped_by_default s || is_spared rows r s) e in
      let d = (and_parts (is_deliverable r s) (has_default_action r s) a.0).0 in
      go (two s (pending s d)) a.1
    where
      go : (s ≡ Stop) ⊎ (s ≡ Term) → (is_dropped_by_default s || is_spared rows r s) ≡ true → ⊥
      go (inl is) h = let b : (is_dropped_by_default Stop || is_spared rows r Stop) ≡ true = subst (λ t. (is_dropped_by_default t || is_spared rows r t) ≡ true) is h in cc
      go (inr is) h = let b : (is_dropped_by_default Term || is_spared rows r Term) ≡ true = subst (λ t. (is_dropped_by_default t || is_spared rows r t) ≡ true) is h in cc

  -- it is stopped by STOP alone
  pub stop_is : (s : Signal) → may_happen rows r (StoppedBy s) ≡ true → (s ≡ Stop) × (has r.sig.pending Stop ≡ true)
  stop_is s e =
      let a = and_parts (acts_by_default r s) (is_stop_signal s && _) e in
      let d = (and_parts (is_deliverable r s) (has_default_action r s) a.0).0 in
      go (two s (pending s d)) (pending s d) (and_parts (is_stop_signal s) _ a.1).0
    where
      go : (s ≡ Stop) ⊎ (s ≡ Term) → has r.sig.pending s ≡ true → is_stop_signal s ≡ true → (s ≡ Stop) × (has r.sig.pending Stop ≡ true)
      go (inl is) h p = (is, subst (λ t. has r.sig.pending t ≡ true) is h)
      go (inr is) h p = let b : is_stop_signal Term ≡ true = subst (λ t. is_stop_signal t ≡ true) is p in cc

  -- it is ended by TERM alone
  pub end_is : (s : Signal) → may_happen rows r (EndedBy s) ≡ true → (s ≡ Term) × (has r.sig.pending Term ≡ true)
  end_is s e =
      let a = and_parts (acts_by_default r s) (is_end_act (default_of s)) e in
      let d = (and_parts (is_deliverable r s) (has_default_action r s) a.0).0 in
      go (two s (pending s d)) (pending s d) a.1
    where
      go : (s ≡ Stop) ⊎ (s ≡ Term) → has r.sig.pending s ≡ true → is_end_act (default_of s) ≡ true → (s ≡ Term) × (has r.sig.pending Term ≡ true)
      go (inr is) h p = (is, subst (λ t. has r.sig.pending t ≡ true) is h)
      go (inl is) h p = let b : is_end_act (default_of Stop) ≡ true = subst (λ t. is_end_act (default_of t) ≡ true) is p in cc

-- ---- the signals of a stage that was not let go
pub empty_two : (x : Signals) → x.pending ≡ 0 → IsOfTwo x
empty_two x e s h = let n = ap (λ m. has m s) e ∙ has-none s in cc

stop_alone : added 0 Stop ≡ 524288
unfolding added
stop_alone = refl

pub halting_two : (s : Signal) → has halting.pending s ≡ true → s ≡ Stop
halting_two s e = number_of-distinct s Stop (eqb-true _ _ (ap (λ b. b || (number_of s == number_of Stop)) (sym (has-none s)) ∙ sym (has-added 0 Stop s) ∙ ap (λ n. has n s) stop_alone ∙ e))

pub first_halts : generated fresh Stop ≡ halting
unfolding generated added removed
first_halts = refl

pub then_halted : stopped_by halting Stop ≡ halted
unfolding removed
then_halted = refl

pub halting_waits : (r : Row) → r.sig ≡ halting → can_call r ≡ false
unfolding deliverable minus
halting_waits r e = rw e refl

pub halted_waits : (r : Row) → r.sig ≡ halted → can_call r ≡ false
halted_waits r e = rw e refl

-- ---- the signals of a stage that was let go
pub loose_two : (b : Bool) (x : Signals) → IsLoose b x → IsOfTwo x
loose_two b x k s e = elim (k.only s e) [ inl i ↦ inl i | inr i ↦ inr i.0 ]

pub loose_halted : IsLoose false halted
loose_halted = record { mask = refl; ignored = refl; caught = refl; only = λ s e. let n = has-none s in absurd (false_true s e n) }
  where
    false_true : (s : Signal) → has 0 s ≡ true → has 0 s ≡ false → ⊥
    false_true s e n = cc

fewer : (b : Bool) (x y : Signals) → IsLoose b x → y.mask ≡ x.mask → y.ignored ≡ x.ignored → y.caught ≡ x.caught → ((s : Signal) → has y.pending s ≡ true → has x.pending s ≡ true) → IsLoose b y
fewer b x y k m i c h = record { mask = m ∙ k.mask; ignored = i ∙ k.ignored; caught = c ∙ k.caught; only = λ s e. k.only s (h s e) }

removed_had : (n : ℕ) (t s : Signal) → has (removed n t) s ≡ true → has n s ≡ true
removed_had n t s e = (and_parts (has n s) (not (number_of s == number_of t)) (sym (has-removed n t s) ∙ e)).0

pub loose_stopped : (b : Bool) (x : Signals) (t : Signal) → IsLoose b x → IsLoose b (stopped_by x t)
loose_stopped b x t k = fewer b x (stopped_by x t) k refl refl refl (λ s e. removed_had x.pending t s e)

pub loose_resumed : (b : Bool) (x : Signals) → IsLoose b x → IsLoose b (resumed x)
loose_resumed b x k = fewer b x (resumed x) k refl refl refl (λ s e. e)

pub loose_more : (x : Signals) (b : Bool) → IsLoose b x → IsLoose true x
loose_more x b k = record { mask = k.mask; ignored = k.ignored; caught = k.caught; only = λ s e. elim (k.only s e) [ inl i ↦ inl i | inr i ↦ inr (i.0, refl) ] }

-- a STOP, a CONT or a TERM more
pub loose_cont : (b : Bool) (x : Signals) → IsLoose b x → IsLoose b (generated x Cont)
unfolding generated
loose_cont b x k = fewer b x (generated x Cont) k refl refl refl (λ s e. had s (ap (λ d. has (cond d (kept_pending x.pending Cont) (added (kept_pending x.pending Cont) Cont)) s) (sym drops) ∙ e))
  where
    drops : is_dropped x Cont ≡ true
    drops = rw (k.ignored, k.caught) refl

    had : (s : Signal) → has (kept_pending x.pending Cont) s ≡ true → has x.pending s ≡ true
    had s e = removed_had _ _ s (removed_had _ _ s (removed_had _ _ s (removed_had _ _ s e)))

added_is : (n : ℕ) (t s : Signal) → has (added n t) s ≡ true → (has n s ≡ true) ⊎ (s ≡ t)
added_is n t s e = go (has n s) refl (sym (has-added n t s) ∙ e)
  where
    go : (b : Bool) → has n s ≡ b → (b || (number_of s == number_of t)) ≡ true → (has n s ≡ true) ⊎ (s ≡ t)
    go true h e = inl h
    go false h e = inr (number_of-distinct s t (eqb-true _ _ e))

pub loose_stop : (b : Bool) (x : Signals) → IsLoose b x → IsLoose b (generated x Stop)
unfolding generated
loose_stop b x k = record { mask = k.mask; ignored = k.ignored; caught = k.caught; only = λ s e. go (is_dropped x Stop) s e }
  where
    had : (s : Signal) → has (removed x.pending Cont) s ≡ true → (s ≡ Stop) ⊎ ((s ≡ Term) × (b ≡ true))
    had s e = k.only s (removed_had x.pending Cont s e)

    go : (d : Bool) (s : Signal) → has (cond d (removed x.pending Cont) (added (removed x.pending Cont) Stop)) s ≡ true → (s ≡ Stop) ⊎ ((s ≡ Term) × (b ≡ true))
    go true s e = had s e
    go false s e = elim (added_is (removed x.pending Cont) Stop s e) [ inl h ↦ had s h | inr i ↦ inl i ]

pub loose_term : (b : Bool) (x : Signals) → IsLoose b x → IsLoose true (generated x Term)
unfolding generated
loose_term b x k = record { mask = k.mask; ignored = k.ignored; caught = k.caught; only = λ s e. go (is_dropped x Term) s e }
  where
    had : (s : Signal) → has x.pending s ≡ true → (s ≡ Stop) ⊎ ((s ≡ Term) × (true ≡ true))
    had s e = elim (k.only s e) [ inl i ↦ inl i | inr i ↦ inr (i.0, refl) ]

    go : (d : Bool) (s : Signal) → has (cond d x.pending (added x.pending Term)) s ≡ true → (s ≡ Stop) ⊎ ((s ≡ Term) × (true ≡ true))
    go true s e = had s e
    go false s e = elim (added_is x.pending Term s e) [ inl h ↦ had s h | inr i ↦ inr (i, refl) ]
