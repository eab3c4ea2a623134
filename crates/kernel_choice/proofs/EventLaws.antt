-- the event that is chosen may happen, and none is chosen where there is none
use Rattle.std.proofs.Common.{◌≡◌, ◌∙◌, ◌↔◌, ◌&&◌, ◌||◌, ◌==◌, not, inl, inr, ℕ, Bool, true, false, cond, List, [], ◌∷◌, Option, None, Some, refl, sym, ap}
use Rattle.std.specs.Prelude.{find}
use Rattle.std.specs.Option.{option_map}
use Rattle.std.specs.Int.{bit_at}
use Rattle.std.proofs.lemmas.Bool.{and_parts, or_cases, eqb-true}
use Rattle.unix_names.specs.declared.Signal.{Signal}
use Rattle.unix_names.specs.declared.Signal.TheVariants.{Kill}
use Rattle.unix_names.specs.declared.DefaultAct.{DefaultAct}
use Rattle.unix_names.specs.declared.DefaultAct.TheVariants.{End, Ignore, StopIt, ContinueIt}
use Rattle.unix_names.specs.Sets.{has, added, minus, IsSignals}
use Rattle.unix_names.specs.Signals.{number_of, default_of, all_signals}
use Rattle.unix_names.proofs.SetLaws.{has-added, has-minus, has-none, IsSignals-none, IsSignals-added, IsSignals-and, none-empty}
use Rattle.unix_names.proofs.SignalLaws.{find-passes, none-passes, all_listed}
use Rattle.unix_calls.specs.declared.Event.{Event}
use Rattle.unix_calls.specs.declared.Event.TheVariants.{Caught, Discarded, StoppedBy, EndedBy, Continued}
use Rattle.signal_state.specs.Signals.{Signals, IsKept}
use Rattle.signal_state.specs.Sig.{deliverable, drops_by_default, is_dropped_by_default, IsClear}
use Rattle.process_table.specs.declared.Row.{Row}
use Rattle.process_table.specs.Orphans.{is_orphaned}
use Rattle.kernel_rules.specs.Events.{is_deliverable, has_default_action, acts_by_default, is_caught, is_stop_act, is_end_act, is_stop_signal, is_plain_stop, is_spared, is_discarded, stops, ends, may_happen}
use Rattle.kernel_choice.specs.Choice.{event_of, least_deliverable, first_event}
use Rattle.kernel_choice.specs.Laws.{IsQuiet}

-- ---- what is deliverable is pending
has_same : (n : ℕ) (s t : Signal) → (number_of t == number_of s) ≡ true → has n t ≡ has n s
has_same n s t e = ap (λ k. bit_at n k == 1) (eqb-true _ _ e)

alone_pends : (pending : ℕ) (s : Signal) (killed : Bool) → has pending Kill ≡ killed → has (cond killed (added 0 Kill) 0) s ≡ true → has pending s ≡ true
alone_pends pending s true w h =
    elim (or_cases (has 0 s) (number_of s == number_of Kill) (sym (has-added 0 Kill s) ∙ h)) [
      | inl none ↦ absurd (cc (none, has-none s))
      | inr same ↦ has_same pending Kill s same ∙ w
    ]
alone_pends pending s false w h = absurd (cc (h, has-none s))

taken_pends : (x : Signals) (s : Signal) (stopped : Bool) → has (cond stopped (cond (has x.pending Kill) (added 0 Kill) 0) (minus x.pending x.mask)) s ≡ true → has x.pending s ≡ true
taken_pends x s true h = alone_pends x.pending s (has x.pending Kill) refl h
taken_pends x s false h = (and_parts _ _ (sym (has-minus x.pending x.mask s) ∙ h)).0

pub deliverable_pends : (x : Signals) (s : Signal) → has (deliverable x) s ≡ true → has x.pending s ≡ true
unfolding deliverable
deliverable_pends x s h = taken_pends x s x.stopped h

-- ---- what a deliverable signal does may happen
not_stop : (stop plain orphaned : Bool) → (stop && (not plain && orphaned)) ≡ false → (stop && (plain || not orphaned)) ≡ false → stop ≡ false
not_stop false plain orphaned a b = refl
not_stop true true orphaned a b = absurd (cc)
not_stop true false true a b = absurd (cc)
not_stop true false false a b = absurd (cc)

ends_by_default : (act : DefaultAct) → drops_by_default act ≡ false → is_stop_act act ≡ false → is_end_act act ≡ true
ends_by_default End d s = refl
ends_by_default Ignore d s = absurd (cc)
ends_by_default ContinueIt d s = absurd (cc)
ends_by_default StopIt d s = absurd (cc)

and_left : (a b : Bool) → a ≡ true → (a && b) ≡ false → b ≡ false
and_left true b e h = h
and_left false b e h = absurd (cc)

or_none : (a b : Bool) → (a || b) ≡ false → (a ≡ false) × (b ≡ false)
or_none true b h = absurd (cc)
or_none false b h = (refl, h)

both : (a b : Bool) → a ≡ true → b ≡ true → (a && b) ≡ true
both a b ha hb = rw (ha, hb) refl

neither : (a b : Bool) → a ≡ false → b ≡ false → (not a && not b) ≡ true
neither a b ha hb = rw (ha, hb) refl

by_default : (r : Row) (s : Signal) → IsKept r.sig → is_deliverable r s ≡ true → is_caught r s ≡ false → acts_by_default r s ≡ true
by_default r s k d uncaught =
    both (is_deliverable r s) (has_default_action r s) d
    (neither (has r.sig.ignored s) (has r.sig.caught s) (k.not_ignored s (deliverable_pends r.sig s d)) (and_left (is_deliverable r s) (has r.sig.caught s) d uncaught))

ends_else : (rows : List Row) (r : Row) (s : Signal) → acts_by_default r s ≡ true → is_discarded rows r s ≡ false → stops rows r s ≡ false → ends r s ≡ true
ends_else rows r s acts kept unstopped =
    let neither = or_none (is_dropped_by_default s) (is_spared rows r s) (and_left (acts_by_default r s) _ acts kept) in
    let stop : is_stop_signal s ≡ false = not_stop (is_stop_signal s) (is_plain_stop s) (is_orphaned rows r.group) neither.1 (and_left (acts_by_default r s) _ acts unstopped) in
    both (acts_by_default r s) (is_end_act (default_of s)) acts (ends_by_default (default_of s) neither.0 stop)

event_may : (rows : List Row) (r : Row) (s : Signal) → (acts : is_caught r s ≡ false → acts_by_default r s ≡ true) → may_happen rows r (event_of rows r s) ≡ true
event_may rows r s acts =
    elim (is_caught r s) as (λ b. is_caught r s ≡ b → may_happen rows r (cond b (Caught s) (cond (is_discarded rows r s) (Discarded s) (cond (stops rows r s) (StoppedBy s) (EndedBy s)))) ≡ true) [
      | true ↦ λ w. w
      | false ↦ λ w. elim (is_discarded rows r s) as (λ b. is_discarded rows r s ≡ b → may_happen rows r (cond b (Discarded s) (cond (stops rows r s) (StoppedBy s) (EndedBy s))) ≡ true) [
        | true ↦ λ v. v
        | false ↦ λ v. elim (stops rows r s) as (λ b. stops rows r s ≡ b → may_happen rows r (cond b (StoppedBy s) (EndedBy s)) ≡ true) [
          | true ↦ λ u. u
          | false ↦ λ u. ends_else rows r s (acts w) v u
        ] refl
      ] refl
    ] refl

mapped_passes : (f : Signal → Event) (test : Event → Bool) (o : Option Signal) (e : Event) → ((s : Signal) → o ≡ Some s → test (f s) ≡ true) → option_map f o ≡ Some e → test e ≡ true
mapped_passes f test None e h q = absurd (cc)
mapped_passes f test (Some s) e h q = let same : f s ≡ e = cc in rw same at (h s refl)

chosen_passes : (killed due : Bool) (first second : Event) (later : Option Event) (test : Event → Bool) (e : Event) →
    (killed ≡ true → test first ≡ true) → (due ≡ true → test second ≡ true) → (later ≡ Some e → test e ≡ true) →
    cond killed (Some first) (cond due (Some second) later) ≡ Some e → test e ≡ true
chosen_passes true due first second later test e a b c q = let same : first ≡ e = cc in rw same at (a refl)
chosen_passes false true first second later test e a b c q = let same : second ≡ e = cc in rw same at (b refl)
chosen_passes false false first second later test e a b c q = c q

killing : (r : Row) → IsKept r.sig → is_deliverable r Kill ≡ true → ends r Kill ≡ true
killing r k d =
    both (acts_by_default r Kill) true
    (both (is_deliverable r Kill) (has_default_action r Kill) d (neither (has r.sig.ignored Kill) (has r.sig.caught Kill) k.ignored_allowed.0 k.caught_allowed.0)) refl

pub chosen_may_happen : (rows : List Row) (r : Row) (e : Event) → IsKept r.sig → first_event rows r ≡ Some e → may_happen rows r e ≡ true
chosen_may_happen rows r e k q =
    chosen_passes (is_deliverable r Kill) r.sig.due (EndedBy Kill) Continued (option_map (event_of rows r) (least_deliverable r)) (may_happen rows r) e
    (killing r k) (λ due. due)
    (mapped_passes (event_of rows r) (may_happen rows r) (least_deliverable r) e
    (λ s found. event_may rows r s (by_default r s k (find-passes (is_deliverable r) all_signals s found)))) q

-- ---- none is chosen
find_none : {X : Type 0} (test : X → Bool) → ((x : X) → test x ≡ false) → (xs : List X) → find test xs ≡ None
find_none test fails [] = refl
find_none test fails (x ∷ xs) = rw (fails x) (find_none test fails xs)

mapped_none : (f : Signal → Event) (o : Option Signal) → option_map f o ≡ None → o ≡ None
mapped_none f None e = refl
mapped_none f (Some s) e = absurd (cc)

none_parts : (killed due : Bool) (first second : Event) (later : Option Event) → cond killed (Some first) (cond due (Some second) later) ≡ None → (due ≡ false) × (later ≡ None)
none_parts true due first second later e = absurd (cc)
none_parts false true first second later e = absurd (cc)
none_parts false false first second later e = (refl, e)

none_made : (killed due : Bool) (first second : Event) (f : Signal → Event) (o : Option Signal) → killed ≡ false → due ≡ false → o ≡ None → cond killed (Some first) (cond due (Some second) (option_map f o)) ≡ None
none_made killed due first second f o a b c = rw (a, b, c) refl

pub none_chosen : (rows : List Row) (r : Row) → first_event rows r ≡ None ↔ IsQuiet r
none_chosen rows r = (
  (λ e.
      let parts = none_parts (is_deliverable r Kill) r.sig.due (EndedBy Kill) Continued (option_map (event_of rows r) (least_deliverable r)) e in
      let none = mapped_none (event_of rows r) (least_deliverable r) parts.1 in
      ((λ t. none-passes (λ k. bit_at (deliverable r.sig) k == 1) all_signals none t (all_listed t)), parts.0)),
  (λ quiet. none_made (is_deliverable r Kill) r.sig.due (EndedBy Kill) Continued (event_of rows r) (least_deliverable r) (quiet.0 Kill) quiet.1 (find_none (is_deliverable r) quiet.0 all_signals)),
)

deliverable_signals : (x : Signals) → IsSignals x.pending → IsSignals (deliverable x)
unfolding deliverable minus added
deliverable_signals x h =
    elim x.stopped as (λ b. IsSignals (cond b (cond (has x.pending Kill) (added 0 Kill) 0) (minus x.pending x.mask))) [
      | true ↦ elim (has x.pending Kill) as (λ b. IsSignals (cond b (added 0 Kill) 0)) [
        | true ↦ IsSignals-added 0 Kill IsSignals-none
        | false ↦ IsSignals-none
      ]
      | false ↦ IsSignals-and x.pending _ h
    ]

pub none_where_clear : (rows : List Row) (r : Row) → IsSignals r.sig.pending → first_event rows r ≡ None ↔ IsClear r.sig
none_where_clear rows r h = (
  (λ e. let quiet = (none_chosen rows r).0 e in (none-empty (deliverable r.sig) (deliverable_signals r.sig h) quiet.0, quiet.1)),
  (λ clear. (none_chosen rows r).1 ((λ s. ap (λ n. has n s) clear.0 ∙ has-none s), clear.1)),
)
