-- what a step does to the signals of its own process; a kill; a fork
use Rattle.std.proofs.Common.{◌≡◌, ◌&&◌, ◌%◌, ℕ, ℤ, pos, negsuc, Bool, true, false, cond, not, List, [], ◌∷◌, refl, sym, ap, ◌∙◌, subst, Option, None, Some}
use Rattle.std.specs.Prelude.{map}
use Rattle.std.specs.Option.{option_or}
use Rattle.unix_names.specs.declared.Pid.{Pid}
use Rattle.unix_names.specs.declared.Act.{Act}
use Rattle.unix_names.specs.declared.WaitStatus.{WaitStatus}
use Rattle.unix_names.specs.declared.WaitStatus.TheVariants as status
use Rattle.unix_names.specs.declared.Signal.{Signal}
use Rattle.unix_names.specs.Signals.{signal_of}
use Rattle.unix_names.specs.States.{is_living}
use Rattle.unix_calls.specs.declared.Call.{Call}
use Rattle.unix_calls.specs.declared.Call.TheVariants.{Getpid, Getppid, Getpgid, Getsid, Fork, Exec, Exit, Waitpid, Kill, Setpgid, Setsid, Action, Mask, Pending, Migrate}
use Rattle.unix_calls.specs.declared.Reply.{Reply}
use Rattle.unix_calls.specs.declared.Reply.TheVariants.{Fine, Number, Child}
use Rattle.unix_calls.specs.declared.Event.{Event}
use Rattle.unix_calls.specs.declared.Event.TheVariants.{Caught, Discarded, StoppedBy, EndedBy, Continued, Moved}
use Rattle.unix_calls.specs.declared.Entry.{Entry}
use Rattle.unix_calls.specs.declared.Entry.TheVariants.{Called, Happened}
use Rattle.unix_calls.specs.declared.Target.{Target}
use Rattle.unix_calls.specs.Calls.{target_of}
use Rattle.signal_state.specs.Signals.{Signals}
use Rattle.signal_state.specs.Sig.{generated, generated_all, after_exec, with_action, with_mask, delivered, stopped_by, resumed}
use Rattle.process_table.specs.declared.Row.{Row}
use Rattle.process_table.specs.Rows.{is_pid, row_of, AreDistinct, is_ended_at}
use Rattle.kernel_rules.specs.Kill.{is_permitted, sent_by_kill, after_kill, sent_by_kill_call}
use Rattle.kernel_rules.specs.Setpgid.{target_pid, wanted_group, after_setpgid}
use Rattle.kernel_rules.specs.Fork.{fork_refusal, is_fresh, newborn, after_fork}
use Rattle.process_table.specs.Changes.{receives, received, stopped_at, continued_at, execed_at, reported_at, regrouped_at, leading_at}
use Rattle.kernel_rules.specs.Ending.{sent_to_parent, sent_by_end, after_end}
use Rattle.kernel_rules.specs.Events.{after_event, sent_by_event}
use Rattle.kernel_model.specs.Step.{process_of, row_after, sent_by_row, sent_at}
use Rattle.kernel_rules.specs.Wait.{after_wait}
use Rattle.kernel_rules.specs.Setsid.{after_setsid}
use Rattle.kernel_rules.specs.Action.{after_action}
use Rattle.kernel_rules.specs.Calls.{after_call, sent_by_call}
use Rattle.list_laws.proofs.Filters.{some_same, map_same}
use Rattle.list_laws.proofs.Finding.{at-append, same_number}
use Rattle.kernel_laws.specs.Effects.{acted, own_signals, OwnSignals, killed_once, KillSignalsOnce, ForkIsFresh}
use Rattle.kernel_laws.proofs.Rows.{number, row_pid, row_here, mapped_is, moved_is}
use Rattle.kernel_laws.proofs.Changes.{signals_at}
use Rattle.kernel_laws.proofs.Ends.{ended_is}
use Rattle.kernel_laws.proofs.Forks.{fresh_number}
use Rattle.kernel_laws.proofs.Legal.{actor, after_is, call_allowed, unrefused_number}
use Rattle.kernel_laws.proofs.Others.{nothing_sent, first, came_received_at}

-- the signals after are those that the change leaves, and those that are sent
abbrev pub HasOwn : List Signal → Signals → Row → Type 0
HasOwn signals left now = now.sig ≡ generated_all left (cond (is_living now.life) signals [])

module _ (rows : List Row) (r : Row) (distinct : AreDistinct rows) (r' : Row) (here : row_of rows r.pid ≡ Some r) where
  unchanged : row_of rows r.pid ≡ Some r' → HasOwn [] r.sig r'
  unchanged e = subst (HasOwn [] r.sig) (some_same r r' (sym here ∙ e)) (sym (nothing_sent (is_living r.life) r.sig))

  -- after a map that leaves the signals
  mapped : (f : Row → Row) → ((x : Row) → (f x).pid ≡ x.pid) → (f r).sig ≡ r.sig → row_of (map f rows) r.pid ≡ Some r' → HasOwn [] r.sig r'
  mapped f keeps same e = subst (HasOwn [] r.sig) (sym (mapped_is rows f keeps r.pid r r' here e)) (same ∙ sym (nothing_sent (is_living (f r).life) r.sig))

  changed : (g : Signals → Signals) → row_of (map (signals_at r.pid g) rows) r.pid ≡ Some r' → HasOwn [] (g r.sig) r'
  changed g e = subst (HasOwn [] (g r.sig)) (sym (mapped_is rows (signals_at r.pid g) (λ x. refl) r.pid r r' here e))
      (first (is_pid r.pid r) (g r.sig) r.sig (same_number r.pid.0) ∙ sym (nothing_sent (is_living r.life) (g r.sig)))

  forked_own : (reply : Reply) → row_of (after_fork rows r reply) r.pid ≡ Some r' → HasOwn [] r.sig r'
  forked_own (Number n) e = unchanged (here ∙ sym (at-append number r.pid.0 rows (newborn r n ∷ []) ∙ ap (λ o. option_or o (row_of (newborn r n ∷ []) r.pid)) here) ∙ e)
  forked_own _ e = unchanged e

  execed_own : row_of (map (execed_at r.pid) rows) r.pid ≡ Some r' → HasOwn [] (after_exec r.sig) r'
  execed_own e = subst (HasOwn [] (after_exec r.sig)) (sym (mapped_is rows (execed_at r.pid) (λ x. refl) r.pid r r' here e))
      (first (is_pid r.pid r) (after_exec r.sig) r.sig (same_number r.pid.0) ∙ sym (nothing_sent (is_living r.life) (after_exec r.sig)))

  ended_own : (w : WaitStatus) → row_of (after_end rows r w) r.pid ≡ Some r' → HasOwn (sent_by_end rows r w r) r.sig r'
  ended_own w e = subst (HasOwn (sent_by_end rows r w r) r.sig) (sym (ended_is rows r w distinct r.pid r r' here e)) refl

  waited_own : (reply : Reply) → row_of (after_wait rows reply) r.pid ≡ Some r' → HasOwn [] r.sig r'
  waited_own (Child p w) e = subst (HasOwn [] r.sig) (sym (moved_is rows (λ x. not (is_ended_at p x)) (reported_at p) (λ x. refl) distinct r.pid r r' here e)) (sym (nothing_sent (is_living r.life) r.sig))
  waited_own _ e = unchanged e

  killed_own : (target : Target) (s : ℕ) (reply : Reply) → row_of (after_kill rows r target s reply) r.pid ≡ Some r' → HasOwn (sent_by_kill_call r target s reply r) r.sig r'
  killed_own target s Fine e =
      let send = sent_by_kill r target s (signal_of s) in
      subst (HasOwn (send r) r.sig) (sym (mapped_is rows (receives send) (λ x. refl) r.pid r r' here e)) refl
  killed_own target s _ e = unchanged e

  regrouped_own : (t : ℕ) (q : ℤ) (reply : Reply) → row_of (after_setpgid rows r t q reply) r.pid ≡ Some r' → HasOwn [] r.sig r'
  regrouped_own t (negsuc q) reply e = unchanged e
  regrouped_own t (pos q) Fine e = mapped (regrouped_at (target_pid r t) (wanted_group r t q)) (λ x. refl) refl e
  regrouped_own t (pos q) _ e = unchanged e

  leading_own : (reply : Reply) → row_of (after_setsid rows r reply) r.pid ≡ Some r' → HasOwn [] r.sig r'
  leading_own (Number n) e = mapped (leading_at r.pid) (λ x. refl) refl e
  leading_own _ e = unchanged e

  acting_own : (p : Pid) (s : ℕ) (o : Option Signal) (act : Act) (reply : Reply) → signal_of s ≡ o → row_of (after_action rows r o act reply) r.pid ≡ Some r' → HasOwn [] (own_signals (Called p (Action s act) reply) r.sig) r'
  acting_own p s None act Fine is e = subst (λ o. HasOwn [] (acted o act r.sig) r') (sym is) (unchanged e)
  acting_own p s (Some signal) act Fine is e = subst (λ o. HasOwn [] (acted o act r.sig) r') (sym is) (changed (λ x. with_action x signal act) e)
  acting_own p s None act _ is e = unchanged e
  acting_own p s (Some signal) act _ is e = unchanged e

  call_own : (p : Pid) (call : Call) (reply : Reply) → row_of (after_call rows r call reply) r.pid ≡ Some r' → HasOwn (sent_by_call rows r call reply r) (own_signals (Called p call reply) r.sig) r'
  call_own p Fork reply e = forked_own reply e
  call_own p Exec reply e = execed_own e
  call_own p (Exit n) reply e = ended_own (status.Exited (n % 256)) e
  call_own p (Waitpid sel stopped continued) reply e = waited_own reply e
  call_own p (Kill target s) reply e = killed_own (target_of target) s reply e
  call_own p (Setpgid t q) reply e = regrouped_own t q reply e
  call_own p Setsid reply e = leading_own reply e
  call_own p (Action s act) reply e = acting_own p s (signal_of s) act reply refl e
  call_own p (Mask set) reply e = changed (λ x. with_mask x set) e
  call_own p Getpid reply e = unchanged e
  call_own p Getppid reply e = unchanged e
  call_own p (Getpgid t) reply e = unchanged e
  call_own p (Getsid t) reply e = unchanged e
  call_own p Pending reply e = unchanged e
  call_own p Migrate reply e = unchanged e

  event_own : (p : Pid) (event : Event) → row_of (after_event rows r event) r.pid ≡ Some r' → HasOwn (sent_by_event rows r event r) (own_signals (Happened p event) r.sig) r'
  event_own p (Caught s) e = changed (λ x. delivered x s) e
  event_own p (Discarded s) e = changed (λ x. delivered x s) e
  event_own p (StoppedBy s) e =
      subst (HasOwn (sent_to_parent r r) (stopped_by r.sig s)) (sym (came_received_at rows r r' here (sent_to_parent r) (stopped_at r.pid s) (λ x. refl) e))
      (ap (λ x. generated_all x (cond (is_living (stopped_at r.pid s r).life) (sent_to_parent r r) [])) (first (is_pid r.pid r) (stopped_by r.sig s) r.sig (same_number r.pid.0)))
  event_own p (EndedBy s) e = ended_own (status.Killed s) e
  event_own p Continued e =
      subst (HasOwn (sent_to_parent r r) (resumed r.sig)) (sym (came_received_at rows r r' here (sent_to_parent r) (continued_at r.pid) (λ x. refl) e))
      (ap (λ x. generated_all x (cond (is_living (continued_at r.pid r).life) (sent_to_parent r r) [])) (first (is_pid r.pid r) (resumed r.sig) r.sig (same_number r.pid.0)))
  event_own p Moved e = unchanged e

  row_own : (entry : Entry) → row_of (row_after rows r entry) r.pid ≡ Some r' → HasOwn (sent_by_row rows r entry r) (own_signals entry r.sig) r'
  row_own (Called p call reply) e = call_own p call reply e
  row_own (Happened p event) e = event_own p event e

pub own_signalled : OwnSignals
own_signalled rows entry sound legal before now there e =
    let is : before.pid ≡ process_of entry = row_pid rows (process_of entry) before there in
    let step = row_own rows before sound.distinct now (row_here rows (process_of entry) before there) entry
    (ap (λ p. row_of (row_after rows before entry) p) is ∙ ap (λ t. row_of t (process_of entry)) (sym (after_is rows entry before there)) ∙ e) in
    subst (λ signals. HasOwn signals (own_signals entry before.sig) now) (ap (λ o. sent_at rows o entry before) (sym there)) step

-- ---- kill
killed_row : (a b : Bool) (signal : Signal) (c : Row) → record c { sig = generated_all c.sig (cond a (cond b (signal ∷ []) []) []) } ≡ cond (a && b) (record c { sig = generated c.sig signal }) c
killed_row true true signal c = refl
killed_row true false signal c = refl
killed_row false b signal c = refl

pub kill_once : KillSignalsOnce
kill_once rows p caller target s signal there is =
    after_is rows (Called p (Kill target s) Fine) caller there
    ∙ ap (λ o. received (sent_by_kill caller (target_of target) s o) rows) is
    ∙ map_same (receives (sent_by_kill caller (target_of target) s (Some signal))) (killed_once caller (target_of target) s signal)
    (λ c. killed_row (is_living c.life) (is_permitted caller (target_of target) s c) signal c) rows

-- ---- fork
pub fork_fresh : ForkIsFresh
fork_fresh rows p caller n there legal =
    let a = actor rows (Called p Fork (Number n)) legal in
    let allowed = unrefused_number (fork_refusal rows a.row) n (is_fresh rows n) ((call_allowed rows a.row Fork (Number n) a.legal).1) in
    let fresh = fresh_number rows n allowed.1 in (
      fresh,
      (
        newborn caller n,
        after_is rows (Called p Fork (Number n)) caller there,
        record { pid = refl; parent = refl; group = refl; session = refl; uid = refl; lives = refl; nothing_pending = refl },
      ),
    )
