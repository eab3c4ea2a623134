-- which processes live after a legal step, and which are stopped
use Rattle.std.proofs.Common.{◌≡◌, ◌==◌, ◌&&◌, ◌%◌, ℕ, ℤ, pos, negsuc, true, false, not, List, [], ◌∷◌, refl, sym, ap, ◌∙◌, Option, None, Some}
use Rattle.std.specs.Prelude.{map}
use Rattle.std.specs.Option.{option_or}
use Rattle.unix_names.specs.declared.Pid.{Pid}
use Rattle.unix_names.specs.declared.Act.{Act}
use Rattle.unix_names.specs.declared.Life.{Life}
use Rattle.unix_names.specs.declared.Life.TheVariants.{Runs, Stopped, Ended}
use Rattle.unix_names.specs.declared.WaitStatus.{WaitStatus}
use Rattle.unix_names.specs.declared.WaitStatus.TheVariants as status
use Rattle.unix_names.specs.declared.Signal.{Signal}
use Rattle.unix_names.specs.Signals.{signal_of}
use Rattle.unix_names.specs.States.{is_living}
use Rattle.unix_calls.specs.declared.Call.{Call}
use Rattle.unix_calls.specs.declared.Call.TheVariants.{Getpid, Getppid, Getpgid, Getsid, Fork, Exec, Exit, Waitpid, Kill, Setpgid, Setsid, Action, Mask, Pending, Migrate}
use Rattle.unix_calls.specs.declared.Reply.{Reply}
use Rattle.unix_calls.specs.declared.Reply.TheVariants.{Fine, Number, Child}
use Rattle.unix_calls.specs.declared.Event.{Event}
use Rattle.unix_calls.specs.declared.Event.TheVariants.{Caught, Discarded, StoppedBy, EndedBy, Continued, Moved}
use Rattle.unix_calls.specs.declared.Entry.{Entry}
use Rattle.unix_calls.specs.declared.Entry.TheVariants.{Called, Happened}
use Rattle.unix_calls.specs.declared.Target.{Target}
use Rattle.unix_calls.specs.Calls.{target_of}
use Rattle.list_laws.proofs.Filters.{some_same, and_false}
use Rattle.list_laws.proofs.Finding.{at-append, same_number}
use Rattle.process_table.specs.declared.Row.{Row}
use Rattle.process_table.specs.Rows.{is_pid, row_of, AreDistinct, is_ended_at}
use Rattle.kernel_rules.specs.Setpgid.{target_pid, wanted_group, after_setpgid}
use Rattle.kernel_model.specs.declared.verdict.Verdict.TheVariants.{Legal}
use Rattle.process_table.specs.Changes.{receives, delivered_at, stopped_at, continued_at, execed_at, reported_at, regrouped_at, leading_at, acting_at, masked_at}
use Rattle.kernel_rules.specs.Ending.{sent_to_parent, after_end}
use Rattle.kernel_rules.specs.Kill.{sent_by_kill, after_kill}
use Rattle.kernel_rules.specs.Events.{after_event}
use Rattle.kernel_model.specs.Step.{process_of, row_after, verdict, after}
use Rattle.kernel_rules.specs.Fork.{newborn, after_fork}
use Rattle.kernel_rules.specs.Wait.{after_wait}
use Rattle.kernel_rules.specs.Setsid.{after_setsid}
use Rattle.kernel_rules.specs.Action.{after_action}
use Rattle.kernel_rules.specs.Calls.{after_call}
use Rattle.kernel_model.specs.Sound.{IsSound}
use Rattle.kernel_laws.specs.Effects.{is_end, IsForkOf}
use Rattle.kernel_laws.proofs.Rows.{number, row_pid, row_here, mapped_is, moved_is}
use Rattle.kernel_laws.proofs.Ends.{ended_is}
use Rattle.kernel_laws.proofs.Legal.{actor, after_is}
use Rattle.kernel_laws.proofs.Others.{others_signalled, first, came_received_at}
use Rattle.kernel_laws.proofs.Coming.{living_stay, only_forks_add}
use Rattle.history_laws.specs.Living.{IsOver}

-- ---- the process itself
-- the life of a process after its entry
abbrev pub life_after : Entry → Life → Life
life_after (Called p (Exit n) reply) life = Ended (status.Exited (n % 256))
life_after (Happened p (StoppedBy s)) life = Stopped
life_after (Happened p (EndedBy s)) life = Ended (status.Killed s)
life_after (Happened p Continued) life = Runs
life_after _ life = life

module _ (rows : List Row) (r : Row) (distinct : AreDistinct rows) (r' : Row) (here : row_of rows r.pid ≡ Some r) where
  same : row_of rows r.pid ≡ Some r' → r'.life ≡ r.life
  same e = ap (λ x. x.life) (some_same r' r (sym e ∙ here))

  mapped : (f : Row → Row) → ((x : Row) → (f x).pid ≡ x.pid) → (f r).life ≡ r.life → row_of (map f rows) r.pid ≡ Some r' → r'.life ≡ r.life
  mapped f keeps life e = ap (λ x. x.life) (mapped_is rows f keeps r.pid r r' here e) ∙ life

  forked_life : (reply : Reply) → row_of (after_fork rows r reply) r.pid ≡ Some r' → r'.life ≡ r.life
  forked_life (Number n) e = same (here ∙ sym (at-append number r.pid.0 rows (newborn r n ∷ []) ∙ ap (λ o. option_or o (row_of (newborn r n ∷ []) r.pid)) here) ∙ e)
  forked_life _ e = same e

  waited_life : (reply : Reply) → row_of (after_wait rows reply) r.pid ≡ Some r' → r'.life ≡ r.life
  waited_life (Child p w) e = ap (λ x. x.life) (moved_is rows (λ x. not (is_ended_at p x)) (reported_at p) (λ x. refl) distinct r.pid r r' here e)
  waited_life _ e = same e

  killed_life : (target : Target) (s : ℕ) (reply : Reply) → row_of (after_kill rows r target s reply) r.pid ≡ Some r' → r'.life ≡ r.life
  killed_life target s Fine e = mapped (receives (sent_by_kill r target s (signal_of s))) (λ x. refl) refl e
  killed_life target s _ e = same e

  regrouped_life : (t : ℕ) (q : ℤ) (reply : Reply) → row_of (after_setpgid rows r t q reply) r.pid ≡ Some r' → r'.life ≡ r.life
  regrouped_life t (negsuc q) reply e = same e
  regrouped_life t (pos q) Fine e = mapped (regrouped_at (target_pid r t) (wanted_group r t q)) (λ x. refl) refl e
  regrouped_life t (pos q) _ e = same e

  leading_life : (reply : Reply) → row_of (after_setsid rows r reply) r.pid ≡ Some r' → r'.life ≡ r.life
  leading_life (Number n) e = mapped (leading_at r.pid) (λ x. refl) refl e
  leading_life _ e = same e

  acting_life : (o : Option Signal) (act : Act) (reply : Reply) → row_of (after_action rows r o act reply) r.pid ≡ Some r' → r'.life ≡ r.life
  acting_life None act reply e = same e
  acting_life (Some s) act Fine e = mapped (acting_at r.pid s act) (λ x. refl) refl e
  acting_life (Some s) act _ e = same e

  ended_life : (w : WaitStatus) → row_of (after_end rows r w) r.pid ≡ Some r' → r'.life ≡ Ended w
  ended_life w e = ap (λ x. x.life) (ended_is rows r w distinct r.pid r r' here e) ∙ first (is_pid r.pid r) (Ended w) r.life (same_number r.pid.0)

  call_life : (p : Pid) (call : Call) (reply : Reply) → row_of (after_call rows r call reply) r.pid ≡ Some r' → r'.life ≡ life_after (Called p call reply) r.life
  call_life p Fork reply e = forked_life reply e
  call_life p Exec reply e = mapped (execed_at r.pid) (λ x. refl) refl e
  call_life p (Exit n) reply e = ended_life (status.Exited (n % 256)) e
  call_life p (Waitpid sel stopped continued) reply e = waited_life reply e
  call_life p (Kill target s) reply e = killed_life (target_of target) s reply e
  call_life p (Setpgid t q) reply e = regrouped_life t q reply e
  call_life p Setsid reply e = leading_life reply e
  call_life p (Action s act) reply e = acting_life (signal_of s) act reply e
  call_life p (Mask set) reply e = mapped (masked_at r.pid set) (λ x. refl) refl e
  call_life p Getpid reply e = same e
  call_life p Getppid reply e = same e
  call_life p (Getpgid t) reply e = same e
  call_life p (Getsid t) reply e = same e
  call_life p Pending reply e = same e
  call_life p Migrate reply e = same e

  event_life : (p : Pid) (event : Event) → row_of (after_event rows r event) r.pid ≡ Some r' → r'.life ≡ life_after (Happened p event) r.life
  event_life p (Caught s) e = mapped (delivered_at r.pid s) (λ x. refl) refl e
  event_life p (Discarded s) e = mapped (delivered_at r.pid s) (λ x. refl) refl e
  event_life p (StoppedBy s) e =
      ap (λ x. x.life) (came_received_at rows r r' here (sent_to_parent r) (stopped_at r.pid s) (λ x. refl) e) ∙ first (is_pid r.pid r) Stopped r.life (same_number r.pid.0)
  event_life p (EndedBy s) e = ended_life (status.Killed s) e
  event_life p Continued e =
      ap (λ x. x.life) (came_received_at rows r r' here (sent_to_parent r) (continued_at r.pid) (λ x. refl) e) ∙ first (is_pid r.pid r) Runs r.life (same_number r.pid.0)
  event_life p Moved e = same e

  row_life : (entry : Entry) → row_of (row_after rows r entry) r.pid ≡ Some r' → r'.life ≡ life_after entry r.life
  row_life (Called p call reply) e = call_life p call reply e
  row_life (Happened p event) e = event_life p event e

pub own_life : (rows : List Row) (entry : Entry) (before now : Row) → AreDistinct rows → row_of rows (process_of entry) ≡ Some before → row_of (after rows entry) (process_of entry) ≡ Some now → now.life ≡ life_after entry before.life
own_life rows entry before now distinct there e =
    let is : before.pid ≡ process_of entry = row_pid rows (process_of entry) before there in
    row_life rows before distinct now (row_here rows (process_of entry) before there) entry
    (ap (λ p. row_of (row_after rows before entry) p) is ∙ ap (λ t. row_of t (process_of entry)) (sym (after_is rows entry before there)) ∙ e)

-- an end ends
ends_life : (entry : Entry) (life : Life) → is_end entry ≡ true → is_living (life_after entry life) ≡ false
ends_life (Called p (Exit n) reply) life e = refl
ends_life (Happened p (EndedBy s)) life e = refl
ends_life _ life e = absurd (cc)

pub end_over : (rows : List Row) (entry : Entry) → AreDistinct rows → verdict rows entry ≡ Legal → is_end entry ≡ true → IsOver (row_of (after rows entry) (process_of entry))
end_over rows entry distinct legal end = go (row_of (after rows entry) (process_of entry)) refl
  where
    go : (o : Option Row) → row_of (after rows entry) (process_of entry) ≡ o → IsOver o
    go None e = tt
    go (Some now) e =
        let a = actor rows entry legal in
        ap is_living (own_life rows entry a.row now distinct a.there e) ∙ ends_life entry (a.row).life end

-- ---- other processes
-- what is over stays so, and who lives lives on, stopped or not as before
pub record KeepsLife (before now : Option Row) : Type 0 where
  pub over : IsOver before → IsOver now
  pub alive : (c : Row) → before ≡ Some c → is_living c.life ≡ true → (d : Row) × (now ≡ Some d) × (d.life ≡ c.life)

module _ (rows : List Row) (entry : Entry) (sound : IsSound rows) (legal : verdict rows entry ≡ Legal) (q : Pid) (other : (q.0 == (process_of entry).0) ≡ false) where
  other_life : (c d : Row) → row_of rows q ≡ Some c → row_of (after rows entry) q ≡ Some d → d.life ≡ c.life
  other_life c d e e' =
      let is = row_pid rows q c e in
      (others_signalled rows entry sound legal c d (row_here rows q c e) (ap (λ p. p.0 == (process_of entry).0) is ∙ other) (ap (λ p. row_of (after rows entry) p) is ∙ e')).life

  over_other : (o : Option Row) → row_of rows q ≡ o → ¬ (IsForkOf q entry) → IsOver o → (o' : Option Row) → row_of (after rows entry) q ≡ o' → IsOver o'
  over_other o e no_fork over None e' = tt
  over_other None e no_fork over (Some d) e' = absurd (no_fork (only_forks_add rows entry q d sound legal e e'))
  over_other (Some c) e no_fork over (Some d) e' = ap is_living (other_life c d e e') ∙ over

  pub keeps_life : ¬ (IsForkOf q entry) → KeepsLife (row_of rows q) (row_of (after rows entry) q)
  keeps_life no_fork = record {
    over = λ over. over_other (row_of rows q) refl no_fork over (row_of (after rows entry) q) refl;
    alive = λ c e lives.
        let now = living_stay rows entry q c sound legal e lives (ap (λ b. is_end entry && b) (ap (λ p. p.0 == (process_of entry).0) (row_pid rows q c e) ∙ other) ∙ and_false (is_end entry)) in
        (now.0, now.1, other_life c now.0 e now.1);
  }
