-- what a step leaves of the rows of other processes, and of the signals of its own
use Rattle.std.proofs.Common.{◌≡◌, ◌==◌, ◌||◌, ◌%◌, ℕ, ℤ, pos, negsuc, Bool, true, false, cond, not, List, [], ◌∷◌, refl, sym, ap, ◌∙◌, subst, Option, None, Some}
use Rattle.std.specs.Prelude.{map}
use Rattle.std.specs.Option.{option_or}
use Rattle.unix_names.specs.declared.Act.{Act}
use Rattle.unix_names.specs.declared.Life.{Life}
use Rattle.unix_names.specs.declared.Life.TheVariants.{Runs, Stopped, Ended}
use Rattle.unix_names.specs.declared.WaitStatus.{WaitStatus}
use Rattle.unix_names.specs.declared.WaitStatus.TheVariants as status
use Rattle.unix_names.specs.declared.Signal.{Signal}
use Rattle.unix_names.specs.Signals.{signal_of}
use Rattle.unix_names.specs.States.{is_living}
use Rattle.unix_calls.specs.declared.Call.{Call}
use Rattle.unix_calls.specs.declared.Call.TheVariants.{Getpid, Getppid, Getpgid, Getsid, Fork, Exec, Exit, Waitpid, Kill, Setpgid, Setsid, Action, Mask, Pending, Migrate}
use Rattle.unix_calls.specs.declared.Reply.{Reply}
use Rattle.unix_calls.specs.declared.Reply.TheVariants.{Fine, Number, Child}
use Rattle.unix_calls.specs.declared.Event.{Event}
use Rattle.unix_calls.specs.declared.Event.TheVariants.{Caught, Discarded, StoppedBy, EndedBy, Continued, Moved}
use Rattle.unix_calls.specs.declared.Entry.{Entry}
use Rattle.unix_calls.specs.declared.Entry.TheVariants.{Called, Happened}
use Rattle.unix_calls.specs.Calls.{target_of}
use Rattle.signal_state.specs.Signals.{Signals}
use Rattle.signal_state.specs.Sig.{generated_all, after_exec, with_action, with_mask, delivered, stopped_by, resumed}
use Rattle.process_table.specs.declared.Row.{Row}
use Rattle.process_table.specs.Rows.{pid, is_pid, row_of, AreDistinct, is_ended_at}
use Rattle.kernel_rules.specs.Setpgid.{target_pid, wanted_group, after_setpgid}
use Rattle.process_table.specs.Changes.{receives, stopped_at, continued_at, execed_at, reported_at, regrouped_at, leading_at}
use Rattle.kernel_rules.specs.Ending.{sent_to_parent, sent_by_end}
use Rattle.kernel_rules.specs.Kill.{sent_by_kill, after_kill, sent_by_kill_call}
use Rattle.kernel_rules.specs.Events.{after_event, sent_by_event}
use Rattle.kernel_model.specs.Step.{process_of, row_after, sent_by_row, sent_at}
use Rattle.kernel_rules.specs.Fork.{newborn, after_fork}
use Rattle.kernel_rules.specs.Wait.{after_wait}
use Rattle.kernel_rules.specs.Setsid.{after_setsid}
use Rattle.kernel_rules.specs.Action.{after_action}
use Rattle.kernel_rules.specs.Calls.{after_call, sent_by_call}
use Rattle.list_laws.proofs.Filters.{some_same, map-map}
use Rattle.list_laws.proofs.Finding.{at-append}
use Rattle.kernel_laws.specs.Effects.{is_end, is_report_of, is_regrouping_of, IsSignalled, OthersAreSignalled}
use Rattle.kernel_laws.proofs.Rows.{number, row_pid, mapped_is, moved_is}
use Rattle.kernel_laws.proofs.Changes.{signals_at}
use Rattle.kernel_laws.proofs.Ends.{after_end_of, ended_is}
use Rattle.kernel_laws.proofs.Legal.{actor, after_is}

-- ---- choices
pub nothing_sent : (b : Bool) (x : Signals) → generated_all x (cond b [] []) ≡ x
nothing_sent true x = refl
nothing_sent false x = refl

pub second : {X : Type 0} (b : Bool) (x y : X) → b ≡ false → cond b x y ≡ y
second true x y e = cc
second false x y e = refl

pub first : {X : Type 0} (b : Bool) (x y : X) → b ≡ true → cond b x y ≡ x
first true x y e = refl
first false x y e = cc

-- the same signals, sent to what another process's change leaves as it was
sent_second : (b : Bool) (x y : Signals) (l m : Life) (ss : List Signal) → b ≡ false → generated_all (cond b x y) (cond (is_living (cond b l m)) ss []) ≡ generated_all y (cond (is_living m) ss [])
sent_second true x y l m ss e = cc
sent_second false x y l m ss e = refl

-- ---- a row that no end and no report changes
plain : (signals : List Signal) (entry : Entry) (c x : Row) → is_end entry ≡ false → is_report_of c.pid entry ≡ false →
    x.sig ≡ generated_all c.sig (cond (is_living c.life) signals []) → x.pid ≡ c.pid → x.session ≡ c.session → x.uid ≡ c.uid → x.life ≡ c.life → x.execed ≡ c.execed → x.parent ≡ c.parent → x.change ≡ c.change →
    (is_regrouping_of c.pid entry ≡ false → x.group ≡ c.group) → IsSignalled signals entry c x
plain signals entry c x no_end no_report sig named session uid life execed parent change group = record {
  sig = sig;
  pid = named;
  session = session;
  uid = uid;
  life = life;
  execed = execed;
  parent = rw no_end parent;
  change = rw no_report change;
  group = group;
}

same : (entry : Entry) (c : Row) → is_end entry ≡ false → is_report_of c.pid entry ≡ false → IsSignalled [] entry c c
same entry c no_end no_report = plain [] entry c c no_end no_report (sym (nothing_sent (is_living c.life) c.sig)) refl refl refl refl refl refl refl (λ e. refl)

-- what is found again is the row
same_row : (rows : List Row) (entry : Entry) (c c' : Row) → is_end entry ≡ false → is_report_of c.pid entry ≡ false → row_of rows c.pid ≡ Some c → row_of rows c.pid ≡ Some c' → IsSignalled [] entry c c'
same_row rows entry c c' no_end no_report e e' = subst (IsSignalled [] entry c) (some_same c c' (sym e ∙ e')) (same entry c no_end no_report)

-- ---- the end of a process
ended_signalled : (rows : List Row) (r : Row) (w : WaitStatus) (entry : Entry) (c : Row) → is_end entry ≡ true → is_report_of c.pid entry ≡ false → process_of entry ≡ r.pid → is_pid r.pid c ≡ false →
    IsSignalled (sent_by_end rows r w c) entry c (after_end_of rows r w c)
ended_signalled rows r w entry c end no_report p ne = record {
  sig = ap (λ l. generated_all c.sig (cond (is_living l) (sent_by_end rows r w c) [])) (second (is_pid r.pid c) (Ended w) c.life ne);
  pid = refl;
  session = refl;
  uid = refl;
  life = second (is_pid r.pid c) (Ended w) c.life ne;
  execed = refl;
  parent = rw (end, p) refl;
  change = rw no_report (second (is_pid r.pid c) None c.change ne);
  group = λ e. refl;
}

-- ---- calls of another process
-- a row after a map of all rows, and signals
pub came_received_at : (rows : List Row) (c c' : Row) → row_of rows c.pid ≡ Some c → (send : Row → List Signal) (f : Row → Row) → ((x : Row) → (f x).pid ≡ x.pid) → row_of (map (receives send) (map f rows)) c.pid ≡ Some c' → c' ≡ receives send (f c)
came_received_at rows c c' here send f keeps e = mapped_is rows (λ x. receives send (f x)) keeps c.pid c c' here (ap (λ t. row_of t c.pid) (sym (map-map (receives send) f rows)) ∙ e)

module _ (rows : List Row) (r : Row) (distinct : AreDistinct rows) (c c' : Row) (here : row_of rows c.pid ≡ Some c) (other : is_pid r.pid c ≡ false) where
  forked_other : (reply : Reply) → row_of (after_fork rows r reply) c.pid ≡ Some c' → IsSignalled [] (Called r.pid Fork reply) c c'
  forked_other (Number n) e =
      subst (IsSignalled [] (Called r.pid Fork (Number n)) c)
      (some_same c c' (sym (at-append number c.pid.0 rows (newborn r n ∷ []) ∙ ap (λ o. option_or o (row_of (newborn r n ∷ []) c.pid)) here) ∙ e))
      (same (Called r.pid Fork (Number n)) c refl refl)
  forked_other _ e = same_row rows (Called r.pid Fork _) c c' refl refl here e

  execed_other : (reply : Reply) → row_of (map (execed_at r.pid) rows) c.pid ≡ Some c' → IsSignalled [] (Called r.pid Exec reply) c c'
  execed_other reply e = subst (IsSignalled [] (Called r.pid Exec reply) c) (sym (mapped_is rows (execed_at r.pid) (λ x. refl) c.pid c c' here e))
      (plain [] (Called r.pid Exec reply) c (execed_at r.pid c) refl refl
      (second (is_pid r.pid c) (after_exec c.sig) c.sig other ∙ sym (nothing_sent (is_living c.life) c.sig)) refl refl refl refl (ap (λ b. b || c.execed) other) refl refl (λ g. refl))

  waited_other : (sel : ℤ) (stopped continued : Bool) (reply : Reply) → row_of (after_wait rows reply) c.pid ≡ Some c' → IsSignalled [] (Called r.pid (Waitpid sel stopped continued) reply) c c'
  waited_other sel stopped continued (Child p w) e =
      subst (IsSignalled [] (Called r.pid (Waitpid sel stopped continued) (Child p w)) c)
      (sym (moved_is rows (λ x. not (is_ended_at p x)) (reported_at p) (λ x. refl) distinct c.pid c c' here e))
      (record {
        sig = sym (nothing_sent (is_living c.life) c.sig);
        pid = refl;
        session = refl;
        uid = refl;
        life = refl;
        execed = refl;
        parent = refl;
        change = refl;
        group = λ g. refl;
      })
  waited_other sel stopped continued _ e = same_row rows (Called r.pid (Waitpid sel stopped continued) _) c c' refl refl here e

  killed_other : (target : ℤ) (s : ℕ) (reply : Reply) → row_of (after_kill rows r (target_of target) s reply) c.pid ≡ Some c' →
      IsSignalled (sent_by_kill_call r (target_of target) s reply c) (Called r.pid (Kill target s) reply) c c'
  killed_other target s Fine e =
      let send = sent_by_kill r (target_of target) s (signal_of s) in
      subst (IsSignalled (send c) (Called r.pid (Kill target s) Fine) c) (sym (mapped_is rows (receives send) (λ x. refl) c.pid c c' here e))
      (plain (send c) (Called r.pid (Kill target s) Fine) c (receives send c) refl refl refl refl refl refl refl refl refl refl (λ g. refl))
  killed_other target s _ e = same_row rows (Called r.pid (Kill target s) _) c c' refl refl here e

  not_target : (t : ℕ) → (c.pid.0 == t) ≡ false → is_pid (target_pid r t) c ≡ false
  not_target t ne = go (t == 0)
    where
      go : (b : Bool) → is_pid (cond b r.pid (pid t)) c ≡ false
      go true = other
      go false = ne

  regrouped_other : (t : ℕ) (q : ℤ) (reply : Reply) → row_of (after_setpgid rows r t q reply) c.pid ≡ Some c' → IsSignalled [] (Called r.pid (Setpgid t q) reply) c c'
  regrouped_other t (negsuc q) reply e = same_row rows (Called r.pid (Setpgid t (negsuc q)) reply) c c' refl refl here e
  regrouped_other t (pos q) Fine e =
      let change = regrouped_at (target_pid r t) (wanted_group r t q) in
      subst (IsSignalled [] (Called r.pid (Setpgid t (pos q)) Fine) c) (sym (mapped_is rows change (λ x. refl) c.pid c c' here e))
      (plain [] (Called r.pid (Setpgid t (pos q)) Fine) c (change c) refl refl (sym (nothing_sent (is_living c.life) c.sig)) refl refl refl refl refl refl refl
      (λ g. second (is_pid (target_pid r t) c) (wanted_group r t q) c.group (not_target t g)))
  regrouped_other t (pos q) _ e = same_row rows (Called r.pid (Setpgid t (pos q)) _) c c' refl refl here e

  leading_other : (reply : Reply) → row_of (after_setsid rows r reply) c.pid ≡ Some c' → IsSignalled [] (Called r.pid Setsid reply) c c'
  leading_other (Number n) e =
      subst (IsSignalled [] (Called r.pid Setsid (Number n)) c) (sym (mapped_is rows (leading_at r.pid) (λ x. refl) c.pid c c' here e))
      (plain [] (Called r.pid Setsid (Number n)) c (leading_at r.pid c) refl refl (sym (nothing_sent (is_living c.life) c.sig)) refl
      (second (is_pid r.pid c) r.pid c.session other) refl refl refl refl refl (λ g. second (is_pid r.pid c) r.pid c.group other))
  leading_other _ e = same_row rows (Called r.pid Setsid _) c c' refl refl here e

  -- a change of the signals of the caller alone
  signals_other : (entry : Entry) (g : Signals → Signals) → is_end entry ≡ false → is_report_of c.pid entry ≡ false →
      row_of (map (signals_at r.pid g) rows) c.pid ≡ Some c' → IsSignalled [] entry c c'
  signals_other entry g no_end no_report e =
      let change = signals_at r.pid g in
      subst (IsSignalled [] entry c) (sym (mapped_is rows change (λ x. refl) c.pid c c' here e))
      (plain [] entry c (change c) no_end no_report (second (is_pid r.pid c) (g c.sig) c.sig other ∙ sym (nothing_sent (is_living c.life) c.sig)) refl refl refl refl refl refl refl (λ g. refl))

  acting_other : (s : ℕ) (o : Option Signal) (act : Act) (reply : Reply) → row_of (after_action rows r o act reply) c.pid ≡ Some c' → IsSignalled [] (Called r.pid (Action s act) reply) c c'
  acting_other s None act reply e = same_row rows (Called r.pid (Action s act) reply) c c' refl refl here e
  acting_other s (Some signal) act Fine e = signals_other (Called r.pid (Action s act) Fine) (λ x. with_action x signal act) refl refl e
  acting_other s (Some signal) act _ e = same_row rows (Called r.pid (Action s act) _) c c' refl refl here e

  call_other : (call : Call) (reply : Reply) → row_of (after_call rows r call reply) c.pid ≡ Some c' → IsSignalled (sent_by_call rows r call reply c) (Called r.pid call reply) c c'
  call_other Fork reply e = forked_other reply e
  call_other Exec reply e = execed_other reply e
  call_other (Exit n) reply e =
      subst (IsSignalled (sent_by_end rows r (status.Exited (n % 256)) c) (Called r.pid (Exit n) reply) c) (sym (ended_is rows r (status.Exited (n % 256)) distinct c.pid c c' here e))
      (ended_signalled rows r (status.Exited (n % 256)) (Called r.pid (Exit n) reply) c refl refl refl other)
  call_other (Waitpid sel stopped continued) reply e = waited_other sel stopped continued reply e
  call_other (Kill target s) reply e = killed_other target s reply e
  call_other (Setpgid t q) reply e = regrouped_other t q reply e
  call_other Setsid reply e = leading_other reply e
  call_other (Action s act) reply e = acting_other s (signal_of s) act reply e
  call_other (Mask set) reply e = signals_other (Called r.pid (Mask set) reply) (λ x. with_mask x set) refl refl e
  call_other Getpid reply e = same_row rows (Called r.pid Getpid reply) c c' refl refl here e
  call_other Getppid reply e = same_row rows (Called r.pid Getppid reply) c c' refl refl here e
  call_other (Getpgid t) reply e = same_row rows (Called r.pid (Getpgid t) reply) c c' refl refl here e
  call_other (Getsid t) reply e = same_row rows (Called r.pid (Getsid t) reply) c c' refl refl here e
  call_other Pending reply e = same_row rows (Called r.pid Pending reply) c c' refl refl here e
  call_other Migrate reply e = same_row rows (Called r.pid Migrate reply) c c' refl refl here e

  -- ---- events of another process
  event_other : (event : Event) → row_of (after_event rows r event) c.pid ≡ Some c' → IsSignalled (sent_by_event rows r event c) (Happened r.pid event) c c'
  event_other (Caught s) e = signals_other (Happened r.pid (Caught s)) (λ x. delivered x s) refl refl e
  event_other (Discarded s) e = signals_other (Happened r.pid (Discarded s)) (λ x. delivered x s) refl refl e
  event_other (StoppedBy s) e =
      let d = came_received_at rows c c' here (sent_to_parent r) (stopped_at r.pid s) (λ x. refl) e in
      subst (IsSignalled (sent_to_parent r c) (Happened r.pid (StoppedBy s)) c) (sym d)
      (plain (sent_to_parent r c) (Happened r.pid (StoppedBy s)) c (receives (sent_to_parent r) (stopped_at r.pid s c)) refl refl
      (sent_second (is_pid r.pid c) (stopped_by c.sig s) c.sig Stopped c.life (sent_to_parent r c) other) refl refl refl (second (is_pid r.pid c) Stopped c.life other) refl refl
      (second (is_pid r.pid c) (Some (status.Stopped s)) c.change other) (λ g. refl))
  event_other (EndedBy s) e =
      subst (IsSignalled (sent_by_end rows r (status.Killed s) c) (Happened r.pid (EndedBy s)) c) (sym (ended_is rows r (status.Killed s) distinct c.pid c c' here e))
      (ended_signalled rows r (status.Killed s) (Happened r.pid (EndedBy s)) c refl refl refl other)
  event_other Continued e =
      let d = came_received_at rows c c' here (sent_to_parent r) (continued_at r.pid) (λ x. refl) e in
      subst (IsSignalled (sent_to_parent r c) (Happened r.pid Continued) c) (sym d)
      (plain (sent_to_parent r c) (Happened r.pid Continued) c (receives (sent_to_parent r) (continued_at r.pid c)) refl refl
      (sent_second (is_pid r.pid c) (resumed c.sig) c.sig Runs c.life (sent_to_parent r c) other) refl refl refl (second (is_pid r.pid c) Runs c.life other) refl refl
      (second (is_pid r.pid c) (Some status.Continued) c.change other) (λ g. refl))
  event_other Moved e = same_row rows (Happened r.pid Moved) c c' refl refl here e

  row_other : (entry : Entry) → process_of entry ≡ r.pid → row_of (row_after rows r entry) c.pid ≡ Some c' → IsSignalled (sent_by_row rows r entry c) entry c c'
  row_other (Called p call reply) is e = subst (λ q. IsSignalled (sent_by_call rows r call reply c) (Called q call reply) c c') (sym is) (call_other call reply e)
  row_other (Happened p event) is e = subst (λ q. IsSignalled (sent_by_event rows r event c) (Happened q event) c c') (sym is) (event_other event e)

pub others_signalled : OthersAreSignalled
others_signalled rows entry sound legal before now here other e =
    let a = actor rows entry legal in
    let is : a.row.pid ≡ process_of entry = row_pid rows (process_of entry) a.row a.there in
    subst (λ signals. IsSignalled signals entry before now) (ap (λ o. sent_at rows o entry before) (sym a.there))
    (row_other rows a.row sound.distinct before now here (ap (λ p. is_pid p before) is ∙ other) entry (sym is) (ap (λ t. row_of t before.pid) (sym (after_is rows entry a.row a.there)) ∙ e))
