-- the four forms of a step: a change that leaves pids, groups and sessions, a fork, a setpgid, and a setsid
use Rattle.std.proofs.Common.{◌≡◌, ◌==◌, ◌&&◌, ◌%◌, ◌⊎◌, inl, inr, ◌++◌, ℕ, ℤ, pos, negsuc, Bool, true, false, cond, not, List, [], ◌∷◌, refl, sym, ap, ◌∙◌, subst, Option, None, Some}
use Rattle.std.specs.Prelude.{map, filter}
use Rattle.std.specs.List.{list_any}
use Rattle.unix_names.specs.declared.Pid.{Pid}
use Rattle.unix_names.specs.declared.Act.{Act}
use Rattle.unix_names.specs.declared.Errno.TheVariants.{EPERM}
use Rattle.unix_names.specs.declared.Life.{Life}
use Rattle.unix_names.specs.declared.Life.TheVariants.{Runs, Stopped, Ended}
use Rattle.unix_names.specs.declared.WaitStatus.{WaitStatus}
use Rattle.unix_names.specs.declared.WaitStatus.TheVariants as status
use Rattle.unix_names.specs.declared.Signal.{Signal}
use Rattle.unix_names.specs.Signals.{signal_of}
use Rattle.unix_names.specs.States.{is_living}
use Rattle.unix_calls.specs.declared.Call.{Call}
use Rattle.unix_calls.specs.declared.Call.TheVariants.{Getpid, Getppid, Getpgid, Getsid, Fork, Exec, Exit, Waitpid, Kill, Setpgid, Setsid, Action, Mask, Pending, Migrate}
use Rattle.unix_calls.specs.declared.Reply.{Reply}
use Rattle.unix_calls.specs.declared.Reply.TheVariants.{Fine, Number, Child}
use Rattle.unix_calls.specs.declared.Event.{Event}
use Rattle.unix_calls.specs.declared.Event.TheVariants.{Caught, Discarded, StoppedBy, EndedBy, Continued, Moved}
use Rattle.unix_calls.specs.declared.Entry.{Entry}
use Rattle.unix_calls.specs.declared.Entry.TheVariants.{Called, Happened}
use Rattle.unix_calls.specs.declared.Target.{Target}
use Rattle.unix_calls.specs.Calls.{target_of}
use Rattle.process_table.specs.declared.Row.{Row}
use Rattle.kernel_model.specs.declared.verdict.Verdict.TheVariants.{Legal}
use Rattle.process_table.specs.Rows.{pid, is_pid, is_parent, in_group, row_of, row_named, is_ended_at}
use Rattle.kernel_rules.specs.Setpgid.{target_pid, wanted_group, regroup_refusal, after_setpgid}
use Rattle.kernel_rules.specs.Fork.{fork_refusal, is_fresh, newborn, after_fork}
use Rattle.kernel_rules.specs.Setsid.{setsid_refusal, after_setsid}
use Rattle.kernel_rules.specs.Calls.{allows, after_call}
use Rattle.process_table.specs.Changes.{receives, delivered_at, stopped_at, continued_at, execed_at, reported_at, regrouped_at, leading_at, acting_at, masked_at}
use Rattle.kernel_rules.specs.Ending.{sent_to_parent, sent_by_end, after_end}
use Rattle.kernel_rules.specs.Kill.{sent_by_kill, after_kill}
use Rattle.kernel_rules.specs.Events.{after_event}
use Rattle.kernel_rules.specs.Wait.{after_wait}
use Rattle.kernel_rules.specs.Action.{after_action}
use Rattle.kernel_model.specs.Step.{row_after, row_verdict}
use Rattle.list_laws.proofs.Filters.{map-map, map-id, filter-all}
use Rattle.kernel_laws.specs.Effects.{IsUnused, is_end}
use Rattle.kernel_laws.proofs.Rows.{one_row}
use Rattle.kernel_laws.proofs.Plain.{all_stay}
use Rattle.kernel_laws.proofs.Changes.{living_stays}
use Rattle.kernel_laws.proofs.Ends.{left, is_left, other_left, left_is, after_end_of}
use Rattle.kernel_laws.proofs.Forks.{fresh_number}
use Rattle.kernel_laws.proofs.Legal.{call_allowed, unrefused_fine, unrefused_number, no_refusal}
use Rattle.kernel_laws.proofs.Steps.{Regroups, regroups}

-- pids, groups and sessions stay, no ended process lives again, and a parent changes to the system process alone
pub record IsQuiet (rows : List Row) (f : Row → Row) : Type 0 where
  pub pid : (c : Row) → (f c).pid ≡ c.pid
  pub group : (c : Row) → (f c).group ≡ c.group
  pub session : (c : Row) → (f c).session ≡ c.session
  pub lived : (c : Row) → row_of rows c.pid ≡ Some c → is_living (f c).life ≡ true → is_living c.life ≡ true
  pub parent : (c : Row) → ((f c).parent.0 ≡ 1) ⊎ ((f c).parent ≡ c.parent)

-- the entry is a setpgid that was done, of this process to this group
abbrev pub RegroupsTo : Row → Entry → Pid → Pid → Type 0
RegroupsTo r (Called caller (Setpgid t (pos q)) Fine) p g = (p ≡ target_pid r t) × (g ≡ wanted_group r t q)
RegroupsTo r _ p g = ⊥

-- the entry is a fork that gave this number
abbrev pub ForksAs : Entry → ℕ → Type 0
ForksAs (Called caller Fork (Number m)) n = m ≡ n
ForksAs _ n = ⊥

-- each living row is kept, but that of a process that ends
abbrev pub KeepsLiving : Row → Entry → (Row → Bool) → Type 0
KeepsLiving r entry keep = (c : Row) → is_living c.life ≡ true → (is_end entry && is_pid r.pid c) ≡ false → keep c ≡ true

pub data Form (rows : List Row) (r : Row) (entry : Entry) (now : List Row) : Type 0 where
  quiet : (keep : Row → Bool) (f : Row → Row) → IsQuiet rows f → KeepsLiving r entry keep → now ≡ map f (filter keep rows) → Form rows r entry now
  forked : (n : ℕ) → ForksAs entry n → IsUnused rows n → now ≡ rows ++ newborn r n ∷ [] → Form rows r entry now
  regrouped : (p g : Pid) → RegroupsTo r entry p g → Regroups rows r p g → now ≡ map (regrouped_at p g) rows → Form rows r entry now
  leading : list_any (in_group r.pid) rows ≡ false → now ≡ map (leading_at r.pid) rows → Form rows r entry now

module _ (rows : List Row) (r : Row) (entry : Entry) where
  -- a map of every row
  every : (f : Row → Row) (now : List Row) → IsQuiet rows f → now ≡ map f rows → Form rows r entry now
  every f now q e = quiet all_stay f q (λ c a n. refl) (e ∙ ap (map f) (sym (filter-all rows)))

  -- a change of signals, of what was reported, or of exec
  mild : (f : Row → Row) → ((c : Row) → (f c).pid ≡ c.pid) → ((c : Row) → (f c).group ≡ c.group) → ((c : Row) → (f c).session ≡ c.session) → ((c : Row) → (f c).life ≡ c.life) → ((c : Row) → (f c).parent ≡ c.parent) → IsQuiet rows f
  mild f named group session life parent = record {
    pid = named;
    group = group;
    session = session;
    lived = λ c here a. ap is_living (sym (life c)) ∙ a;
    parent = λ c. inr (parent c);
  }

  same : Form rows r entry rows
  same = every (λ c. c) rows (mild (λ c. c) (λ c. refl) (λ c. refl) (λ c. refl) (λ c. refl) (λ c. refl)) (sym (map-id rows))

  lived_end : (b : Bool) (w : WaitStatus) (l : Life) → is_living (cond b (Ended w) l) ≡ true → is_living l ≡ true
  lived_end true w l a = cc
  lived_end false w l a = a

  parent_end : (b : Bool) (p : Pid) → ((cond b (pid 1) p).0 ≡ 1) ⊎ (cond b (pid 1) p ≡ p)
  parent_end true p = inl refl
  parent_end false p = inr refl

  ended_form : (w : WaitStatus) → is_end entry ≡ true → Form rows r entry (after_end rows r w)
  ended_form w end = quiet (is_left rows r w) (after_end_of rows r w) (record {
    pid = λ c. refl;
    group = λ c. refl;
    session = λ c. refl;
    lived = λ c here a. lived_end (is_pid r.pid c) w c.life a;
    parent = λ c. parent_end (is_parent r.pid c) c.parent;
  }) (λ c a n. other_left rows r w c (ap (λ b. b && is_pid r.pid c) (sym end) ∙ n) a) (ap (map (receives (sent_by_end rows r w))) (left_is rows r w) ∙ map-map (receives (sent_by_end rows r w)) (left r w) (filter (is_left rows r w) rows))

  forked_form : (p : Pid) (reply : Reply) → entry ≡ Called p Fork reply → allows rows r Fork reply ≡ true → Form rows r entry (after_fork rows r reply)
  forked_form p (Number n) is e = forked n (subst (λ x. ForksAs x n) (sym is) refl) (fresh_number rows n ((unrefused_number (fork_refusal rows r) n (is_fresh rows n) e).1)) refl
  forked_form p _ is e = same

  waited_form : (reply : Reply) → Form rows r entry (after_wait rows reply)
  waited_form (Child p w) = quiet (λ c. not (is_ended_at p c)) (reported_at p) (mild (reported_at p) (λ c. refl) (λ c. refl) (λ c. refl) (λ c. refl) (λ c. refl)) (λ c a n. living_stays (is_pid p c) c.life a) refl
  waited_form _ = same

  killed_form : (target : Target) (s : ℕ) (reply : Reply) → Form rows r entry (after_kill rows r target s reply)
  killed_form target s Fine =
      let f = receives (sent_by_kill r target s (signal_of s)) in
      every f (map f rows) (mild f (λ c. refl) (λ c. refl) (λ c. refl) (λ c. refl) (λ c. refl)) refl
  killed_form target s _ = same

  regrouped_form : (p : Pid) (t : ℕ) (q : ℤ) (reply : Reply) → entry ≡ Called p (Setpgid t q) reply → row_of rows r.pid ≡ Some r → allows rows r (Setpgid t q) reply ≡ true → Form rows r entry (after_setpgid rows r t q reply)
  regrouped_form p t (negsuc q) reply is there e = same
  regrouped_form p t (pos q) Fine is there e =
      regrouped (target_pid r t) (wanted_group r t q)
      (subst (λ x. RegroupsTo r x (target_pid r t) (wanted_group r t q)) (sym is) (refl, refl))
      (regroups rows r t (wanted_group r t q) there (unrefused_fine (regroup_refusal rows r (row_named rows r t) (wanted_group r t q)) true e)) refl
  regrouped_form p t (pos q) _ is there e = same

  leading_form : (reply : Reply) → allows rows r Setsid reply ≡ true → Form rows r entry (after_setsid rows r reply)
  leading_form (Number n) e =
      let a = unrefused_number (setsid_refusal rows r) n (n == r.pid.0) e in
      leading ((no_refusal (list_any (in_group r.pid) rows) EPERM None a.0).0) refl
  leading_form _ e = same

  acting_form : (o : Option Signal) (act : Act) (reply : Reply) → Form rows r entry (after_action rows r o act reply)
  acting_form None act reply = same
  acting_form (Some s) act Fine = every (acting_at r.pid s act) (map (acting_at r.pid s act) rows) (mild (acting_at r.pid s act) (λ c. refl) (λ c. refl) (λ c. refl) (λ c. refl) (λ c. refl)) refl
  acting_form (Some s) act _ = same

  call_form : (p : Pid) (call : Call) (reply : Reply) → entry ≡ Called p call reply → row_of rows r.pid ≡ Some r → allows rows r call reply ≡ true → Form rows r entry (after_call rows r call reply)
  call_form p Fork reply is there e = forked_form p reply is e
  call_form p Exec reply is there e = every (execed_at r.pid) (map (execed_at r.pid) rows) (mild (execed_at r.pid) (λ c. refl) (λ c. refl) (λ c. refl) (λ c. refl) (λ c. refl)) refl
  call_form p (Exit n) reply is there e = ended_form (status.Exited (n % 256)) (ap is_end is)
  call_form p (Waitpid sel stopped continued) reply is there e = waited_form reply
  call_form p (Kill target s) reply is there e = killed_form (target_of target) s reply
  call_form p (Setpgid t q) reply is there e = regrouped_form p t q reply is there e
  call_form p Setsid reply is there e = leading_form reply e
  call_form p (Action s act) reply is there e = acting_form (signal_of s) act reply
  call_form p (Mask set) reply is there e = every (masked_at r.pid set) (map (masked_at r.pid set) rows) (mild (masked_at r.pid set) (λ c. refl) (λ c. refl) (λ c. refl) (λ c. refl) (λ c. refl)) refl
  call_form p Getpid reply is there e = same
  call_form p Getppid reply is there e = same
  call_form p (Getpgid t) reply is there e = same
  call_form p (Getsid t) reply is there e = same
  call_form p Pending reply is there e = same
  call_form p Migrate reply is there e = same

  -- the one row whose life an event changes is a living one
  lived_at : (l : Life) (c : Row) → row_of rows r.pid ≡ Some r → is_living r.life ≡ true → row_of rows c.pid ≡ Some c → (b : Bool) → is_pid r.pid c ≡ b → is_living (cond b l c.life) ≡ true → is_living c.life ≡ true
  lived_at l c there lives here true is a = ap (λ x. is_living x.life) (one_row rows r.pid c r there here is) ∙ lives
  lived_at l c there lives here false is a = a

  event_form : (p : Pid) (event : Event) → entry ≡ Happened p event → row_of rows r.pid ≡ Some r → is_living r.life ≡ true → Form rows r entry (after_event rows r event)
  event_form p (Caught s) is there lives = every (delivered_at r.pid s) (map (delivered_at r.pid s) rows) (mild (delivered_at r.pid s) (λ c. refl) (λ c. refl) (λ c. refl) (λ c. refl) (λ c. refl)) refl
  event_form p (Discarded s) is there lives = every (delivered_at r.pid s) (map (delivered_at r.pid s) rows) (mild (delivered_at r.pid s) (λ c. refl) (λ c. refl) (λ c. refl) (λ c. refl) (λ c. refl)) refl
  event_form p (StoppedBy s) is there lives =
      let f : Row → Row = λ c. receives (sent_to_parent r) (stopped_at r.pid s c) in
      every f (map (receives (sent_to_parent r)) (map (stopped_at r.pid s) rows)) (record {
        pid = λ c. refl;
        group = λ c. refl;
        session = λ c. refl;
        lived = λ c here a. lived_at Stopped c there lives here (is_pid r.pid c) refl a;
        parent = λ c. inr refl;
      }) (map-map (receives (sent_to_parent r)) (stopped_at r.pid s) rows)
  event_form p (EndedBy s) is there lives = ended_form (status.Killed s) (ap is_end is)
  event_form p Continued is there lives =
      let f : Row → Row = λ c. receives (sent_to_parent r) (continued_at r.pid c) in
      every f (map (receives (sent_to_parent r)) (map (continued_at r.pid) rows)) (record {
        pid = λ c. refl;
        group = λ c. refl;
        session = λ c. refl;
        lived = λ c here a. lived_at Runs c there lives here (is_pid r.pid c) refl a;
        parent = λ c. inr refl;
      }) (map-map (receives (sent_to_parent r)) (continued_at r.pid) rows)
  event_form p Moved is there lives = same

pub step_form : (rows : List Row) (r : Row) (entry : Entry) → row_of rows r.pid ≡ Some r → is_living r.life ≡ true → row_verdict rows r entry ≡ Legal → Form rows r entry (row_after rows r entry)
step_form rows r (Called p call reply) there lives e = call_form rows r (Called p call reply) p call reply refl there ((call_allowed rows r call reply e).1)
step_form rows r (Happened p event) there lives e = event_form rows r (Happened p event) p event refl there lives
