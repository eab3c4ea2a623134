-- what a stage does while the shell lives: its row and its place change alone
use Rattle.std.proofs.Common.{◌≡◌, ◌≢◌, ◌==◌, ◌%◌, ◌⊎◌, inl, inr, ◌<◌, ℕ, suc, pos, Bool, true, false, cond, List, [], ◌∷◌, refl, sym, ap, ◌∙◌, subst, arith, None, Some, slice_get}
use Rattle.std.specs.Prelude.{map, option_and_then}
use Rattle.std.proofs.Math.Nat.{mod-eq_of_lt}
use Rattle.unix_names.specs.declared.Pid.{Pid}
use Rattle.unix_names.specs.declared.Signal.{Signal}
use Rattle.unix_names.specs.declared.Signal.TheVariants.{Stop, Term, Chld}
use Rattle.unix_names.specs.declared.Life.{Life}
use Rattle.unix_names.specs.declared.Life.TheVariants as life
use Rattle.unix_names.specs.declared.WaitStatus.{WaitStatus}
use Rattle.unix_names.specs.declared.WaitStatus.TheVariants as status
use Rattle.unix_names.specs.States.{is_living}
use Rattle.unix_names.specs.Sets.{has}
use Rattle.unix_names.proofs.SetLaws.{has-none}
use Rattle.unix_names.proofs.SignalLaws.{signal_of-number_of}
use Rattle.unix_calls.specs.declared.Call.{Call}
use Rattle.unix_calls.specs.declared.Call.TheVariants as calls
use Rattle.unix_calls.specs.declared.Reply.{Reply}
use Rattle.unix_calls.specs.declared.Reply.TheVariants.{Fine}
use Rattle.unix_calls.specs.declared.Event.{Event}
use Rattle.unix_calls.specs.declared.Event.TheVariants.{Caught, Discarded, StoppedBy, EndedBy, Continued, Moved as MovedEvent}
use Rattle.unix_calls.specs.declared.Entry.{Entry}
use Rattle.unix_calls.specs.declared.Entry.TheVariants.{Called, Happened}
use Rattle.unix_calls.specs.declared.Target.TheVariants.{One}
use Rattle.unix_calls.specs.declared.Statement.{Statement}
use Rattle.unix_calls.specs.declared.Statement.TheVariants as statement
use Rattle.unix_calls.specs.declared.Arg.TheVariants as arg
use Rattle.unix_calls.specs.declared.World.{World}
use Rattle.unix_calls.specs.Calls.{target_of}
use Rattle.signal_state.specs.Signals.{Signals}
use Rattle.signal_state.specs.Sig.{fresh, stopped_by, resumed, generated, generated_all}
use Rattle.process_table.specs.declared.Row.{Row}
use Rattle.process_table.specs.Rows.{is_pid, row_of}
use Rattle.kernel_rules.specs.Events.{can_call, may_happen, sent_by_event}
use Rattle.kernel_rules.specs.Kill.{is_permitted, kill_refusal, sent_by_kill, after_kill, sent_by_kill_call}
use Rattle.kernel_rules.specs.Calls.{allows, sent_by_call}
use Rattle.kernel_rules.specs.Replies.{is_first, is_fine}
use Rattle.kernel_model.specs.declared.verdict.Verdict.TheVariants.{Legal}
use Rattle.process_table.specs.Changes.{receives, stopped_at, continued_at}
use Rattle.kernel_rules.specs.Ending.{sent_to_parent, after_end, sent_by_end}
use Rattle.kernel_model.specs.Sound.{IsSound}
use Rattle.kernel_model.specs.Step.{process_of, verdict, after, row_after, row_verdict, sent, sent_at}
use Rattle.proc_image.specs.Scripts.{Progress, next_statement, call_or_exit, moved_on, after_reply_or_exit, passed}
use Rattle.proc_image.specs.Follows.{Running, after_entry, after_call, put, IsInOrder, AsksNext}
use Rattle.list_laws.proofs.Filters.{some_same}
use Rattle.list_laws.proofs.Finding.{same_number}
use Rattle.kernel_laws.proofs.Rows.{row_pid, row_here}
use Rattle.kernel_laws.proofs.Legal.{Actor, actor, after_is, call_allowed, event_allowed}
use Rattle.kernel_laws.proofs.Forms.{ForksAs}
use Rattle.kernel_laws.proofs.Others.{nothing_sent, first as pick_first, second as pick_second}
use Rattle.job_laws.specs.Orders.{Mark, Absent, Born, Seen, Member, Going, Reaped}
use Rattle.job_plans.specs.Acts.{stage_statements}
use Rattle.job_laws.specs.Forks.{shell, pid}
use Rattle.job_laws.proofs.Family.{IsChild, IsFamily, not_same, end_elsewhere, end_own, end_sends}
use Rattle.job_laws.proofs.Core.{first, second, third, IsLoose, lives, over, IsStageAs, HasStage}
use Rattle.job_laws.proofs.Lookups.{map_elsewhere, map_own, told_elsewhere, told_own, target_one, kill_allowed, fine_is, sendable}
use Rattle.job_laws.proofs.Signals.{IsOfTwo, no_catch, no_discard, stop_is, end_is, empty_two, halting_two, first_halts, then_halted, halting_waits, halted_waits, loose_two, loose_stopped, loose_resumed}

-- ---- what an event makes of a stage's row
abbrev pub stop_row : Row → Row
stop_row r = record r { life = life.Stopped; change = Some (status.Stopped Stop); sig = stopped_by r.sig Stop }

abbrev pub end_row : WaitStatus → Row → Row
end_row w r = record r { life = life.Ended w; change = None }

abbrev pub go_row : Row → Row
go_row r = record r { life = life.Runs; change = Some status.Continued; sig = resumed r.sig }

pub none_pends : (x : Signals) (s : Signal) → x.pending ≡ 0 → has x.pending s ≡ true → ⊥
none_pends x s e h = let n = ap (λ m. has m s) e ∙ has-none s in cc

ended_not : (l : Life) (w : WaitStatus) → l ≡ life.Ended w → is_living l ≡ true → ⊥
ended_not l w e a = let n = ap is_living e in cc

module _ (e k : ℕ) (r : Row) (alive : is_living r.life ≡ true) where
  pub plain_of : (m : Mark) → IsStageAs m e k r → (r.sig.caught ≡ 0) × IsOfTwo r.sig
  plain_of Absent s = absurd s
  plain_of Born (first a b c x) = (ap (λ y. y.caught) x, empty_two r.sig (ap (λ y. y.pending) x))
  plain_of Born (second a b c x) = (ap (λ y. y.caught) x, λ s h. inl (halting_two s (ap (λ y. has y.pending s) (sym x) ∙ h)))
  plain_of Born (third a b c x) = (ap (λ y. y.caught) x, empty_two r.sig (ap (λ y. y.pending) x))
  plain_of Seen h = (ap (λ y. y.caught) h.sig, empty_two r.sig (ap (λ y. y.pending) h.sig))
  plain_of Member h = (ap (λ y. y.caught) h.sig, empty_two r.sig (ap (λ y. y.pending) h.sig))
  plain_of (Going b) (lives p a loose) = (loose.caught, loose_two b r.sig loose)
  plain_of (Going b) (over w l is) = absurd (ended_not r.life w l alive)
  plain_of Reaped s = absurd s

  stopped_state : (m : Mark) → IsStageAs m e k r → has r.sig.pending Stop ≡ true → IsStageAs m e k (stop_row r)
  stopped_state Absent s h = absurd s
  stopped_state Born (first a b c x) h = absurd (none_pends r.sig Stop (ap (λ y. y.pending) x) h)
  stopped_state Born (second a b c x) h = third a refl refl (ap (λ y. stopped_by y Stop) x ∙ then_halted)
  stopped_state Born (third a b c x) h = absurd (none_pends r.sig Stop (ap (λ y. y.pending) x) h)
  stopped_state Seen s h = absurd (none_pends r.sig Stop (ap (λ y. y.pending) s.sig) h)
  stopped_state Member s h = absurd (none_pends r.sig Stop (ap (λ y. y.pending) s.sig) h)
  stopped_state (Going b) (lives p a loose) h = lives p refl (loose_stopped b r.sig Stop loose)
  stopped_state (Going b) (over w l is) h = absurd (ended_not r.life w l alive)
  stopped_state Reaped s h = absurd s

  term_not : (s : Signal) → s ≡ Term → s ≡ Stop → ⊥
  term_not s a b = let n : Term ≡ Stop = sym a ∙ b in cc

  ended_state : (m : Mark) → IsStageAs m e k r → has r.sig.pending Term ≡ true → IsStageAs m e k (end_row (status.Killed Term) r)
  ended_state Absent s h = absurd s
  ended_state Born (first a b c x) h = absurd (none_pends r.sig Term (ap (λ y. y.pending) x) h)
  ended_state Born (second a b c x) h = absurd (term_not Term refl (halting_two Term (ap (λ y. has y.pending Term) (sym x) ∙ h)))
  ended_state Born (third a b c x) h = absurd (none_pends r.sig Term (ap (λ y. y.pending) x) h)
  ended_state Seen s h = absurd (none_pends r.sig Term (ap (λ y. y.pending) s.sig) h)
  ended_state Member s h = absurd (none_pends r.sig Term (ap (λ y. y.pending) s.sig) h)
  ended_state (Going b) (lives p a loose) h = over (status.Killed Term) refl (elim (loose.only Term h) [ inl i ↦ absurd (term_not Term refl i) | inr i ↦ inr (refl, i.1) ])
  ended_state (Going b) (over w l is) h = absurd (ended_not r.life w l alive)
  ended_state Reaped s h = absurd s

  not_due : (x : Signals) → x.due ≡ false → x.due ≡ true → ⊥
  not_due x a b = cc

  going_state : (m : Mark) → IsStageAs m e k r → r.sig.due ≡ true → IsStageAs m e k (go_row r)
  going_state Absent s h = absurd s
  going_state Born (first a b c x) h = absurd (not_due r.sig (ap (λ y. y.due) x) h)
  going_state Born (second a b c x) h = absurd (not_due r.sig (ap (λ y. y.due) x) h)
  going_state Born (third a b c x) h = absurd (not_due r.sig (ap (λ y. y.due) x) h)
  going_state Seen s h = absurd (not_due r.sig (ap (λ y. y.due) s.sig) h)
  going_state Member s h = absurd (not_due r.sig (ap (λ y. y.due) s.sig) h)
  going_state (Going b) (lives p a loose) h = lives p refl (loose_resumed b r.sig loose)
  going_state (Going b) (over w l is) h = absurd (ended_not r.life w l alive)
  going_state Reaped s h = absurd s

  false_true : (b : Bool) → b ≡ false → b ≡ true → ⊥
  false_true b x y = cc

  -- what a stage that may call does next: it stops itself, asks for its pid, or ends
  pub data Does (m : Mark) : Type 0 where
    halts : m ≡ Born → k ≡ 0 → r.life ≡ life.Runs → r.change ≡ None → r.sig ≡ fresh → Does m
    asks : (b : Bool) → m ≡ Going b → k ≡ 1 → IsLoose b r.sig → Does m
    exits : (b : Bool) → m ≡ Going b → k ≡ 2 → Does m

  pub does : (m : Mark) → IsStageAs m e k r → can_call r ≡ true → Does m
  does Absent s h = absurd s
  does Born (first a b c x) h = halts refl a b c x
  does Born (second a b c x) h = absurd (false_true (can_call r) (halting_waits r x) h)
  does Born (third a b c x) h = absurd (false_true (can_call r) (halted_waits r x) h)
  does Seen s h = absurd (false_true (can_call r) (halted_waits r s.sig) h)
  does Member s h = absurd (false_true (can_call r) (halted_waits r s.sig) h)
  does (Going b) (lives p a loose) h = elim p [ inl one ↦ asks b refl one loose | inr two ↦ exits b refl two ]
  does (Going b) (over w l is) h = absurd (ended_not r.life w l alive)
  does Reaped s h = absurd s

-- a row with the same frame
child_with : (r r' : Row) → IsChild r → r'.pid ≡ r.pid → r'.parent ≡ r.parent → r'.session ≡ r.session → r'.uid ≡ r.uid → r'.execed ≡ r.execed → IsChild r'
child_with r r' k n p s u x = record { parent = p ∙ k.parent; session = s ∙ k.session; uid = u ∙ k.uid; execed = x ∙ k.execed; other = λ e. k.other (ap (λ q. q.0) (sym n) ∙ e) }

module _ (world : World) (rows : List Row) (sound : IsSound rows) (family : IsFamily rows) (running : Running) (q : ℕ) (m : Mark) (e : ℕ) (g : Pid) (h : HasStage world q m e g rows running) (low : 2 < q) (status_low : e < 256) where
  -- only the stage's own row and place change, and they stand as before
  pub record Moved (entry : Entry) : Type 0 where
    pub stage : HasStage world q m e g (after rows entry) (after_entry world running entry)
    pub elsewhere : (x : Pid) → x.0 ≢ q → row_of (after rows entry) x ≡ row_of rows x
    pub others : (x : ℕ) → x ≢ q → after_entry world running entry x ≡ running x
    pub no_fork : (n : ℕ) → ForksAs entry n → ⊥

  named : h.row.pid ≡ pid q
  named = row_pid rows (pid q) h.row h.there

  own : is_pid h.row.pid h.row ≡ true
  own = same_number h.row.pid.0

  here : row_of rows h.row.pid ≡ Some h.row
  here = row_here rows (pid q) h.row h.there

  other_row : (c : Row) → is_pid (pid q) c ≡ false → is_pid h.row.pid c ≡ false
  other_row c n = ap (λ p. is_pid p c) named ∙ n

  -- ---- events
  event_moves : (event : Event) (now : List Row) (r' : Row) → row_after rows h.row (Happened (pid q) event) ≡ now → ((x : Pid) → x.0 ≢ q → row_of now x ≡ row_of rows x) → row_of now (pid q) ≡ Some r' →
      IsChild r' → r'.group ≡ h.row.group → IsStageAs m e h.at.position r' → Moved (Happened (pid q) event)
  event_moves event now r' is elsewhere there child group state =
      let to : after rows (Happened (pid q) event) ≡ now = after_is rows (Happened (pid q) event) h.row h.there ∙ is in
      record {
        stage = record { row = r'; there = ap (λ t. row_of t (pid q)) to ∙ there; child = child; group = group ∙ h.group; at = h.at; runs = h.runs; script = h.script; state = state };
        elsewhere = λ x ne. ap (λ t. row_of t x) to ∙ elsewhere x ne;
        others = λ x ne. refl;
        no_fork = λ n f. f;
      }

  pub event_moved : (event : Event) → is_living h.row.life ≡ true → row_verdict rows h.row (Happened (pid q) event) ≡ Legal → Moved (Happened (pid q) event)
  event_moved event alive legal = go event (event_allowed rows h.row event legal)
    where
      plain : (h.row.sig.caught ≡ 0) × IsOfTwo h.row.sig
      plain = plain_of e h.at.position h.row alive m h.state

      stop_own : stopped_at h.row.pid Stop h.row ≡ stop_row h.row
      stop_own = rw own refl

      go_own : continued_at h.row.pid h.row ≡ go_row h.row
      go_own = rw own refl

      go : (event : Event) → may_happen rows h.row event ≡ true → Moved (Happened (pid q) event)
      go (Caught s) may = absurd (no_catch rows h.row plain.0 plain.1 s may)
      go (Discarded s) may = absurd (no_discard rows h.row plain.0 plain.1 s may)
      go (StoppedBy s) may =
          let is = stop_is rows h.row plain.0 plain.1 s may in
          let child = child_with h.row (stop_row h.row) h.child refl refl refl refl refl in
          subst (λ t. Moved (Happened (pid q) (StoppedBy t))) (sym is.0) (event_moves (StoppedBy Stop) _ (stop_row h.row) refl
          (told_elsewhere rows family h.row h.child.parent (stopped_at h.row.pid Stop) q (λ c. refl) (λ c n. rw (other_row c n) refl))
          (told_own rows family h.row h.child.parent (stopped_at h.row.pid Stop) (pid q) (λ c. refl) h.there (subst IsChild (sym stop_own) child) ∙ ap Some stop_own)
          child refl (stopped_state e h.at.position h.row alive m h.state is.1))
      go (EndedBy s) may =
          let is = end_is rows h.row plain.0 plain.1 s may in
          subst (λ t. Moved (Happened (pid q) (EndedBy t))) (sym is.0) (event_moves (EndedBy Term) _ (end_row (status.Killed Term) h.row) refl
          (λ x ne. end_elsewhere rows sound family h.row here h.child (status.Killed Term) x (λ i. ne (i ∙ ap (λ p. p.0) named)))
          (ap (row_of (after_end rows h.row (status.Killed Term))) (sym named) ∙ end_own rows sound family h.row here h.child (status.Killed Term))
          (child_with h.row (end_row (status.Killed Term) h.row) h.child refl refl refl refl refl) refl (ended_state e h.at.position h.row alive m h.state is.1))
      go Continued may =
          let child = child_with h.row (go_row h.row) h.child refl refl refl refl refl in
          event_moves Continued _ (go_row h.row) refl
          (told_elsewhere rows family h.row h.child.parent (continued_at h.row.pid) q (λ c. refl) (λ c n. rw (other_row c n) refl))
          (told_own rows family h.row h.child.parent (continued_at h.row.pid) (pid q) (λ c. refl) h.there (subst IsChild (sym go_own) child) ∙ ap Some go_own)
          child refl (going_state e h.at.position h.row alive m h.state may)
      go MovedEvent may = event_moves MovedEvent rows h.row refl (λ x ne. refl) h.there h.child refl h.state

  -- ---- calls
  -- the statement at its place
  pub next_is : (k : ℕ) → h.at.position ≡ k → next_statement world h.at ≡ slice_get (stage_statements e) k
  next_is k is = ap (option_and_then (λ script. slice_get script.statements h.at.position)) h.script ∙ ap (slice_get (stage_statements e)) is

  pub asked : (k : ℕ) (s : Statement) (call : Call) → h.at.position ≡ k → slice_get (stage_statements e) k ≡ Some s → AsksNext world (pid q) call (running q) → call ≡ call_or_exit (pid q) h.at (Some s)
  asked k s call is there next = subst (AsksNext world (pid q) call) h.runs next ∙ ap (call_or_exit (pid q) h.at) (next_is k is ∙ there)

  -- a call that goes on to the next statement
  call_moves : (call : Call) (reply : Reply) (k : ℕ) (s : Statement) (now : List Row) (r' : Row) → h.at.position ≡ k → slice_get (stage_statements e) k ≡ Some s →
      ((at : Progress) → after_call world (pid q) call reply running (Some at) ≡ put q (Some (moved_on world at reply)) running) → after_reply_or_exit reply h.at (Some s) ≡ passed h.at →
      row_after rows h.row (Called (pid q) call reply) ≡ now → ((x : Pid) → x.0 ≢ q → row_of now x ≡ row_of rows x) → row_of now (pid q) ≡ Some r' →
      IsChild r' → r'.group ≡ h.row.group → IsStageAs m e (suc k) r' → ((n : ℕ) → ForksAs (Called (pid q) call reply) n → ⊥) → Moved (Called (pid q) call reply)
  call_moves call reply k s now r' at there plain passes is elsewhere found child group state no_fork =
      let to : after rows (Called (pid q) call reply) ≡ now = after_is rows (Called (pid q) call reply) h.row h.there ∙ is in
      let moved : moved_on world h.at reply ≡ passed h.at = ap (after_reply_or_exit reply h.at) (next_is k at ∙ there) ∙ passes in
      let runs : after_entry world running (Called (pid q) call reply) ≡ put q (Some (passed h.at)) running =
      ap (after_call world (pid q) call reply running) h.runs ∙ plain h.at ∙ ap (λ a. put q (Some a) running) moved in
      record {
        stage = record {
          row = r';
          there = ap (λ t. row_of t (pid q)) to ∙ found;
          child = child;
          group = group ∙ h.group;
          at = passed h.at;
          runs = ap (λ f. f q) runs ∙ pick_first (q == q) (Some (passed h.at)) (running q) (same_number q);
          script = h.script;
          state = subst (λ n. IsStageAs m e n r') (ap suc (sym at)) state;
        };
        elsewhere = λ x ne. ap (λ t. row_of t x) to ∙ elsewhere x ne;
        others = λ x ne. ap (λ f. f x) runs ∙ pick_second (x == q) (Some (passed h.at)) (running x) (not_same x q ne);
        no_fork = no_fork;
      }

  -- the signal by which a stage stops itself
  abbrev stop_sent : Row → List Signal
  stop_sent c = sent_by_kill h.row (One (pid q)) 19 (Some Stop) c

  abbrev halt_row : Row
  halt_row = record h.row { sig = generated h.row.sig Stop }

  pub call_moved : (call : Call) (reply : Reply) → is_living h.row.life ≡ true → row_verdict rows h.row (Called (pid q) call reply) ≡ Legal → AsksNext world (pid q) call (running q) → Moved (Called (pid q) call reply)
  call_moved call reply alive legal next =
      let may = call_allowed rows h.row call reply legal in
      go (does e h.at.position h.row alive m h.state may.0) may.1
    where
      mine : is_pid (pid q) h.row ≡ true
      mine = ap (λ p. h.row.pid.0 == p.0) (sym named) ∙ own

      unsent : (c : Row) → record c { sig = generated_all c.sig (cond (is_living c.life) [] []) } ≡ c
      unsent c = ap (λ (x : Signals). record c { sig = x }) (nothing_sent (is_living c.life) c.sig)

      stop_own : receives stop_sent h.row ≡ halt_row
      stop_own = rw (alive, mine, h.child.uid) refl

      go : Does e h.at.position h.row alive m → allows rows h.row call reply ≡ true → Moved (Called (pid q) call reply)
      go (halts is at l c x) ok =
          let asked_it = asked 0 (statement.Kill false arg.Own 19) call at refl next in
          let one = target_one q (omega (arith, low)) in
          let none = ap (λ t. kill_refusal rows h.row t 19) one ∙ kill_allowed rows h.row h.row (One (pid q)) 19 h.child.uid (sendable Stop) (not_same q 1 (omega (arith, low))) here mine in
          let ok_it : allows rows h.row (calls.Kill (pos q) 19) reply ≡ true = ap (λ d. allows rows h.row d reply) (sym asked_it) ∙ ok in
          let fine = fine_is reply (ap (λ o. is_first o reply (is_fine reply)) (sym none) ∙ ok_it) in
          subst (λ d. Moved (Called (pid q) d reply)) (sym asked_it) (subst (λ y. Moved (Called (pid q) (calls.Kill (pos q) 19) y)) (sym fine)
          (call_moves (calls.Kill (pos q) 19) Fine 0 (statement.Kill false arg.Own 19) (map (receives stop_sent) rows) halt_row at refl (λ a. refl) refl
          (ap (λ t. after_kill rows h.row t 19 Fine) one ∙ ap (λ o. map (receives (sent_by_kill h.row (One (pid q)) 19 o)) rows) (signal_of-number_of Stop))
          (map_elsewhere rows family (receives stop_sent) q (λ c. refl) (λ c n. rw n (unsent c)))
          (map_own rows family (receives stop_sent) (pid q) h.row (λ c. refl) h.there ∙ ap Some stop_own)
          (child_with h.row halt_row h.child refl refl refl refl refl) refl
          (subst (λ n. IsStageAs n e 1 halt_row) (sym is) (second refl l c (ap (λ y. generated y Stop) x ∙ first_halts))) (λ n f. f)))
      go (asks b is at loose) ok =
          let asked_it = asked 1 statement.Getpid call at refl next in
          subst (λ d. Moved (Called (pid q) d reply)) (sym asked_it) (call_moves calls.Getpid reply 1 statement.Getpid rows h.row at refl (λ a. refl) refl refl (λ x ne. refl) h.there h.child refl
          (subst (λ n. IsStageAs n e 2 h.row) (sym is) (lives (inr refl) alive loose)) (λ n f. f))
      go (exits b is at) ok =
          let asked_it = asked 2 (statement.Exit e) call at refl next in
          subst (λ d. Moved (Called (pid q) d reply)) (sym asked_it) (call_moves (calls.Exit e) reply 2 (statement.Exit e) (after_end rows h.row (status.Exited e)) (end_row (status.Exited e) h.row) at refl (λ a. refl) refl
          (ap (λ n. after_end rows h.row (status.Exited n)) (mod-eq_of_lt status_low))
          (λ x ne. end_elsewhere rows sound family h.row here h.child (status.Exited e) x (λ i. ne (i ∙ ap (λ p. p.0) named)))
          (ap (row_of (after_end rows h.row (status.Exited e))) (sym named) ∙ end_own rows sound family h.row here h.child (status.Exited e))
          (child_with h.row (end_row (status.Exited e) h.row) h.child refl refl refl refl refl) refl
          (subst (λ n. IsStageAs n e 3 (end_row (status.Exited e) h.row)) (sym is) (over (status.Exited e) refl (inl refl))) (λ n f. f))

  -- each legal entry of a stage, in its script's order
  pub stage_moved : (entry : Entry) → process_of entry ≡ pid q → verdict rows entry ≡ Legal → IsInOrder world running entry → Moved entry
  stage_moved entry is legal order = go entry is (actor rows entry legal) order
    where
      go : (entry : Entry) → process_of entry ≡ pid q → Actor rows entry → IsInOrder world running entry → Moved entry
      go (Called p call reply) is a order =
          let same : a.row ≡ h.row = some_same a.row h.row (sym a.there ∙ ap (row_of rows) is ∙ h.there) in
          subst (λ x. Moved (Called x call reply)) (sym is)
          (call_moved call reply (ap (λ r. is_living r.life) (sym same) ∙ a.lives) (subst (λ r. row_verdict rows r (Called p call reply) ≡ Legal) same a.legal) (subst (λ (x : Pid). AsksNext world x call (running x.0)) is order))
      go (Happened p event) is a order =
          let same : a.row ≡ h.row = some_same a.row h.row (sym a.there ∙ ap (row_of rows) is ∙ h.there) in
          subst (λ x. Moved (Happened x event)) (sym is)
          (event_moved event (ap (λ r. is_living r.life) (sym same) ∙ a.lives) (subst (λ r. row_verdict rows r (Happened p event) ≡ Legal) same a.legal))

  -- a stage that asks for its pid was let go
  pub getpid_let_go : (reply : Reply) → verdict rows (Called (pid q) calls.Getpid reply) ≡ Legal → IsInOrder world running (Called (pid q) calls.Getpid reply) → (b : Bool) × (m ≡ Going b)
  getpid_let_go reply legal order =
      let a = actor rows (Called (pid q) calls.Getpid reply) legal in
      let same : a.row ≡ h.row = some_same a.row h.row (sym a.there ∙ h.there) in
      let may : can_call h.row ≡ true = ap can_call (sym same) ∙ (call_allowed rows a.row calls.Getpid reply a.legal).0 in
      let alive : is_living h.row.life ≡ true = ap (λ r. is_living r.life) (sym same) ∙ a.lives in
      go alive (does e h.at.position h.row alive m h.state may)
    where
      go : (alive : is_living h.row.life ≡ true) → Does e h.at.position h.row alive m → (b : Bool) × (m ≡ Going b)
      go alive (halts is at l c x) = let no : calls.Getpid ≡ calls.Kill (pos q) 19 = asked 0 (statement.Kill false arg.Own 19) calls.Getpid at refl order in cc
      go alive (asks b is at loose) = (b, is)
      go alive (exits b is at) = (b, is)

  -- which calls a stage makes
  pub stage_call : (call : Call) (reply : Reply) → verdict rows (Called (pid q) call reply) ≡ Legal → IsInOrder world running (Called (pid q) call reply) → (call ≡ calls.Kill (pos q) 19) ⊎ ((call ≡ calls.Getpid) ⊎ (call ≡ calls.Exit e))
  stage_call call reply legal order =
      let a = actor rows (Called (pid q) call reply) legal in
      let same : a.row ≡ h.row = some_same a.row h.row (sym a.there ∙ h.there) in
      let may : can_call h.row ≡ true = ap can_call (sym same) ∙ (call_allowed rows a.row call reply a.legal).0 in
      let alive : is_living h.row.life ≡ true = ap (λ r. is_living r.life) (sym same) ∙ a.lives in
      go alive (does e h.at.position h.row alive m h.state may)
    where
      go : (alive : is_living h.row.life ≡ true) → Does e h.at.position h.row alive m → (call ≡ calls.Kill (pos q) 19) ⊎ ((call ≡ calls.Getpid) ⊎ (call ≡ calls.Exit e))
      go alive (halts is at l c x) = inl (asked 0 (statement.Kill false arg.Own 19) call at refl order)
      go alive (asks b is at loose) = inr (inl (asked 1 statement.Getpid call at refl order))
      go alive (exits b is at) = inr (inr (asked 2 (statement.Exit e) call at refl order))

  -- it sends no other process anything but CHLD to the shell, and itself nothing but STOP
  pub stage_sends : (entry : Entry) → process_of entry ≡ pid q → verdict rows entry ≡ Legal → IsInOrder world running entry → (c : Row) → is_pid shell c ≡ false → (sent rows entry c ≡ []) ⊎ (sent rows entry c ≡ Stop ∷ [])
  stage_sends entry is legal order c other = go entry is legal order
    where
      to_parent : sent_to_parent h.row c ≡ []
      to_parent = ap (λ p. cond (is_pid p c) (Chld ∷ []) []) h.child.parent ∙ ap (λ b. cond b (Chld ∷ []) []) other

      by_end : (w : WaitStatus) → sent_by_end rows h.row w c ≡ []
      by_end w = end_sends rows sound family h.row here h.child w c ∙ to_parent

      choice : (b : Bool) → (cond b (Stop ∷ []) [] ≡ []) ⊎ (cond b (Stop ∷ []) [] ≡ Stop ∷ [])
      choice true = inr refl
      choice false = inl refl

      by_kill : (reply : Reply) → (sent_by_kill_call h.row (target_of (pos q)) 19 reply c ≡ []) ⊎ (sent_by_kill_call h.row (target_of (pos q)) 19 reply c ≡ Stop ∷ [])
      by_kill Fine = subst (λ o. (sent_by_kill h.row (target_of (pos q)) 19 o c ≡ []) ⊎ (sent_by_kill h.row (target_of (pos q)) 19 o c ≡ Stop ∷ [])) (sym (signal_of-number_of Stop)) (choice (is_permitted h.row (target_of (pos q)) 19 c))
      by_kill _ = inl refl

      by_call : (call : Call) (reply : Reply) → (call ≡ calls.Kill (pos q) 19) ⊎ ((call ≡ calls.Getpid) ⊎ (call ≡ calls.Exit e)) → (sent_by_call rows h.row call reply c ≡ []) ⊎ (sent_by_call rows h.row call reply c ≡ Stop ∷ [])
      by_call call reply (inl i) = subst (λ d. (sent_by_call rows h.row d reply c ≡ []) ⊎ (sent_by_call rows h.row d reply c ≡ Stop ∷ [])) (sym i) (by_kill reply)
      by_call call reply (inr (inl i)) = inl (ap (λ d. sent_by_call rows h.row d reply c) i)
      by_call call reply (inr (inr i)) = inl (ap (λ d. sent_by_call rows h.row d reply c) i ∙ by_end (status.Exited (e % 256)))

      by_event : (event : Event) → sent_by_event rows h.row event c ≡ []
      by_event (StoppedBy s) = to_parent
      by_event (EndedBy s) = by_end (status.Killed s)
      by_event Continued = to_parent
      by_event _ = refl

      go : (entry : Entry) → process_of entry ≡ pid q → verdict rows entry ≡ Legal → IsInOrder world running entry → (sent rows entry c ≡ []) ⊎ (sent rows entry c ≡ Stop ∷ [])
      go (Called p call reply) is legal order =
          let at : sent rows (Called p call reply) c ≡ sent_by_call rows h.row call reply c = ap (λ x. sent_at rows (row_of rows x) (Called p call reply) c) is ∙ ap (λ o. sent_at rows o (Called p call reply) c) h.there in
          subst (λ l. (l ≡ []) ⊎ (l ≡ Stop ∷ [])) (sym at) (by_call call reply (stage_call call reply (subst (λ x. verdict rows (Called x call reply) ≡ Legal) is legal) (subst (λ x. IsInOrder world running (Called x call reply)) is order)))
      go (Happened p event) is legal order = inl (ap (λ x. sent_at rows (row_of rows x) (Happened p event) c) is ∙ ap (λ o. sent_at rows o (Happened p event) c) h.there ∙ by_event event)
