-- each step keeps a table sound
use Rattle.std.proofs.Common.{◌≡◌, ◌==◌, ◌&&◌, ◌||◌, ◌<◌, ◌⊎◌, inl, inr, ◌%◌, ℕ, ℤ, pos, negsuc, Bool, true, false, cond, not, List, refl, sym, ap, ◌∙◌, subst, Option, None, Some}
use Rattle.std.specs.Prelude.{nat_le, map}
use Rattle.std.specs.List.{list_any}
use Rattle.std.proofs.lemmas.Bool.{eqb-true, or_parts, leb-false}
use Rattle.unix_names.specs.declared.Pid.{Pid}
use Rattle.unix_names.specs.declared.Act.{Act}
use Rattle.unix_names.specs.declared.Errno.TheVariants.{EPERM, ESRCH, EACCES, EAGAIN}
use Rattle.unix_names.specs.declared.WaitStatus.TheVariants as status
use Rattle.unix_names.specs.declared.Signal.{Signal}
use Rattle.unix_names.specs.declared.Signal.TheVariants.{Kill as KillSignal, Stop as StopSignal}
use Rattle.unix_names.specs.Signals.{signal_of}
use Rattle.unix_names.specs.States.{is_living}
use Rattle.unix_calls.specs.declared.Call.{Call}
use Rattle.unix_calls.specs.declared.Call.TheVariants.{Fork, Exec, Exit, Waitpid, Kill, Setpgid, Setsid, Action, Mask}
use Rattle.unix_calls.specs.declared.Reply.{Reply}
use Rattle.unix_calls.specs.declared.Reply.TheVariants.{Fine, Number, Child}
use Rattle.unix_calls.specs.declared.Event.{Event}
use Rattle.unix_calls.specs.declared.Event.TheVariants.{Caught, Discarded, StoppedBy, EndedBy, Continued, Moved}
use Rattle.unix_calls.specs.declared.Entry.{Entry}
use Rattle.unix_calls.specs.declared.Entry.TheVariants.{Called, Happened}
use Rattle.unix_calls.specs.declared.Target.{Target}
use Rattle.unix_calls.specs.Calls.{target_of}
use Rattle.process_table.specs.declared.Row.{Row}
use Rattle.kernel_model.specs.declared.verdict.Verdict.TheVariants.{Legal}
use Rattle.process_table.specs.Rows.{pid, is_same, in_group, in_session, is_session_leader, row_of, row_named, child_count}
use Rattle.kernel_rules.specs.Setpgid.{target_pid, wanted_group, is_own, is_execed_child, is_in_session_group, is_fixed_in_group, regroup_refusal, after_setpgid}
use Rattle.kernel_rules.specs.Setsid.{setsid_refusal, after_setsid}
use Rattle.kernel_rules.specs.Fork.{fork_refusal, is_fresh, after_fork}
use Rattle.kernel_rules.specs.Action.{action_refusal, after_action}
use Rattle.kernel_rules.specs.Calls.{allows, after_call}
use Rattle.kernel_rules.specs.Ending.{sent_to_parent}
use Rattle.kernel_rules.specs.Kill.{sent_by_kill, after_kill}
use Rattle.process_table.specs.Changes.{stopped_at, continued_at, regrouped_at}
use Rattle.kernel_rules.specs.Events.{after_event}
use Rattle.kernel_rules.specs.Wait.{after_wait}
use Rattle.kernel_model.specs.Step.{row_after, row_verdict}
use Rattle.kernel_model.specs.Sound.{IsSound}
use Rattle.kernel_laws.specs.Tables.{StepKeepsSound}
use Rattle.kernel_laws.proofs.Rows.{row_pid, row_here}
use Rattle.kernel_laws.proofs.Changes.{received_sound, masked_sound, acting_sound, delivered_sound, execed_sound, stopped_sound, continued_sound, reported_sound}
use Rattle.kernel_laws.proofs.Ends.{end_sound}
use Rattle.kernel_laws.proofs.Forks.{fresh_number, fork_sound}
use Rattle.kernel_laws.proofs.Groups.{leading_sound, regrouped_sound}
use Rattle.kernel_laws.proofs.Legal.{not_false, actor, after_is, call_allowed, unrefused_fine, unrefused_number, no_refusal}

-- ---- fork
fork_keeps : (rows : List Row) (r : Row) (reply : Reply) → IsSound rows → row_of rows r.pid ≡ Some r → is_living r.life ≡ true → allows rows r Fork reply ≡ true → IsSound (after_fork rows r reply)
fork_keeps rows r (Number n) sound there lives e =
    let a = unrefused_number (fork_refusal rows r) n (is_fresh rows n) e in
    let room : child_count rows r.pid < 64 = leb-false 64 (child_count rows r.pid) ((no_refusal (nat_le 64 (child_count rows r.pid)) EAGAIN None a.0).0) in
    fork_sound rows r n sound there lives room (fresh_number rows n a.1)
fork_keeps rows r _ sound there lives e = sound

-- ---- waitpid and kill
wait_keeps : (rows : List Row) (reply : Reply) → IsSound rows → IsSound (after_wait rows reply)
wait_keeps rows (Child p w) sound = reported_sound p rows sound
wait_keeps rows _ sound = sound

kill_keeps : (rows : List Row) (r : Row) (target : Target) (s : ℕ) (reply : Reply) → IsSound rows → IsSound (after_kill rows r target s reply)
kill_keeps rows r target s Fine sound = received_sound (sent_by_kill r target s (signal_of s)) rows sound
kill_keeps rows r target s _ sound = sound

-- ---- setpgid
-- the target of a setpgid, and what its group may be
pub record Regroups (rows : List Row) (r : Row) (p g : Pid) : Type 0 where
  pub target : Row
  pub is : target.pid ≡ p
  pub there : row_of rows target.pid ≡ Some target
  pub own : is_own r target ≡ true
  pub fits : is_fixed_in_group rows r target g ≡ false

named_row : (rows : List Row) (r c : Row) (t : ℕ) → row_of rows r.pid ≡ Some r → row_named rows r t ≡ Some c → row_of rows (target_pid r t) ≡ Some c
named_row rows r c t there e = go (t == 0) e
  where
    go : (b : Bool) → cond b (Some r) (row_of rows (pid t)) ≡ Some c → row_of rows (cond b r.pid (pid t)) ≡ Some c
    go true h = there ∙ h
    go false h = h

pub regroups : (rows : List Row) (r : Row) (t : ℕ) (g : Pid) → row_of rows r.pid ≡ Some r → regroup_refusal rows r (row_named rows r t) g ≡ None → Regroups rows r (target_pid r t) g
regroups rows r t g there e = go (row_named rows r t) refl e
  where
    go : (o : Option Row) → row_named rows r t ≡ o → regroup_refusal rows r o g ≡ None → Regroups rows r (target_pid r t) g
    go None h l = cc
    go (Some c) h l =
        let a = no_refusal (not (is_own r c)) ESRCH (cond (is_execed_child r c) (Some EACCES) (cond (is_fixed_in_group rows r c g) (Some EPERM) None)) l in
        let b = no_refusal (is_execed_child r c) EACCES (cond (is_fixed_in_group rows r c g) (Some EPERM) None) a.1 in
        let d = no_refusal (is_fixed_in_group rows r c g) EPERM None b.1 in
        let found = named_row rows r c t there h in
        record { target = c; is = row_pid rows (target_pid r t) c found; there = row_here rows (target_pid r t) c found; own = not_false (is_own r c) a.0; fits = d.0 }

-- what a target that isn't fixed may go to
pub free_target : (rows : List Row) (r c : Row) (g : Pid) → is_fixed_in_group rows r c g ≡ false →
    (is_same g c.pid ≡ true) ⊎ (list_any (λ d. in_group g d && in_session c.session d) rows ≡ true)
free_target rows r c g e =
    let a = or_parts (is_session_leader c) (not (in_session r.session c) || (not (is_same g c.pid) && not (list_any (is_in_session_group r g) rows))) e in
    let b = or_parts (not (in_session r.session c)) (not (is_same g c.pid) && not (list_any (is_in_session_group r g) rows)) a.1 in
    let same : c.session.0 ≡ r.session.0 = eqb-true _ _ (not_false _ b.0) in
    go (is_same g c.pid) (list_any (is_in_session_group r g) rows) refl (ap (λ m. list_any (λ d. in_group g d && (d.session.0 == m)) rows) same) b.1
  where
    go : (x y : Bool) → is_same g c.pid ≡ x → list_any (λ d. in_group g d && in_session c.session d) rows ≡ y → (not x && not y) ≡ false →
        (is_same g c.pid ≡ true) ⊎ (list_any (λ d. in_group g d && in_session c.session d) rows ≡ true)
    go true y ex ey h = inl ex
    go false true ex ey h = inr ey
    go false false ex ey h = cc

setpgid_keeps : (rows : List Row) (r : Row) (t : ℕ) (q : ℤ) (reply : Reply) → IsSound rows → row_of rows r.pid ≡ Some r → allows rows r (Setpgid t q) reply ≡ true → IsSound (after_setpgid rows r t q reply)
setpgid_keeps rows r t (negsuc q) reply sound there e = sound
setpgid_keeps rows r t (pos q) Fine sound there e =
    let g = regroups rows r t (wanted_group r t q) there (unrefused_fine (regroup_refusal rows r (row_named rows r t) (wanted_group r t q)) true e) in
    subst (λ p. IsSound (map (regrouped_at p (wanted_group r t q)) rows)) g.is (regrouped_sound rows g.target (wanted_group r t q) g.there (free_target rows r g.target (wanted_group r t q) g.fits) sound)
setpgid_keeps rows r t (pos q) _ sound there e = sound

-- ---- setsid and action
setsid_keeps : (rows : List Row) (r : Row) (reply : Reply) → IsSound rows → allows rows r Setsid reply ≡ true → IsSound (after_setsid rows r reply)
setsid_keeps rows r (Number n) sound e =
    let a = unrefused_number (setsid_refusal rows r) n (n == r.pid.0) e in
    leading_sound r.pid rows ((no_refusal (list_any (in_group r.pid) rows) EPERM None a.0).0) sound
setsid_keeps rows r _ sound e = sound

settable : (s : Signal) → action_refusal (Some s) ≡ None → (s ≡ KillSignal → ⊥) × (s ≡ StopSignal → ⊥)
settable KillSignal e = cc
settable StopSignal e = cc
settable _ e = (λ h. cc, λ h. cc)

action_keeps : (rows : List Row) (r : Row) (o : Option Signal) (act : Act) (reply : Reply) → IsSound rows → (reply ≡ Fine → action_refusal o ≡ None) → IsSound (after_action rows r o act reply)
action_keeps rows r None act reply sound e = sound
action_keeps rows r (Some s) act Fine sound e = let n = settable s (e refl) in acting_sound r.pid s act n.0 n.1 rows sound
action_keeps rows r (Some s) act _ sound e = sound

action_allowed : (rows : List Row) (r : Row) (s : ℕ) (act : Act) (reply : Reply) → allows rows r (Action s act) reply ≡ true → reply ≡ Fine → action_refusal (signal_of s) ≡ None
action_allowed rows r s act Fine e f = unrefused_fine (action_refusal (signal_of s)) true e
action_allowed rows r s act _ e f = cc

-- ---- every call, and every event
call_keeps : (rows : List Row) (r : Row) (call : Call) (reply : Reply) → IsSound rows → row_of rows r.pid ≡ Some r → is_living r.life ≡ true → allows rows r call reply ≡ true → IsSound (after_call rows r call reply)
call_keeps rows r Fork reply sound there lives e = fork_keeps rows r reply sound there lives e
call_keeps rows r Exec reply sound there lives e = execed_sound r.pid rows sound
call_keeps rows r (Exit n) reply sound there lives e = end_sound rows r (status.Exited (n % 256)) sound
call_keeps rows r (Waitpid sel stopped continued) reply sound there lives e = wait_keeps rows reply sound
call_keeps rows r (Kill target s) reply sound there lives e = kill_keeps rows r (target_of target) s reply sound
call_keeps rows r (Setpgid t q) reply sound there lives e = setpgid_keeps rows r t q reply sound there e
call_keeps rows r Setsid reply sound there lives e = setsid_keeps rows r reply sound e
call_keeps rows r (Action s act) reply sound there lives e = action_keeps rows r (signal_of s) act reply sound (action_allowed rows r s act reply e)
call_keeps rows r (Mask set) reply sound there lives e = masked_sound r.pid set rows sound
call_keeps rows r _ reply sound there lives e = sound

event_keeps : (rows : List Row) (r : Row) (event : Event) → IsSound rows → IsSound (after_event rows r event)
event_keeps rows r (Caught s) sound = delivered_sound r.pid s rows sound
event_keeps rows r (Discarded s) sound = delivered_sound r.pid s rows sound
event_keeps rows r (StoppedBy s) sound = received_sound (sent_to_parent r) (map (stopped_at r.pid s) rows) (stopped_sound r.pid s rows sound)
event_keeps rows r (EndedBy s) sound = end_sound rows r (status.Killed s) sound
event_keeps rows r Continued sound = received_sound (sent_to_parent r) (map (continued_at r.pid) rows) (continued_sound r.pid rows sound)
event_keeps rows r Moved sound = sound

row_keeps : (rows : List Row) (r : Row) (entry : Entry) → IsSound rows → row_of rows r.pid ≡ Some r → is_living r.life ≡ true → row_verdict rows r entry ≡ Legal → IsSound (row_after rows r entry)
row_keeps rows r (Called caller call reply) sound there lives e = call_keeps rows r call reply sound there lives ((call_allowed rows r call reply e).1)
row_keeps rows r (Happened p event) sound there lives e = event_keeps rows r event sound

pub step_keeps : StepKeepsSound
step_keeps rows entry sound e =
    let a = actor rows entry e in
    subst IsSound (sym (after_is rows entry a.row a.there)) (row_keeps rows a.row entry sound (row_here rows _ a.row a.there) a.lives a.legal)
