-- the reply that is chosen is allowed, and is none exactly for an exit
use Rattle.std.proofs.Common.{◌≡◌, ◌∙◌, ◌↔◌, ◌||◌, ◌==◌, not, ℕ, Bool, true, false, cond, List, [], ◌∷◌, Option, None, Some, refl, sym, ap}
use Rattle.std.specs.Prelude.{find, is_none, is_some}
use Rattle.std.specs.List.{list_any}
use Rattle.std.proofs.lemmas.Bool.{and_parts, eq-eqb, eqb-true}
use Rattle.unix_names.specs.declared.Pid.{Pid}
use Rattle.unix_names.specs.declared.Errno.{Errno}
use Rattle.unix_names.specs.declared.Errno.TheVariants.{EPERM, ESRCH, EACCES, EINVAL, ECHILD, EAGAIN}
use Rattle.unix_names.specs.declared.WaitStatus.{WaitStatus}
use Rattle.unix_names.specs.declared.WaitStatus.TheVariants as status
use Rattle.unix_names.specs.Signals.{number_of}
use Rattle.unix_names.proofs.SignalLaws.{find-passes}
use Rattle.unix_calls.specs.declared.Call.{Call}
use Rattle.unix_calls.specs.declared.Call.TheVariants.{Getpid, Getppid, Getpgid, Getsid, Fork, Exec, Exit, Waitpid, Kill, Setpgid, Setsid, Action, Mask, Pending, Migrate}
use Rattle.unix_calls.specs.declared.Reply.{Reply}
use Rattle.unix_calls.specs.declared.Reply.TheVariants.{Fine, Number, Set, Child, Again, Refused, NoReply}
use Rattle.unix_calls.specs.declared.Entry.TheVariants.{Called}
use Rattle.unix_calls.specs.declared.Selector.{Selector}
use Rattle.unix_calls.specs.Calls.{HasNames, EntryHasNames, selector_of}
use Rattle.process_table.specs.declared.Row.{Row}
use Rattle.process_table.specs.Rows.{is_pid, row_of, row_named, AreDistinct}
use Rattle.kernel_rules.specs.Wait.{is_match, report_of, is_ready_match, is_same_status, is_wait_answer}
use Rattle.kernel_rules.specs.Calls.{refusal, is_answer, allows}
use Rattle.kernel_rules.specs.Replies.{is_no_reply, is_same_errno, is_first}
use Rattle.kernel_rules.specs.Look.{is_group_of, is_session_of}
use Rattle.kernel_rules.specs.Fork.{is_fresh}
use Rattle.kernel_choice.specs.Choice.{group_reply, session_reply, report_reply, child_reply, answer_of, refused_or, reply_of}
use Rattle.kernel_choice.specs.Laws.{is_exit}

-- ---- rows
find_none : {X : Type 0} (test : X → Bool) (xs : List X) → find test xs ≡ None → list_any test xs ≡ false
find_none test [] e = refl
find_none {X} test (x ∷ xs) e =
    elim (test x) as (λ b. cond b (Some x) (find test xs) ≡ None → (b || list_any test xs) ≡ false) [
      | true ↦ λ q. absurd (cc)
      | false ↦ λ q. find_none test xs q
    ] e

-- a later row has another pid than the first
other_pid : (rows : List Row) (r c : Row) → row_of rows r.pid ≡ None → row_of rows c.pid ≡ Some c → is_pid c.pid r ≡ false
other_pid rows r c none found =
    elim (is_pid c.pid r) as (λ b. is_pid c.pid r ≡ b → b ≡ false) [
      | false ↦ λ w. refl
      | true ↦ λ w.
          let same : row_of rows r.pid ≡ row_of rows c.pid = ap (λ (n : ℕ). find (λ (x : Row). x.pid.0 == n) rows) (eqb-true _ _ w) in
          absurd (cc)
    ] refl

-- what is found in a table has its pid alone
found_alone : (test : Row → Bool) (rows : List Row) (c : Row) → AreDistinct rows → find test rows ≡ Some c → row_of rows c.pid ≡ Some c
found_alone test [] c d e = absurd (cc)
found_alone test (r ∷ rows) c d e =
    elim (test r) as (λ b. cond b (Some r) (find test rows) ≡ Some c → cond (is_pid c.pid r) (Some r) (row_of rows c.pid) ≡ Some c) [
      | true ↦ λ q. let same : r ≡ c = cc in rw (same, eq-eqb c.pid.0 c.pid.0 refl) refl
      | false ↦ λ q. let later = found_alone test rows c d.1 q in rw (other_pid rows r c d.0 later) later
    ] e

-- ---- replies
same_status : (w : WaitStatus) → is_same_status w w ≡ true
same_status (status.Exited n) = eq-eqb n n refl
same_status (status.Killed s) = eq-eqb (number_of s) (number_of s) refl
same_status (status.Stopped s) = eq-eqb (number_of s) (number_of s) refl
same_status status.Continued = refl

same_errno : (e : Errno) → is_same_errno e e ≡ true
same_errno EPERM = refl
same_errno ESRCH = refl
same_errno EACCES = refl
same_errno EINVAL = refl
same_errno ECHILD = refl
same_errno EAGAIN = refl

-- a call that looks at a process is not refused only where there is one
looked_group : (system : Bool) (o : Option Row) → cond system (Some EPERM) (cond (is_none o) (Some ESRCH) None) ≡ None → is_group_of o (group_reply o) ≡ true
looked_group true o e = absurd (cc)
looked_group false None e = absurd (cc)
looked_group false (Some c) e = eq-eqb c.group.0 c.group.0 refl

looked_session : (system : Bool) (o : Option Row) → cond system (Some EPERM) (cond (is_none o) (Some ESRCH) None) ≡ None → is_session_of o (session_reply o) ≡ true
looked_session true o e = absurd (cc)
looked_session false None e = absurd (cc)
looked_session false (Some c) e = eq-eqb c.session.0 c.session.0 refl

reported : (rows : List Row) (r : Row) (sel : Selector) (stopped continued : Bool) (c : Row) (o : Option WaitStatus) → row_of rows c.pid ≡ Some c → is_match r sel c ≡ true →
    report_of c.life c.change stopped continued ≡ o → is_some o ≡ true → is_wait_answer rows r sel stopped continued (report_reply c.pid o) ≡ true
reported rows r sel stopped continued c None there matches w some = absurd (cc)
reported rows r sel stopped continued c (Some v) there matches w some = rw (there, matches, w) (same_status v)

waited : (rows : List Row) (r : Row) (sel : Selector) (stopped continued : Bool) (o : Option Row) → AreDistinct rows → find (is_ready_match r sel stopped continued) rows ≡ o →
    is_wait_answer rows r sel stopped continued (child_reply stopped continued o) ≡ true
waited rows r sel stopped continued None d e = ap not (find_none (is_ready_match r sel stopped continued) rows e)
waited rows r sel stopped continued (Some c) d e =
    let ready = and_parts (is_match r sel c) (is_some (report_of c.life c.change stopped continued)) (find-passes (is_ready_match r sel stopped continued) rows c e) in
    reported rows r sel stopped continued c (report_of c.life c.change stopped continued) (found_alone (is_ready_match r sel stopped continued) rows c d e) ready.0 refl ready.1

answered : (rows : List Row) (r : Row) (call : Call) (fresh : ℕ) → AreDistinct rows → (call ≡ Fork → is_fresh rows fresh ≡ true) → refusal rows r call ≡ None →
    is_answer rows r call (answer_of rows r call fresh) ≡ true
answered rows r Getpid fresh d f e = eq-eqb r.pid.0 r.pid.0 refl
answered rows r Getppid fresh d f e = eq-eqb r.parent.0 r.parent.0 refl
answered rows r (Getpgid t) fresh d f e = looked_group (t == 1) (row_named rows r t) e
answered rows r (Getsid t) fresh d f e = looked_session (t == 1) (row_named rows r t) e
answered rows r Fork fresh d f e = f refl
answered rows r Exec fresh d f e = refl
answered rows r (Exit n) fresh d f e = refl
answered rows r (Waitpid sel stopped continued) fresh d f e = waited rows r (selector_of sel) stopped continued _ d refl
answered rows r (Kill target s) fresh d f e = refl
answered rows r (Setpgid t q) fresh d f e = refl
answered rows r Setsid fresh d f e = eq-eqb r.pid.0 r.pid.0 refl
answered rows r (Action s act) fresh d f e = refl
answered rows r (Mask set) fresh d f e = eq-eqb r.sig.mask r.sig.mask refl
answered rows r Pending fresh d f e = eq-eqb r.sig.pending r.sig.pending refl
answered rows r Migrate fresh d f e = refl

first_allowed : (o : Option Errno) (answer : Reply) (test : Reply → Bool) → (o ≡ None → test answer ≡ true) → is_first o (refused_or o answer) (test (refused_or o answer)) ≡ true
first_allowed None answer test h = h refl
first_allowed (Some e) answer test h = same_errno e

pub chosen_allowed : (rows : List Row) (r : Row) (call : Call) (fresh : ℕ) → AreDistinct rows → (call ≡ Fork → is_fresh rows fresh ≡ true) → allows rows r call (reply_of rows r call fresh) ≡ true
chosen_allowed rows r call fresh d f = first_allowed (refusal rows r call) (answer_of rows r call fresh) (is_answer rows r call) (answered rows r call fresh d f)

-- ---- no reply
refusal_replies : (o : Option Errno) (answer : Reply) → is_no_reply answer ≡ false → is_no_reply (refused_or o answer) ≡ false
refusal_replies None answer e = e
refusal_replies (Some refused) answer e = refl

group_replies : (o : Option Row) → is_no_reply (group_reply o) ≡ false
group_replies None = refl
group_replies (Some c) = refl

session_replies : (o : Option Row) → is_no_reply (session_reply o) ≡ false
session_replies None = refl
session_replies (Some c) = refl

report_replies : (p : Pid) (o : Option WaitStatus) → is_no_reply (report_reply p o) ≡ false
report_replies p None = refl
report_replies p (Some w) = refl

child_replies : (stopped continued : Bool) (o : Option Row) → is_no_reply (child_reply stopped continued o) ≡ false
child_replies stopped continued None = refl
child_replies stopped continued (Some c) = report_replies c.pid (report_of c.life c.change stopped continued)

replies : (rows : List Row) (r : Row) (call : Call) (fresh : ℕ) → is_no_reply (reply_of rows r call fresh) ≡ is_exit call
replies rows r Getpid fresh = refl
replies rows r Getppid fresh = refl
replies rows r (Getpgid t) fresh = refusal_replies (refusal rows r (Getpgid t)) _ (group_replies (row_named rows r t))
replies rows r (Getsid t) fresh = refusal_replies (refusal rows r (Getsid t)) _ (session_replies (row_named rows r t))
replies rows r Fork fresh = refusal_replies (refusal rows r Fork) _ refl
replies rows r Exec fresh = refl
replies rows r (Exit n) fresh = refl
replies rows r (Waitpid sel stopped continued) fresh =
    refusal_replies (refusal rows r (Waitpid sel stopped continued)) _ (child_replies stopped continued (find (is_ready_match r (selector_of sel) stopped continued) rows))
replies rows r (Kill target s) fresh = refusal_replies (refusal rows r (Kill target s)) _ refl
replies rows r (Setpgid t q) fresh = refusal_replies (refusal rows r (Setpgid t q)) _ refl
replies rows r Setsid fresh = refusal_replies (refusal rows r Setsid) _ refl
replies rows r (Action s act) fresh = refusal_replies (refusal rows r (Action s act)) _ refl
replies rows r (Mask set) fresh = refl
replies rows r Pending fresh = refl
replies rows r Migrate fresh = refl

none_is : (reply : Reply) → is_no_reply reply ≡ true → reply ≡ NoReply
none_is NoReply e = refl
none_is Fine e = absurd (cc)
none_is (Number n) e = absurd (cc)
none_is (Set set) e = absurd (cc)
none_is (Child p w) e = absurd (cc)
none_is Again e = absurd (cc)
none_is (Refused refused) e = absurd (cc)

pub exit_alone : (rows : List Row) (r : Row) (call : Call) (fresh : ℕ) → reply_of rows r call fresh ≡ NoReply ↔ (is_exit call ≡ true)
exit_alone rows r call fresh = (
  (λ e. sym (replies rows r call fresh) ∙ ap is_no_reply e),
  (λ e. none_is (reply_of rows r call fresh) (replies rows r call fresh ∙ e)),
)

-- ---- names
pub names_kept : (rows : List Row) (r : Row) (call : Call) (fresh : ℕ) (p : Pid) → HasNames call → EntryHasNames (Called p call (reply_of rows r call fresh))
names_kept rows r call fresh p names = names

-- ---- none is found where none passes
none_step : {X : Type 0} (p : X → Bool) (x : X) (xs : List X) (b : Bool) → (b || list_any p xs) ≡ false → (list_any p xs ≡ false → find p xs ≡ None) → cond b (Some x) (find p xs) ≡ None
none_step p x xs true h rest = cc
none_step p x xs false h rest = rest h

pub none_found : {X : Type 0} (p : X → Bool) (xs : List X) → list_any p xs ≡ false → find p xs ≡ None
none_found p [] h = refl
none_found p (x ∷ xs) h = none_step p x xs (p x) h (none_found p xs)
