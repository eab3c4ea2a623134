-- a legal entry whose numbers can be names is one that a history can hold
use Rattle.std.proofs.Common.{◌≡◌, true, List, refl, subst, Option, None, Some}
use Rattle.unix_names.specs.declared.Pid.{Pid}
use Rattle.unix_names.specs.declared.Errno.{Errno}
use Rattle.unix_calls.specs.declared.Call.{Call}
use Rattle.unix_calls.specs.declared.Call.TheVariants as calls
use Rattle.unix_calls.specs.declared.Reply.{Reply}
use Rattle.unix_calls.specs.declared.Reply.TheVariants.{NoReply}
use Rattle.unix_calls.specs.declared.Entry.{Entry}
use Rattle.unix_calls.specs.declared.Entry.TheVariants.{Called, Happened}
use Rattle.unix_calls.specs.Calls.{HasReply, EntryHasNames, IsEntry}
use Rattle.process_table.specs.declared.Row.{Row}
use Rattle.process_table.specs.Rows.{row_named}
use Rattle.kernel_rules.specs.Calls.{refusal, is_answer, allows}
use Rattle.kernel_rules.specs.Look.{is_group_of, is_session_of}
use Rattle.kernel_rules.specs.Replies.{is_no_reply, is_first}
use Rattle.kernel_model.specs.declared.verdict.Verdict.TheVariants.{Legal}
use Rattle.kernel_model.specs.Step.{verdict}
use Rattle.kernel_laws.proofs.Legal.{actor, call_allowed}

no_reply : (reply : Reply) → is_no_reply reply ≡ true → reply ≡ NoReply
no_reply NoReply e = refl
no_reply _ e = cc

module _ (rows : List Row) (r : Row) where
  -- no reply at all is no refusal
  answered : (call : Call) (reply : Reply) → reply ≡ NoReply → allows rows r call reply ≡ true → is_answer rows r call NoReply ≡ true
  answered call reply none e = go (refusal rows r call) (subst (λ (x : Reply). allows rows r call x ≡ true) none e)
    where
      go : (o : Option Errno) → is_first o NoReply (is_answer rows r call NoReply) ≡ true → is_answer rows r call NoReply ≡ true
      go None f = f
      go (Some x) f = cc

  no_group : (o : Option Row) → is_group_of o NoReply ≡ true → ⊥
  no_group None e = cc
  no_group (Some c) e = cc

  no_session : (o : Option Row) → is_session_of o NoReply ≡ true → ⊥
  no_session None e = cc
  no_session (Some c) e = cc

  replies : (p : Pid) (call : Call) (reply : Reply) → allows rows r call reply ≡ true → HasReply (Called p call reply)
  replies p (calls.Exit n) reply e = no_reply reply e
  replies p calls.Getpid reply e = λ h. cc (answered calls.Getpid reply h e)
  replies p calls.Getppid reply e = λ h. cc (answered calls.Getppid reply h e)
  replies p (calls.Getpgid t) reply e = λ h. no_group (row_named rows r t) (answered (calls.Getpgid t) reply h e)
  replies p (calls.Getsid t) reply e = λ h. no_session (row_named rows r t) (answered (calls.Getsid t) reply h e)
  replies p calls.Fork reply e = λ h. cc (answered calls.Fork reply h e)
  replies p calls.Exec reply e = λ h. cc (answered calls.Exec reply h e)
  replies p (calls.Waitpid sel stopped continued) reply e = λ h. cc (answered (calls.Waitpid sel stopped continued) reply h e)
  replies p (calls.Kill target s) reply e = λ h. cc (answered (calls.Kill target s) reply h e)
  replies p (calls.Setpgid t q) reply e = λ h. cc (answered (calls.Setpgid t q) reply h e)
  replies p calls.Setsid reply e = λ h. cc (answered calls.Setsid reply h e)
  replies p (calls.Action s act) reply e = λ h. cc (answered (calls.Action s act) reply h e)
  replies p (calls.Mask set) reply e = λ h. cc (answered (calls.Mask set) reply h e)
  replies p calls.Pending reply e = λ h. cc (answered calls.Pending reply h e)
  replies p calls.Migrate reply e = λ h. cc (answered calls.Migrate reply h e)

pub legal_written : (rows : List Row) (entry : Entry) → verdict rows entry ≡ Legal → EntryHasNames entry → IsEntry entry
legal_written rows (Called p call reply) legal names =
    let a = actor rows (Called p call reply) legal in
    (replies rows a.row p call reply (call_allowed rows a.row call reply a.legal).1, names)
legal_written rows (Happened p event) legal names = (tt, names)
