-- what a legal entry says
use Rattle.std.proofs.Common.{◌≡◌, ℕ, Bool, true, false, cond, not, List, refl, ap, Option, None, Some}
use Rattle.unix_names.specs.declared.Errno.{Errno}
use Rattle.unix_names.specs.States.{is_living}
use Rattle.unix_calls.specs.declared.Call.{Call}
use Rattle.unix_calls.specs.declared.Reply.{Reply}
use Rattle.unix_calls.specs.declared.Reply.TheVariants.{Fine, Number}
use Rattle.unix_calls.specs.declared.Event.{Event}
use Rattle.unix_calls.specs.declared.Event.TheVariants.{Caught, Discarded, StoppedBy, EndedBy, Continued, Moved}
use Rattle.unix_calls.specs.declared.Entry.{Entry}
use Rattle.process_table.specs.declared.Row.{Row}
use Rattle.kernel_model.specs.declared.verdict.Rule.{Rule}
use Rattle.kernel_model.specs.declared.verdict.Rule.TheVariants.{UnknownProcess, SignalFirst, WrongReply, WrongEvent}
use Rattle.kernel_model.specs.declared.verdict.Verdict.{Verdict}
use Rattle.kernel_model.specs.declared.verdict.Verdict.TheVariants.{Legal, Illegal}
use Rattle.process_table.specs.Rows.{row_of}
use Rattle.kernel_rules.specs.Calls.{allows}
use Rattle.kernel_rules.specs.Replies.{is_first}
use Rattle.kernel_rules.specs.Events.{can_call, may_happen}
use Rattle.kernel_model.specs.Step.{call_verdict, event_verdict, row_verdict, process_of, verdict_at, verdict, row_after, after_at, after}

-- ---- choices that came out legal
legal_then : (b : Bool) (v : Verdict) (rule : Rule) → cond b v (Illegal rule) ≡ Legal → (b ≡ true) × (v ≡ Legal)
legal_then true v rule e = (refl, e)
legal_then false v rule e = cc

legal_else : (b : Bool) (v : Verdict) (rule : Rule) → cond b (Illegal rule) v ≡ Legal → (b ≡ false) × (v ≡ Legal)
legal_else true v rule e = cc
legal_else false v rule e = (refl, e)

pub not_false : (b : Bool) → not b ≡ false → b ≡ true
not_false true e = refl
not_false false e = cc

pub not_true : (b : Bool) → not b ≡ true → b ≡ false
not_true true e = cc
not_true false e = refl

-- the row of the process that a legal entry speaks of
pub record Actor (rows : List Row) (entry : Entry) : Type 0 where
  pub row : Row
  pub there : row_of rows (process_of entry) ≡ Some row
  pub lives : is_living row.life ≡ true
  pub legal : row_verdict rows row entry ≡ Legal

pub actor : (rows : List Row) (entry : Entry) → verdict rows entry ≡ Legal → Actor rows entry
actor rows entry e = go (row_of rows (process_of entry)) refl e
  where
    go : (o : Option Row) → row_of rows (process_of entry) ≡ o → verdict_at rows o entry ≡ Legal → Actor rows entry
    go None h l = cc
    go (Some r) h l = let p = legal_then (is_living r.life) (row_verdict rows r entry) UnknownProcess l in record { row = r; there = h; lives = p.0; legal = p.1 }

pub after_is : (rows : List Row) (entry : Entry) (r : Row) → row_of rows (process_of entry) ≡ Some r → after rows entry ≡ row_after rows r entry
after_is rows entry r e = ap (λ o. after_at rows o entry) e

-- a legal call
pub call_allowed : (rows : List Row) (r : Row) (call : Call) (reply : Reply) → call_verdict rows r call reply ≡ Legal → (can_call r ≡ true) × (allows rows r call reply ≡ true)
call_allowed rows r call reply e =
    let a = legal_else (not (can_call r)) (cond (allows rows r call reply) Legal (Illegal WrongReply)) SignalFirst e in
    (not_false (can_call r) a.0, (legal_then (allows rows r call reply) Legal WrongReply a.1).0)

-- a legal event
pub event_allowed : (rows : List Row) (r : Row) (event : Event) → event_verdict rows r event ≡ Legal → may_happen rows r event ≡ true
event_allowed rows r Moved e = (legal_then (can_call r) Legal SignalFirst e).0
event_allowed rows r (Caught s) e = (legal_then (may_happen rows r (Caught s)) Legal WrongEvent e).0
event_allowed rows r (Discarded s) e = (legal_then (may_happen rows r (Discarded s)) Legal WrongEvent e).0
event_allowed rows r (StoppedBy s) e = (legal_then (may_happen rows r (StoppedBy s)) Legal WrongEvent e).0
event_allowed rows r (EndedBy s) e = (legal_then (may_happen rows r (EndedBy s)) Legal WrongEvent e).0
event_allowed rows r Continued e = (legal_then (may_happen rows r Continued) Legal WrongEvent e).0

-- ---- where the reply is no refusal, none holds
pub unrefused_fine : (o : Option Errno) (otherwise : Bool) → is_first o Fine otherwise ≡ true → o ≡ None
unrefused_fine None b e = refl
unrefused_fine (Some x) b e = cc

pub unrefused_number : (o : Option Errno) (n : ℕ) (otherwise : Bool) → is_first o (Number n) otherwise ≡ true → (o ≡ None) × (otherwise ≡ true)
unrefused_number None n b e = (refl, e)
unrefused_number (Some x) n b e = cc

-- ---- chains of refusals of which none holds
pub no_refusal : (b : Bool) (x : Errno) (rest : Option Errno) → cond b (Some x) rest ≡ None → (b ≡ false) × (rest ≡ None)
no_refusal true x rest e = cc
no_refusal false x rest e = (refl, e)

pub none_passes : (b : Bool) (x : Errno) → cond b None (Some x) ≡ None → b ≡ true
none_passes true x e = refl
none_passes false x e = cc
