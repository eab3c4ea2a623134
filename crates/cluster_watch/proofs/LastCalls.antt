-- the last call of a process, and the waits that stand again
use Rattle.std.proofs.Common.{◌≡◌, ◌==◌, ◌++◌, ℤ, Bool, true, false, cond, List, [], ◌∷◌, refl, ap, ◌∙◌, Option, None, Some}
use Rattle.std.specs.Option.{option_map_or}
use Rattle.std.proofs.lemmas.List.Sums.{fold-append}
use Rattle.unix_names.specs.declared.Pid.{Pid}
use Rattle.unix_calls.specs.declared.Call.{Call}
use Rattle.unix_calls.specs.declared.Call.TheVariants.{Fork, Waitpid}
use Rattle.unix_calls.specs.declared.Reply.{Reply}
use Rattle.unix_calls.specs.declared.Reply.TheVariants.{Number, Again}
use Rattle.unix_calls.specs.declared.Entry.{Entry}
use Rattle.unix_calls.specs.declared.Entry.TheVariants.{Called, Happened}
use Rattle.unix_calls.specs.declared.Statement.{Statement}
use Rattle.unix_calls.specs.declared.Statement.TheVariants.{Wait}
use Rattle.unix_calls.specs.declared.World.{World}
use Rattle.list_laws.proofs.Finding.{same_number, same_flip}
use Rattle.proc_image.specs.Scripts.{Progress, call_or_exit, next_statement, next_call, after_reply_or_exit, moved_on, is_wait_again, stands_again}
use Rattle.kernel_model.specs.Step.{process_of}
use Rattle.audit_core.specs.Finished.{is_born, later_call, last_call}
use Rattle.history_laws.proofs.Progress.{IsNoForkOf}

-- ---- sleeping waits
-- the next statement is a sleeping wait, which the reply Again leaves to stand
pub record IsWaiting (world : World) (own : Pid) (at : Progress) (reply : Reply) : Type 0 where
  pub sel : ℤ
  pub stopped : Bool
  pub continued : Bool
  pub again : reply ≡ Again
  pub call : next_call world own at ≡ Waitpid sel stopped continued
  pub stays : moved_on world at Again ≡ at

waiting_at : (world : World) (own : Pid) (at : Progress) (s : Statement) (reply : Reply) → next_statement world at ≡ Some s → is_wait_again s reply ≡ true → IsWaiting world own at reply
waiting_at world own at (Wait true any negated arg stopped continued) Again is e =
    record { sel = _; stopped = stopped; continued = continued; again = refl; call = ap (call_or_exit own at) is; stays = ap (after_reply_or_exit Again at) is }
waiting_at world own at _ _ is e = absurd (cc e)

waiting_by : (world : World) (own : Pid) (at : Progress) (reply : Reply) (o : Option Statement) → next_statement world at ≡ o → option_map_or (λ s. is_wait_again s reply) o false ≡ true → IsWaiting world own at reply
waiting_by world own at reply None is e = absurd (cc e)
waiting_by world own at reply (Some s) is e = waiting_at world own at s reply is e

pub waiting : (world : World) (own : Pid) (at : Progress) (reply : Reply) → stands_again world at reply ≡ true → IsWaiting world own at reply
waiting world own at reply e = waiting_by world own at reply (next_statement world at) refl e

-- ---- the last call
pub last-push : (history : List Entry) (entry : Entry) (q : Pid) → last_call (history ++ entry ∷ []) q ≡ later_call q (last_call history q) entry
last-push history entry q = fold-append (later_call q) None history (entry ∷ [])

pub last_own : (q : Pid) (last : Option Entry) (call : Call) (reply : Reply) → later_call q last (Called q call reply) ≡ Some (Called q call reply)
last_own q last call reply = ap (λ b. cond b (Some (Called q call reply)) (cond (is_born q call reply) None last)) (same_number q.0)

not_born : (p q : Pid) (call : Call) (reply : Reply) → IsNoForkOf (Called p call reply) q.0 → is_born q call reply ≡ false
not_born p q Fork (Number n) other = same_flip _ _ (other n refl)
not_born p q Fork _ other = refl
not_born p q _ reply other = refl

-- another process's entry, which is not this one's birth
pub last_other : (q : Pid) (last : Option Entry) (entry : Entry) → (q.0 == (process_of entry).0) ≡ false → IsNoForkOf entry q.0 → later_call q last entry ≡ last
last_other q last (Called p call reply) ne other =
    ap (λ b. cond b (Some (Called p call reply)) (cond (is_born q call reply) None last)) (same_flip _ _ ne) ∙ ap (λ b. cond b None last) (not_born p q call reply other)
last_other q last (Happened p event) ne other = refl
