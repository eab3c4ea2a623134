-- action, mask and pending are steps of the one kernel
use Rattle.std.proofs.Common.{◌≡◌, ◌≢◌, ◌==◌, ℕ, Bool, true, false, List, [], ◌∷◌, refl, sym, ap, ◌∙◌, subst, Option, None, Some}
use Rattle.std.specs.Prelude.{map}
use Rattle.unix_names.specs.declared.Pid.{Pid}
use Rattle.unix_names.specs.declared.NodeId.{NodeId}
use Rattle.unix_names.specs.declared.Act.{Act}
use Rattle.unix_names.specs.declared.Signal.{Signal}
use Rattle.unix_names.specs.declared.Signal.TheVariants.{Chld}
use Rattle.unix_names.specs.declared.Errno.{Errno}
use Rattle.unix_names.specs.declared.Errno.TheVariants.{EINVAL}
use Rattle.unix_names.specs.Sets.{has}
use Rattle.unix_names.specs.Signals.{signal_of}
use Rattle.unix_calls.specs.declared.Call.TheVariants.{Action, Mask, Pending}
use Rattle.unix_calls.specs.declared.Reply.TheVariants.{Fine, Set, Refused}
use Rattle.unix_calls.specs.declared.Entry.TheVariants.{Called}
use Rattle.unix_calls.specs.declared.Job.TheVariants.{Ask}
use Rattle.signal_state.specs.Signals.{Signals}
use Rattle.signal_state.specs.Sig.{deliverable, with_action, with_mask}
use Rattle.vproc_record.specs.declared.Vproc.{Vproc}
use Rattle.group_record.specs.declared.Group.{Group}
use Rattle.record_bag.specs.declared.bag.Bag.{Bag}
use Rattle.record_bag.specs.declared.vector.Site.{Site}
use Rattle.process_table.specs.declared.Row.{Row}
use Rattle.process_table.specs.Rows.{is_stopped}
use Rattle.kernel_rules.specs.Action.{action_refusal, after_action}
use Rattle.kernel_model.specs.Step.{after_at, sent_at}
use Rattle.decide_law.specs.Law.{Settled, next, IsStep}
use Rattle.decide_law.specs.Effects.{Effect, quiet, plain, replied, unless_refused, decided_by, written}
use Rattle.decide_law.specs.Parts.{IsCallStep}
use Rattle.decide_law.proofs.Records.{row_pid}
use Rattle.decide_law.proofs.ReplyStep.{chosen_legal, refused_legal, reply_step}
use Rattle.decide_law.proofs.OwnStep.{resigned_at, resigning, resigned_own, resigned_other, resigned_kept, resigned_told, own_step, signals_step}
use Rattle.ops_signal.specs.Actions.{ignoring, set_action, action_effect, mask_effect, pending_effect}

-- another row than the caller's
apart : (rows : List Row) (p : Pid) (r : Row) (c : Row) → r.pid ≡ p → c.pid.0 ≢ p.0 → c.pid.0 ≢ r.pid.0
apart rows p r c is ne = λ e. ne (e ∙ ap (λ (q : Pid). q.0) is)

-- ---- action
refused_table : (rows : List Row) (r : Row) (o : Option Signal) (act : Act) (e : Errno) → after_action rows r o act (Refused e) ≡ rows
refused_table rows r None act e = refl
refused_table rows r (Some s) act e = refl

abbrev ActionStep : List Row → Pid → Site → Option NodeId → ℕ → Act → Bag → Effect → Type 0
ActionStep rows p site at s act bag x = IsStep rows (next rows x.entry) p (Ask (Action s act) at) site bag (decided_by x) (written x bag)

set_step : (rows : List Row) (p : Pid) (site : Site) (at : Option NodeId) (sig : Signals) (bag : Bag) (r : Row) (v : Vproc) (g : Group) (s : ℕ) (act : Act) (signal : Signal) → Settled rows p sig bag r v g → is_stopped r.life ≡ false → deliverable sig ≡ 0 →
    action_refusal (signal_of s) ≡ None → signal_of s ≡ Some signal → ActionStep rows p site at s act bag (set_action sig p s act (Some signal))
set_step rows p site at sig bag r v g s act signal a alive clear fine is =
    subst (λ (now : List Row). IsStep rows now p (Ask (Action s act) at) site bag (decided_by (set_action sig p s act (Some signal))) (written (set_action sig p s act (Some signal)) bag)) (sym table)
    (own_step rows p (Ask (Action s act) at) site sig bag r v g (resigned_at r.pid (λ x. with_action x signal act)) (ignoring (with_action sig signal act)) (Some (Called p (Action s act) Fine)) (with_action sig signal act) a alive record {
      legal = (refused_legal rows p sig bag r v g (Action s act) None Fine a alive clear (λ f. cc) fine refl, refl);
      asked = refl;
      table = table;
      sends = λ c. ap (λ o. sent_at rows o (Called p (Action s act) Fine) c) a.row;
      place = λ was here. refl;
      unplaced = refl;
      nobody = λ before left. refl;
      born = tt;
      keeps = resigning r.pid (λ x. with_action x signal act);
      change = λ c. refl;
      others = λ c ne. resigned_other r.pid (λ x. with_action x signal act) c (apart rows p r c (row_pid rows p r a.row) ne);
      own_record = λ y of. resigned_told rows r (λ x. with_action x signal act) y (has (with_action sig signal act).ignored Chld) (ap (λ (x : Signals). has (with_action x signal act).ignored Chld) (sym a.sig_is)) of;
      group = λ y. refl;
      stream = λ y h. refl;
      backlog = λ y. refl;
      loc = λ y. refl;
      sig_is = resigned_own r (λ x. with_action x signal act) ∙ ap (λ (x : Signals). with_action x signal act) a.sig_is;
    })
  where
    table : next rows (Some (Called p (Action s act) Fine)) ≡ map (resigned_at r.pid (λ x. with_action x signal act)) rows
    table = ap (λ o. after_at rows o (Called p (Action s act) Fine)) a.row ∙ ap (λ (o : Option Signal). after_action rows r o act Fine) is

by_signal : (rows : List Row) (p : Pid) (site : Site) (at : Option NodeId) (sig : Signals) (bag : Bag) (r : Row) (v : Vproc) (g : Group) (s : ℕ) (act : Act) → Settled rows p sig bag r v g → is_stopped r.life ≡ false → deliverable sig ≡ 0 →
    action_refusal (signal_of s) ≡ None → (o : Option Signal) → signal_of s ≡ o → ActionStep rows p site at s act bag (set_action sig p s act o)
by_signal rows p site at sig bag r v g s act a alive clear fine None is = let no_signal : Some EINVAL ≡ None = ap action_refusal (sym is) ∙ fine in absurd (cc no_signal)
by_signal rows p site at sig bag r v g s act a alive clear fine (Some signal) is = set_step rows p site at sig bag r v g s act signal a alive clear fine is

by_refusal : (rows : List Row) (p : Pid) (site : Site) (at : Option NodeId) (sig : Signals) (bag : Bag) (r : Row) (v : Vproc) (g : Group) (s : ℕ) (act : Act) → Settled rows p sig bag r v g → is_stopped r.life ≡ false → deliverable sig ≡ 0 →
    (o : Option Errno) → action_refusal (signal_of s) ≡ o → ActionStep rows p site at s act bag (unless_refused o p (Action s act) sig (set_action sig p s act (signal_of s)))
by_refusal rows p site at sig bag r v g s act a alive clear None is = by_signal rows p site at sig bag r v g s act a alive clear is (signal_of s) refl
by_refusal rows p site at sig bag r v g s act a alive clear (Some e) is =
    reply_step rows p site at sig bag r v g (Action s act) (Refused e) a alive record {
      legal = refused_legal rows p sig bag r v g (Action s act) (Some e) Fine a alive clear (λ f. cc) is refl;
      table = ap (λ o. after_at rows o (Called p (Action s act) (Refused e))) a.row ∙ refused_table rows r (signal_of s) act e;
      sends = λ q c here living. ap (λ o. sent_at rows o (Called p (Action s act) (Refused e)) c) a.row;
      place = λ was here. refl;
      unplaced = refl;
      nobody = λ before left. refl;
      born = tt;
    }

pub action_is_step : (s : ℕ) (act : Act) → IsCallStep (Action s act) (λ bag sig p v. action_effect sig p s act)
action_is_step s act rows p site at sig bag r v g a alive clear held = by_refusal rows p site at sig bag r v g s act a alive clear (action_refusal (signal_of s)) refl

-- ---- mask
pub mask_is_step : (set : ℕ) → IsCallStep (Mask set) (λ bag sig p v. mask_effect sig p set)
mask_is_step set rows p site at sig bag r v g a alive clear held =
    subst (λ (now : List Row). IsStep rows now p (Ask (Mask set) at) site bag (decided_by (mask_effect sig p set)) (written (mask_effect sig p set) bag)) (sym table)
    (signals_step rows p (Ask (Mask set) at) site sig bag r v g (resigned_at r.pid (λ x. with_mask x set)) (Some (Called p (Mask set) (Set sig.mask))) (with_mask sig set) a alive record {
      legal = (chosen_legal rows p sig bag r v g (Mask set) (Set sig.mask) a alive clear (λ f. cc) (ap (λ (x : Signals). Set x.mask) (sym a.sig_is)), refl);
      asked = refl;
      table = table;
      sends = λ c. ap (λ o. sent_at rows o (Called p (Mask set) (Set sig.mask)) c) a.row;
      place = λ was here. refl;
      unplaced = refl;
      nobody = λ before left. refl;
      born = tt;
      keeps = resigning r.pid (λ x. with_mask x set);
      change = λ c. refl;
      others = λ c ne. resigned_other r.pid (λ x. with_mask x set) c (apart rows p r c (row_pid rows p r a.row) ne);
      own_record = λ y of. resigned_kept rows r (λ x. with_mask x set) y refl of;
      group = λ y. refl;
      stream = λ y h. refl;
      backlog = λ y. refl;
      loc = λ y. refl;
      sig_is = resigned_own r (λ x. with_mask x set) ∙ ap (λ (x : Signals). with_mask x set) a.sig_is;
    })
  where
    table : next rows (Some (Called p (Mask set) (Set sig.mask))) ≡ map (resigned_at r.pid (λ x. with_mask x set)) rows
    table = ap (λ o. after_at rows o (Called p (Mask set) (Set sig.mask))) a.row

-- ---- pending
pub pending_is_step : IsCallStep Pending (λ bag sig p v. pending_effect sig p)
pending_is_step rows p site at sig bag r v g a alive clear held =
    reply_step rows p site at sig bag r v g Pending (Set sig.pending) a alive record {
      legal = chosen_legal rows p sig bag r v g Pending (Set sig.pending) a alive clear (λ f. cc) (ap (λ (x : Signals). Set x.pending) (sym a.sig_is));
      table = ap (λ o. after_at rows o (Called p Pending (Set sig.pending))) a.row;
      sends = λ q c here living. ap (λ o. sent_at rows o (Called p Pending (Set sig.pending)) c) a.row;
      place = λ was here. refl;
      unplaced = refl;
      nobody = λ before left. refl;
      born = tt;
    }
