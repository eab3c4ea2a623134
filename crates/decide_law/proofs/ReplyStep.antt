-- calls that are answered and change nothing
use Rattle.std.proofs.Common.{◌≡◌, ◌==◌, ◌&&◌, ℕ, true, false, not, List, [], refl, sym, ap, ◌∙◌, subst, Option, Some}
use Rattle.unix_names.specs.declared.Pid.{Pid}
use Rattle.unix_names.specs.declared.NodeId.{NodeId}
use Rattle.unix_names.specs.declared.Errno.{Errno}
use Rattle.unix_names.specs.States.{is_living}
use Rattle.unix_calls.specs.declared.Call.{Call}
use Rattle.unix_calls.specs.declared.Call.TheVariants.{Fork}
use Rattle.unix_calls.specs.declared.Reply.{Reply}
use Rattle.unix_calls.specs.declared.Entry.TheVariants.{Called}
use Rattle.unix_calls.specs.declared.Job.TheVariants.{Ask}
use Rattle.unix_calls.specs.declared.Phase.TheVariants as phase
use Rattle.signal_state.specs.Signals.{Signals}
use Rattle.signal_state.specs.Sig.{deliverable}
use Rattle.vproc_record.specs.declared.Vproc.{Vproc}
use Rattle.group_record.specs.declared.Group.{Group}
use Rattle.record_bag.specs.declared.bag.Bag.{Bag}
use Rattle.record_bag.specs.declared.vector.Site.{Site}
use Rattle.process_table.specs.declared.Row.{Row}
use Rattle.process_table.specs.Rows.{row_of, is_stopped}
use Rattle.kernel_rules.specs.Events.{can_call}
use Rattle.kernel_rules.specs.Calls.{refusal, allows}
use Rattle.kernel_model.specs.declared.Verdict.TheVariants.{Legal}
use Rattle.kernel_model.specs.Step.{verdict, after, sent}
use Rattle.kernel_choice.specs.Choice.{answer_of, refused_or, reply_of}
use Rattle.kernel_choice.proofs.ReplyLaws.{chosen_allowed}
use Rattle.decide_law.specs.Law.{Settled, next, IsNoBirth, IsStep}
use Rattle.decide_law.specs.Places.{is_placed, place_after}
use Rattle.decide_law.specs.Nudges.{nudges_of}
use Rattle.decide_law.specs.Effects.{quiet, decided_by, written}
use Rattle.decide_law.proofs.Quiet.{legal_call, quiet_step}

-- a process that is not stopped, and to which nothing is deliverable, can call
pub able : (rows : List Row) (p : Pid) (sig : Signals) (bag : Bag) (r : Row) (v : Vproc) (g : Group) → Settled rows p sig bag r v g → is_stopped r.life ≡ false → deliverable sig ≡ 0 → can_call r ≡ true
able rows p sig bag r v g a alive clear =
    let running : r.sig.stopped ≡ false = sym ((a.sound.each p r a.row).stopped_alike a.living) ∙ alive in
    ap (λ b. not b && (deliverable r.sig == 0)) running ∙ ap (λ (n : ℕ). n == 0) (ap deliverable a.sig_is ∙ clear)

-- the reply that the rules choose is legal
pub chosen_legal : (rows : List Row) (p : Pid) (sig : Signals) (bag : Bag) (r : Row) (v : Vproc) (g : Group) (call : Call) (reply : Reply) → Settled rows p sig bag r v g → is_stopped r.life ≡ false → deliverable sig ≡ 0 →
    (call ≡ Fork → false ≡ true) → reply ≡ reply_of rows r call 0 → verdict rows (Called p call reply) ≡ Legal
chosen_legal rows p sig bag r v g call reply a alive clear no_fork is =
    legal_call rows p r call reply a.row a.living (able rows p sig bag r v g a alive clear) (ap (allows rows r call) is ∙ chosen_allowed rows r call 0 a.sound.distinct (λ f. let h : false ≡ true = no_fork f in cc))

-- a refusal that is the rules' own, or the answer where there is none
pub refused_legal : (rows : List Row) (p : Pid) (sig : Signals) (bag : Bag) (r : Row) (v : Vproc) (g : Group) (call : Call) (o : Option Errno) (answer : Reply) → Settled rows p sig bag r v g → is_stopped r.life ≡ false → deliverable sig ≡ 0 →
    (call ≡ Fork → false ≡ true) → refusal rows r call ≡ o → answer ≡ answer_of rows r call 0 → verdict rows (Called p call (refused_or o answer)) ≡ Legal
refused_legal rows p sig bag r v g call o answer a alive clear no_fork e is =
    chosen_legal rows p sig bag r v g call (refused_or o answer) a alive clear no_fork (ap (refused_or o) is ∙ ap (λ (x : Option Errno). refused_or x (answer_of rows r call 0)) (sym e))

-- what a reply that changes nothing owes
pub record IsReply (rows : List Row) (p : Pid) (call : Call) (reply : Reply) : Type 0 where
  pub legal : verdict rows (Called p call reply) ≡ Legal
  pub table : after rows (Called p call reply) ≡ rows
  pub sends : (q : Pid) (c : Row) → row_of rows q ≡ Some c → is_living c.life ≡ true → sent rows (Called p call reply) c ≡ []
  pub place : (was here : NodeId) → place_after (Some (Called p call reply)) was here ≡ was
  pub unplaced : is_placed (Some (Called p call reply)) ≡ false
  pub nobody : (before left : Bag) → nudges_of rows rows p before left (Some (Called p call reply)) ≡ []
  pub born : IsNoBirth (Some (Called p call reply))

pub reply_step : (rows : List Row) (p : Pid) (site : Site) (at : Option NodeId) (sig : Signals) (bag : Bag) (r : Row) (v : Vproc) (g : Group) (call : Call) (reply : Reply) → Settled rows p sig bag r v g → is_stopped r.life ≡ false → IsReply rows p call reply →
    IsStep rows (next rows (Some (Called p call reply))) p (Ask call at) site bag (decided_by (quiet (Some (Called p call reply)) sig phase.Ready)) (written (quiet (Some (Called p call reply)) sig phase.Ready) bag)
reply_step rows p site at sig bag r v g call reply a alive q =
    subst (λ (now : List Row). IsStep rows now p (Ask call at) site bag (decided_by (quiet (Some (Called p call reply)) sig phase.Ready)) (written (quiet (Some (Called p call reply)) sig phase.Ready) bag)) (sym q.table)
    (quiet_step rows p (Ask call at) site sig bag r v g (Some (Called p call reply)) phase.Ready a record {
      legal = (q.legal, refl);
      asked = refl;
      table = q.table;
      sends = q.sends;
      place = q.place;
      unplaced = q.unplaced;
      nobody = q.nobody;
      born = q.born;
      stops = (λ e. cc, λ e. cc);
      stays = λ e. cc;
      awake = λ e. cc;
      rests = λ e. absurd (cc e);
    })
