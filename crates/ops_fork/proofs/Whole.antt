-- the whole law of fork
use Rattle.std.proofs.Common.{◌≡◌, ℕ, Bool, true, false, List, length, refl, sym, ap, ◌∙◌, subst, Option, None, Some}
use Rattle.std.specs.Prelude.{nat_le, if◌then◌else◌}
use Rattle.std.proofs.lemmas.List.{length-map}
use Rattle.unix_names.specs.declared.Pid.{Pid}
use Rattle.unix_names.specs.declared.NodeId.{NodeId}
use Rattle.unix_names.specs.declared.Errno.{Errno}
use Rattle.unix_names.specs.declared.Errno.TheVariants.{EAGAIN}
use Rattle.unix_calls.specs.declared.Call.TheVariants.{Fork}
use Rattle.unix_calls.specs.declared.Reply.TheVariants.{Number, Refused}
use Rattle.unix_calls.specs.declared.Entry.TheVariants.{Called}
use Rattle.unix_calls.specs.declared.Job.TheVariants.{Ask}
use Rattle.signal_state.specs.Signals.{Signals}
use Rattle.signal_state.specs.Sig.{deliverable}
use Rattle.signal_state.specs.declared.Own.{Own}
use Rattle.vproc_record.specs.declared.Vproc.{Vproc}
use Rattle.group_record.specs.declared.Group.{Group}
use Rattle.group_record.specs.Groups.{settled}
use Rattle.record_bag.specs.declared.bag.Bag.{Bag}
use Rattle.record_bag.specs.declared.vector.Site.{Site}
use Rattle.record_bag.specs.Decisions.{Answered}
use Rattle.process_table.specs.declared.Row.{Row}
use Rattle.process_table.specs.Rows.{child_count, children, is_stopped}
use Rattle.kernel_rules.specs.Events.{can_call}
use Rattle.kernel_rules.specs.Fork.{is_fresh}
use Rattle.kernel_rules.specs.Replies.{is_first}
use Rattle.kernel_rules.specs.Calls.{refusal}
use Rattle.kernel_model.specs.Step.{after_at, sent_at}
use Rattle.kernel_laws.proofs.Fresh.{unused_fresh}
use Rattle.decide_law.specs.Agrees.{IsRecordOf}
use Rattle.decide_law.specs.Law.{Asks, Based, Settled, next, IsStep}
use Rattle.decide_law.specs.Places.{destination, named_or}
use Rattle.decide_law.specs.Vector.{IsAnswer}
use Rattle.decide_law.specs.Effects.{Effect, folded, emptied, settled_in, decided_by, left_by, replied, done_by}
use Rattle.decide_law.specs.Arrivals.{done_at}
use Rattle.decide_law.proofs.Shell.{own_record, settling, shell}
use Rattle.decide_law.proofs.Quiet.{legal_call}
use Rattle.decide_law.proofs.ReplyStep.{able, IsReply, reply_step}
use Rattle.decide_law.proofs.Answers.{on_base_right, runs_on}
use Rattle.decide_law.proofs.Arrivals.{can_work, done_at_answers}
use Rattle.ops_fork.specs.Fork.{fork_effect, is_full, fork_answer}
use Rattle.ops_fork.specs.Decide.{ForkAnswered}
use Rattle.ops_fork.proofs.Step.{fork_law}

-- ---- refused, where 64 children are listed
count_is : (rows : List Row) (v : Vproc) (r : Row) → IsRecordOf rows v r → length v.children ≡ child_count rows r.pid
count_is rows v r of = ap length of.children ∙ length-map (children rows r.pid) (λ (c : Row). c.pid)

abbrev refused_if : Bool → Option Errno
refused_if full = if full then Some EAGAIN else None

refusal_is : (rows : List Row) (v : Vproc) (r : Row) (full : Bool) → IsRecordOf rows v r → is_full v ≡ full → refusal rows r Fork ≡ refused_if full
refusal_is rows v r full of e = ap refused_if (ap (nat_le 64) (sym (count_is rows v r of)) ∙ e)

full_reply : (rows : List Row) (p : Pid) (sig : Signals) (bag : Bag) (r : Row) (v : Vproc) (g : Group) → Settled rows p sig bag r v g → is_stopped r.life ≡ false → deliverable sig ≡ 0 → is_full v ≡ true → IsReply rows p Fork (Refused EAGAIN)
full_reply rows p sig bag r v g a alive clear full = record {
  legal = legal_call rows p r Fork (Refused EAGAIN) a.row a.living (able rows p sig bag r v g a alive clear)
      (ap (λ (o : Option Errno). is_first o (Refused EAGAIN) false) (refusal_is rows v r true (own_record rows p bag r v a.agrees a.row a.vproc) full));
  table = ap (λ o. after_at rows o (Called p Fork (Refused EAGAIN))) a.row;
  sends = λ q c here lives. ap (λ o. sent_at rows o (Called p Fork (Refused EAGAIN)) c) a.row;
  place = λ was here. refl;
  unplaced = refl;
  nobody = λ before left. refl;
  born = tt;
}

-- ---- at the child's node
fork_done : (nodes : ℕ) (rows : List Row) (p : Pid) (at : Option NodeId) (own : Own) (bag : Bag) (site : Site) (a : Asks nodes rows p (Ask Fork at) own bag site) (v : Vproc) (g : Group) → Based rows p own bag a.row v g → is_stopped a.row.life ≡ false → can_call a.row ≡ true → is_full v ≡ false → destination (Ask Fork at) v.loc ≡ Some site.node →
    IsStep rows (next rows (Some (Called p Fork (Number site.fresh.0)))) p (Ask Fork at) site bag (decided_by (fork_effect (folded own v g).sig p site (emptied v))) (left_by (fork_effect (folded own v g).sig p site (emptied v)) p v.group bag)
fork_done nodes rows p at own bag site a v g b alive can room there =
    subst (λ (now : List Row). IsStep rows now p (Ask Fork at) site bag (decided_by (fork_effect (folded own v g).sig p site (emptied v))) (left_by (fork_effect (folded own v g).sig p site (emptied v)) p v.group bag))
    (sym (ap (λ o. after_at rows o (Called p Fork (Number site.fresh.0))) b.row))
    (fork_law rows p site at own bag a.row v g b a.fresh a.unused a.fresh_held alive
    (legal_call rows p a.row Fork (Number site.fresh.0) b.row b.living can
    (ap (λ (o : Option Errno). is_first o (Number site.fresh.0) (is_fresh rows site.fresh.0)) (refusal_is rows v a.row false (own_record rows p bag a.row v b.agrees b.row b.vproc) room) ∙ unused_fresh rows site.fresh.0 b.sound.distinct a.unused))
    there)

-- ---- the whole answer
pub fork_answered : ForkAnswered
fork_answered p at own bag site nodes rows a clear = on_base_right nodes rows p (Ask Fork at) own bag site a (fork_answer at site own bag p) (λ v g b. by v g b (is_full v) refl)
  where
    alive : is_stopped a.row.life ≡ false
    alive = runs_on nodes rows p Fork at own bag site a

    refused : Vproc → Group → Effect
    refused v g = replied p Fork (Refused EAGAIN) (folded own v g).sig

    born : Vproc → Group → Effect
    born v g = fork_effect (folded own v g).sig p site (emptied v)

    chosen : Vproc → Group → Bool → Answered
    chosen v g full = if full then done_by p v bag (refused v g) else done_at (named_or at v.loc) site p v bag (born v g)

    by : (v : Vproc) (g : Group) → Based rows p own bag a.row v g → (full : Bool) → is_full v ≡ full → IsAnswer nodes rows p (Ask Fork at) site bag (chosen v g full).bag (chosen v g full).outcome
    by v g b true full =
        let s = settling rows p own bag a.row v g b in
        shell rows (next rows (Some (Called p Fork (Refused EAGAIN)))) p (Ask Fork at) site own bag a.row v g (refused v g) b
        (reply_step rows p site at (folded own v g).sig (settled_in p v.group bag) a.row (emptied v) (settled g p) Fork (Refused EAGAIN) s alive
        (full_reply rows p (folded own v g).sig (settled_in p v.group bag) a.row (emptied v) (settled g p) s alive (clear v g b.vproc b.group) full))
    by v g b false room =
        let can = can_work rows p own bag a.row v g b alive (clear v g b.vproc b.group) in
        done_at_answers nodes rows p (Ask Fork at) own bag site a v g (named_or at v.loc) (born v g) b can
        (refusal_is rows v a.row false (own_record rows p bag a.row v b.agrees b.row b.vproc) room) refl
        (fork_done nodes rows p at own bag site a v g b alive can room)
