-- a migration and a push take the caller to the site
use Rattle.std.proofs.Common.{◌≡◌, Bool, true, false, cond, List, [], refl, sym, ap, ◌∙◌, subst, Option, Some}
use Rattle.std.specs.Prelude.{map, is_some}
use Rattle.std.proofs.lemmas.Bool.{eq-eqb}
use Rattle.list_laws.proofs.Filters.{some_same, map-id}
use Rattle.unix_names.specs.declared.Pid.{Pid}
use Rattle.unix_names.specs.declared.NodeId.{NodeId}
use Rattle.unix_calls.specs.declared.Entry.{Entry}
use Rattle.unix_calls.specs.declared.Entry.TheVariants.{Called, Happened}
use Rattle.unix_calls.specs.declared.Call.TheVariants.{Migrate}
use Rattle.unix_calls.specs.declared.Reply.TheVariants.{Fine}
use Rattle.unix_calls.specs.declared.Event.TheVariants.{Moved}
use Rattle.unix_calls.specs.declared.Job.{Job}
use Rattle.unix_calls.specs.declared.Job.TheVariants.{Ask, Push}
use Rattle.unix_calls.specs.declared.Phase.TheVariants as phase
use Rattle.signal_state.specs.Signals.{Signals}
use Rattle.signal_state.specs.declared.Own.{Own}
use Rattle.vproc_record.specs.declared.Vproc.{Vproc}
use Rattle.group_record.specs.declared.Group.{Group}
use Rattle.group_record.specs.Groups.{settled}
use Rattle.record_bag.specs.declared.bag.Bag.{Bag}
use Rattle.record_bag.specs.declared.vector.Site.{Site}
use Rattle.process_table.specs.declared.Row.{Row}
use Rattle.process_table.specs.Rows.{is_stopped}
use Rattle.kernel_rules.specs.Events.{can_call}
use Rattle.kernel_model.specs.Step.{verdict_at, after_at, sent_at}
use Rattle.decide_law.specs.Agrees.{IsRecordOf}
use Rattle.decide_law.specs.Wakes.{WakesOthers}
use Rattle.decide_law.specs.Law.{Based, Settled, next, sent_to, IsLegalOf, IsAnswerTo, IsNoBirth, IsStep}
use Rattle.decide_law.specs.Places.{place_after, destination}
use Rattle.migrate_core.specs.Moves.{placed, arrival}
use Rattle.decide_law.specs.Effects.{folded, emptied, settled_in, decided_by, written, left_by}
use Rattle.decide_law.proofs.Shell.{settling, shell}
use Rattle.decide_law.proofs.Quiet.{legal_call}
use Rattle.decide_law.proofs.PlainStep.{plain_step}
use Rattle.decide_law.specs.Nudges.{nudges_of}

same_wakes : (rows : List Row) (p : Pid) → WakesOthers rows rows p []
same_wakes rows p = λ m r r' ne here here' alive none. (ap (λ (c : Row). c.group) (some_same r' r (sym here' ∙ here)), λ q. refl)

same_record : (rows : List Row) (site : Site) (y : Vproc) (x : Row) → IsRecordOf rows y x → IsRecordOf (map (λ c. c) rows) (placed site y) x
same_record rows site y x of = subst (λ (now : List Row). IsRecordOf now (placed site y) x) (sym (map-id rows)) record { pid = of.pid; parent = of.parent; group = of.group; session = of.session; uid = of.uid; life = of.life; change = of.change; execed = of.execed; ignchld = of.ignchld; children = of.children }

arrival_step : (rows : List Row) (p : Pid) (job : Job) (site : Site) (sig : Signals) (bag : Bag) (r : Row) (v : Vproc) (g : Group) (e : Entry) → Settled rows p sig bag r v g → is_stopped r.life ≡ false →
    IsLegalOf rows p (Some e) → IsAnswerTo job (Some e) → next rows (Some e) ≡ rows → ((c : Row) → sent_to rows (Some e) c ≡ []) → IsNoBirth (Some e) → ((was here : NodeId) → place_after (Some e) was here ≡ here) → destination job v.loc ≡ Some site.node → ((before left : Bag) → nudges_of rows rows p before left (Some e) ≡ []) →
    IsStep rows (next rows (Some e)) p job site bag (decided_by (arrival e sig p site)) (written (arrival e sig p site) bag)
arrival_step rows p job site sig bag r v g e a alive legal asked table sends born place there nobody =
    subst (λ (now : List Row). IsStep rows now p job site bag (decided_by (arrival e sig p site)) (written (arrival e sig p site) bag)) (map-id rows ∙ sym table)
    (plain_step rows p job site sig bag r v g (λ c. c) p (placed site) (Some e) sig phase.Ready a record {
      legal = legal;
      asked = asked;
      table = table ∙ sym (map-id rows);
      sends = sends;
      place = λ y. ap (λ (b : Bool). (cond b (placed site y) y).loc) (eq-eqb p.0 p.0 refl) ∙ sym (place y.loc site.node);
      arrives = λ placed y ey. subst (λ (z : Vproc). destination job z.loc ≡ Some site.node) (some_same _ _ (some_same _ _ (sym a.vproc ∙ ey))) there;
      nobody = λ before left. subst (λ (now : List Row). nudges_of rows now p before left (Some e) ≡ []) (sym (map-id rows)) (nobody before left);
      born = born;
      stops = (λ e. cc, λ e. cc);
      stays = λ e. cc;
      awake = λ e. cc;
      rests = λ e. absurd (cc e);
      keeps = record { pid = λ x. refl; parent = λ x. refl; group = λ x. refl; session = λ x. refl; uid = λ x. refl; life = λ x. refl };
      own_record = λ q y x same here of. same_record rows site y x of;
      other_record = λ q y x other here of. subst (λ (now : List Row). IsRecordOf now y x) (sym (map-id rows)) of;
      held = ap is_some a.vproc;
      group = λ y. refl;
      stream = λ y h. refl;
      backlog = λ y. refl;
      loc = λ y ne. absurd (ne refl);
      sig_is = a.sig_is;
      wakes = subst (λ (now : List Row). WakesOthers rows now p []) (sym (map-id rows)) (same_wakes rows p);
    })

-- migrate, asked at the site to which it goes: the whole decision
pub migrate_law : (rows : List Row) (p : Pid) (site : Site) (at : Option NodeId) (own : Own) (bag : Bag) (r : Row) (v : Vproc) (g : Group) → Based rows p own bag r v g → is_stopped r.life ≡ false → can_call r ≡ true → destination (Ask Migrate at) v.loc ≡ Some site.node →
    IsStep rows (next rows (Some (Called p Migrate Fine))) p (Ask Migrate at) site bag (decided_by (arrival (Called p Migrate Fine) (folded own v g).sig p site)) (left_by (arrival (Called p Migrate Fine) (folded own v g).sig p site) p v.group bag)
migrate_law rows p site at own bag r v g a alive can there =
    let s = settling rows p own bag r v g a in
    shell rows (next rows (Some (Called p Migrate Fine))) p (Ask Migrate at) site own bag r v g (arrival (Called p Migrate Fine) (folded own v g).sig p site) a
    (arrival_step rows p (Ask Migrate at) site (folded own v g).sig (settled_in p v.group bag) r (emptied v) (settled g p) (Called p Migrate Fine) s alive
    (legal_call rows p r Migrate Fine a.row a.living can refl, refl) refl
    (ap (λ o. after_at rows o (Called p Migrate Fine)) a.row) (λ c. ap (λ o. sent_at rows o (Called p Migrate Fine) c) a.row) tt (λ was here. refl) there (λ before left. refl))

-- a push, at the site to which it goes: the whole decision
pub push_law : (rows : List Row) (p : Pid) (site : Site) (node : NodeId) (own : Own) (bag : Bag) (r : Row) (v : Vproc) (g : Group) → Based rows p own bag r v g → is_stopped r.life ≡ false → can_call r ≡ true → destination (Push node) v.loc ≡ Some site.node →
    IsStep rows (next rows (Some (Happened p Moved))) p (Push node) site bag (decided_by (arrival (Happened p Moved) (folded own v g).sig p site)) (left_by (arrival (Happened p Moved) (folded own v g).sig p site) p v.group bag)
push_law rows p site node own bag r v g a alive can there =
    let s = settling rows p own bag r v g a in
    shell rows (next rows (Some (Happened p Moved))) p (Push node) site own bag r v g (arrival (Happened p Moved) (folded own v g).sig p site) a
    (arrival_step rows p (Push node) site (folded own v g).sig (settled_in p v.group bag) r (emptied v) (settled g p) (Happened p Moved) s alive
    (ap (λ o. verdict_at rows o (Happened p Moved)) a.row ∙ rw (a.living, can) refl, refl) tt
    (ap (λ o. after_at rows o (Happened p Moved)) a.row) (λ c. ap (λ o. sent_at rows o (Happened p Moved) c) a.row) tt (λ was here. refl) there (λ before left. refl))
