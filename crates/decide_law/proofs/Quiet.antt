-- decisions that leave the table as it is
use Rattle.std.proofs.Common.{◌≡◌, ◌≢◌, ◌↔◌, ◌++◌, true, List, [], drop, refl, sym, ap, ◌∙◌, arith, Option, None, Some, append-nil, subst, false}
use Rattle.std.specs.Prelude.{is_some}
use Rattle.std.specs.Option.{option_map}
use Rattle.list_laws.proofs.Filters.{some_same}
use Rattle.unix_names.specs.declared.Pid.{Pid}
use Rattle.unix_names.specs.declared.NodeId.{NodeId}
use Rattle.unix_names.specs.declared.Signal.{Signal}
use Rattle.unix_names.specs.States.{is_living}
use Rattle.unix_calls.specs.declared.Call.{Call}
use Rattle.unix_calls.specs.declared.Reply.{Reply}
use Rattle.unix_calls.specs.declared.Entry.{Entry}
use Rattle.unix_calls.specs.declared.Entry.TheVariants.{Called}
use Rattle.unix_calls.specs.declared.Job.{Job}
use Rattle.unix_calls.specs.declared.Phase.{Phase}
use Rattle.unix_calls.specs.declared.Phase.TheVariants as phase
use Rattle.signal_state.specs.Signals.{Signals}
use Rattle.signal_state.specs.Sig.{generated_all}
use Rattle.vproc_record.specs.declared.Vproc.{Vproc}
use Rattle.group_record.specs.declared.Group.{Group}
use Rattle.group_record.specs.Log.{log_part}
use Rattle.sig_stream.specs.Streams.{stream}
use Rattle.record_bag.specs.declared.bag.Bag.{Bag}
use Rattle.record_bag.specs.declared.vector.Site.{Site}
use Rattle.process_table.specs.declared.Row.{Row}
use Rattle.process_table.specs.Rows.{row_of, is_stopped}
use Rattle.kernel_rules.specs.Events.{can_call}
use Rattle.kernel_rules.specs.Calls.{allows}
use Rattle.kernel_model.specs.declared.Verdict.TheVariants.{Legal}
use Rattle.kernel_model.specs.Step.{verdict, verdict_at}
use Rattle.decide_law.specs.Agrees.{vproc_at, group_at}
use Rattle.decide_law.specs.Law.{Settled, next, sent_to, IsLegalOf, IsAnswerTo, IsNoBirth, IsStep}
use Rattle.decide_law.specs.Places.{place_after, is_placed}
use Rattle.decide_law.specs.Effects.{same, changed, quiet, decided_by, written}
use Rattle.kernel_rules.specs.Events.{StaysStopped}
use Rattle.decide_law.proofs.Phases.{lives_on}
use Rattle.decide_law.proofs.Changes.{vproc_changed, group_changed, names_changed, agrees_changed}
use Rattle.decide_law.specs.Nudges.{nudges_of}

-- a call that the rules allow
pub legal_call : (rows : List Row) (p : Pid) (r : Row) (call : Call) (reply : Reply) → row_of rows p ≡ Some r → is_living r.life ≡ true → can_call r ≡ true → allows rows r call reply ≡ true → verdict rows (Called p call reply) ≡ Legal
legal_call rows p r call reply here alive clear ok = ap (λ o. verdict_at rows o (Called p call reply)) here ∙ rw (alive, clear, ok)

pub same_at : {T : Type 0} (q : Pid) (o : Option T) → option_map (same q) o ≡ o
same_at q None = refl
same_at q (Some x) = refl

-- what a decision without effect owes beside: its entry is allowed, leaves the table and sends nothing, and the image stops exactly where the row does
pub record IsQuiet (rows : List Row) (p : Pid) (job : Job) (site : Site) (r : Row) (e : Option Entry) (ph : Phase) : Type 0 where
  pub legal : IsLegalOf rows p e
  pub asked : IsAnswerTo job e
  pub table : next rows e ≡ rows
  pub sends : (q : Pid) (c : Row) → row_of rows q ≡ Some c → is_living c.life ≡ true → sent_to rows e c ≡ []
  pub place : (was here : NodeId) → place_after e was here ≡ was
  pub unplaced : is_placed e ≡ false
  pub nobody : (before left : Bag) → nudges_of rows rows p before left e ≡ []
  pub born : IsNoBirth e
  pub stops : (ph ≡ phase.Stopped) ↔ (is_stopped r.life ≡ true)
  pub stays : ph ≢ phase.Gone
  pub awake : ph ≢ phase.Asleep
  pub rests : ph ≡ phase.Stopped → StaysStopped r

pub quiet_step : (rows : List Row) (p : Pid) (job : Job) (site : Site) (sig : Signals) (bag : Bag) (r : Row) (v : Vproc) (g : Group) (e : Option Entry) (ph : Phase) →
    Settled rows p sig bag r v g → IsQuiet rows p job site r e ph → IsStep rows rows p job site bag (decided_by (quiet e sig ph)) (written (quiet e sig ph) bag)
quiet_step rows p job site sig bag r v g e ph a q = record {
  legal = q.legal;
  table = q.table;
  asked = q.asked;
  holds = ap is_some a.vproc;
  names = names_changed same same bag;
  agrees = agrees_changed rows rows same same bag a.agrees a.agrees.vprocs a.agrees.groups;
  vprocs_elsewhere = λ m h away b k. k;
  groups_elsewhere = λ id h away k. k;
  own = λ r' here alive. (
    v,
    g,
    vproc_changed same same bag p ∙ same_at p (vproc_at bag p) ∙ a.vproc,
    group_changed same same bag v.group ∙ same_at v.group (group_at bag v.group) ∙ a.group,
    record {
      taken = omega arith;
      sig = ap (λ (x : Row). x.sig) (some_same r' r (sym here ∙ a.row)) ∙ a.sig_is ∙ ap (λ (l : List Signal). generated_all sig (drop 0 l)) (sym a.taken);
    },
  );
  others = λ m x x' ne here here' alive. let none_sent = q.sends m x here (ap (λ (c : Row). is_living c.life) (some_same x x' (sym here ∙ here')) ∙ alive) in record {
    both = λ u h eu eh. (u, h, kept_vproc m ∙ eu, kept_group u.group ∙ eh, sym (append-nil (stream u h)) ∙ ap (λ (l : List Signal). stream u h ++ l) (sym none_sent));
    alone = λ u eu none. (u, kept_vproc m ∙ eu, refl, refl, none_sent);
    log = λ h eu eh. (h, ap (λ (c : Row). c.group) (some_same x' x (sym here' ∙ here)), kept_group x.group ∙ eh, sym (append-nil (log_part m x.uid h)) ∙ ap (λ (l : List Signal). log_part m x.uid h ++ l) (sym none_sent));
    neither = λ eu eh. none_sent;
  };
  nudged = λ m x x' ne here here' alive some. absurd (some (q.sends m x here (ap (λ (c : Row). is_living c.life) (some_same x x' (sym here ∙ here')) ∙ alive)));
  wakes = λ m x x' ne here here' alive none. (ap (λ (c : Row). c.group) (some_same x' x (sym here' ∙ here)), λ i. refl);
  places = λ m u u' ne eu eu'. ap (λ (w : Vproc). w.loc) (some_same _ _ (some_same _ _ (sym eu' ∙ kept_vproc m ∙ eu)));
  place = λ u u' eu eu'. ap (λ (w : Vproc). w.loc) (some_same _ _ (some_same _ _ (sym eu' ∙ kept_vproc p ∙ eu))) ∙ sym (q.place u.loc site.node);
  arrives = λ placed u eu. let f : true ≡ false = sym placed ∙ q.unplaced in cc;
  nudges = sym (q.nobody bag (written (quiet e sig ph) bag));
  birth = q.born;
  phase = lives_on ph _ r a.row a.living q.stops q.stays;
  awake = q.awake;
  rests = λ e r' here. subst StaysStopped (some_same r r' (sym a.row ∙ here)) (q.rests e);
}
  where
    kept_vproc : (m : Pid) → vproc_at (changed same same bag) m ≡ vproc_at bag m
    kept_vproc m = vproc_changed same same bag m ∙ same_at m (vproc_at bag m)

    kept_group : (id : Pid) → group_at (changed same same bag) id ≡ group_at bag id
    kept_group id = group_changed same same bag id ∙ same_at id (group_at bag id)
