-- a signal that is caught, or discarded, is a step of the one kernel
use Rattle.std.proofs.Common.{◌≡◌, ◌≢◌, ◌||◌, Bool, true, false, cond, List, [], refl, sym, ap, ◌∙◌, subst, Option, Some}
use Rattle.std.specs.Prelude.{map}
use Rattle.std.proofs.lemmas.Bool.{and_parts}
use Rattle.list_laws.proofs.Filters.{some_same}
use Rattle.unix_names.specs.declared.Pid.{Pid}
use Rattle.unix_names.specs.declared.NodeId.{NodeId}
use Rattle.unix_names.specs.declared.Signal.{Signal}
use Rattle.unix_names.specs.declared.Signal.TheVariants.{Kill}
use Rattle.unix_names.specs.Sets.{has, added, minus}
use Rattle.unix_names.proofs.SetLaws.{has-added, has-none}
use Rattle.unix_calls.specs.declared.Event.{Event}
use Rattle.unix_calls.specs.declared.Event.TheVariants.{Caught, Discarded, EndedBy}
use Rattle.unix_calls.specs.declared.Entry.TheVariants.{Happened}
use Rattle.unix_calls.specs.declared.Job.{Job}
use Rattle.signal_state.specs.Signals.{Signals}
use Rattle.signal_state.specs.Sig.{deliverable, delivered}
use Rattle.vproc_record.specs.declared.Vproc.{Vproc}
use Rattle.group_record.specs.declared.Group.{Group}
use Rattle.record_bag.specs.declared.bag.Bag.{Bag}
use Rattle.record_bag.specs.declared.vector.Site.{Site}
use Rattle.process_table.specs.declared.Row.{Row}
use Rattle.kernel_rules.specs.Events.{is_deliverable, may_happen}
use Rattle.kernel_model.specs.declared.Verdict.TheVariants.{Legal}
use Rattle.kernel_model.specs.Step.{verdict, verdict_at, after, after_at, sent, sent_at}
use Rattle.kernel_choice.specs.Choice.{first_event}
use Rattle.kernel_choice.proofs.EventLaws.{chosen_may_happen}
use Rattle.decide_law.specs.Law.{Settled, next, IsStep}
use Rattle.decide_law.specs.Nudges.{nudges_of}
use Rattle.decide_law.specs.Places.{is_placed, place_after}
use Rattle.decide_law.specs.Effects.{decided_by, written}
use Rattle.decide_law.proofs.Records.{row_pid}
use Rattle.decide_law.proofs.OwnStep.{resigned_at, resigning, resigned_own, resigned_other, resigned_kept, signals_step}
use Rattle.ops_deliver.specs.Events.{IsEventStep}
use Rattle.ops_deliver.specs.Taken.{take_effect}

-- ---- who takes a signal and isn't killed is not stopped
running_by : (x : Signals) (s : Signal) (stopped killed : Bool) → has (cond stopped (cond killed (added 0 Kill) 0) (minus x.pending x.mask)) Kill ≡ false → has (cond stopped (cond killed (added 0 Kill) 0) (minus x.pending x.mask)) s ≡ true → stopped ≡ false
running_by x s false killed none takes = refl
running_by x s true false none takes = absurd (cc (takes, has-none s))
running_by x s true true none takes = absurd (cc (has-added 0 Kill Kill, or_last (has 0 Kill), none))
  where
    or_last : (b : Bool) → (b || true) ≡ true
    or_last true = refl
    or_last false = refl

running : (x : Signals) (s : Signal) → has (deliverable x) Kill ≡ false → has (deliverable x) s ≡ true → x.stopped ≡ false
unfolding deliverable
running x s none takes = running_by x s x.stopped (has x.pending Kill) none takes

unkilled : (killed : Bool) (later : Option Event) (event : Event) → cond killed (Some (EndedBy Kill)) later ≡ Some event → EndedBy Kill ≢ event → killed ≡ false
unkilled true later event e ne = absurd (ne (some_same (EndedBy Kill) event e))
unkilled false later event e ne = refl

-- the process runs, where an event comes first that takes a deliverable signal and is no killing
pub runs : (rows : List Row) (p : Pid) (sig : Signals) (bag : Bag) (r : Row) (v : Vproc) (g : Group) (event : Event) (s : Signal) → Settled rows p sig bag r v g → first_event rows r ≡ Some event → EndedBy Kill ≢ event → is_deliverable r s ≡ true → r.sig.stopped ≡ false
runs rows p sig bag r v g event s a first ne takes = running r.sig s (unkilled (is_deliverable r Kill) _ event first ne) takes

-- ---- the step
-- what the rules say of such an event of the process of row r
record Takes (rows : List Row) (p : Pid) (r : Row) (event : Event) (s : Signal) : Type 0 where
  pub legal : verdict rows (Happened p event) ≡ Legal
  pub table : after rows (Happened p event) ≡ map (resigned_at r.pid (λ x. delivered x s)) rows
  pub sends : (c : Row) → sent rows (Happened p event) c ≡ []
  pub place : (was here : NodeId) → place_after (Some (Happened p event)) was here ≡ was
  pub unplaced : is_placed (Some (Happened p event)) ≡ false
  pub nobody : (now : List Row) (before left : Bag) → nudges_of rows now p before left (Some (Happened p event)) ≡ []
  pub alive : r.sig.stopped ≡ false

taken_step : (rows : List Row) (p : Pid) (job : Job) (site : Site) (sig : Signals) (bag : Bag) (r : Row) (v : Vproc) (g : Group) (event : Event) (s : Signal) → Settled rows p sig bag r v g → Takes rows p r event s →
    IsStep rows (next rows (Some (Happened p event))) p job site bag (decided_by (take_effect event s bag sig p v)) (written (take_effect event s bag sig p v) bag)
taken_step rows p job site sig bag r v g event s a t =
    subst (λ (now : List Row). IsStep rows now p job site bag (decided_by (take_effect event s bag sig p v)) (written (take_effect event s bag sig p v) bag)) (sym t.table)
    (signals_step rows p job site sig bag r v g (resigned_at r.pid (λ x. delivered x s)) (Some (Happened p event)) (delivered sig s) a ((a.sound.each p r a.row).stopped_alike a.living ∙ t.alive) record {
      legal = (t.legal, refl);
      asked = tt;
      table = t.table;
      sends = t.sends;
      place = t.place;
      unplaced = t.unplaced;
      nobody = t.nobody (map (resigned_at r.pid (λ x. delivered x s)) rows);
      born = tt;
      keeps = resigning r.pid (λ x. delivered x s);
      change = λ c. refl;
      others = λ c ne. resigned_other r.pid (λ x. delivered x s) c (λ e. ne (e ∙ ap (λ (q : Pid). q.0) (row_pid rows p r a.row)));
      own_record = λ y of. resigned_kept rows r (λ x. delivered x s) y refl of;
      group = λ y. refl;
      stream = λ y h. refl;
      backlog = λ y. refl;
      loc = λ y. refl;
      sig_is = resigned_own r (λ x. delivered x s) ∙ ap (λ (x : Signals). delivered x s) a.sig_is;
    })

-- ---- the two events
pub may : (rows : List Row) (p : Pid) (sig : Signals) (bag : Bag) (r : Row) (v : Vproc) (g : Group) (event : Event) → Settled rows p sig bag r v g → first_event rows r ≡ Some event → may_happen rows r event ≡ true
may rows p sig bag r v g event a first = chosen_may_happen rows r event (a.sound.each p r a.row).signals_kept first

pub caught_is_step : (s : Signal) → IsEventStep (Caught s) (take_effect (Caught s) s)
caught_is_step s rows p job site sig bag r v g a first held =
    let m : may_happen rows r (Caught s) ≡ true = may rows p sig bag r v g (Caught s) a first in
    taken_step rows p job site sig bag r v g (Caught s) s a record {
      legal = ap (λ o. verdict_at rows o (Happened p (Caught s))) a.row ∙ rw (a.living, m);
      table = ap (λ o. after_at rows o (Happened p (Caught s))) a.row;
      sends = λ c. ap (λ o. sent_at rows o (Happened p (Caught s)) c) a.row;
      place = λ was here. refl;
      unplaced = refl;
      nobody = λ now before left. refl;
      alive = runs rows p sig bag r v g (Caught s) s a first (λ e. cc) (and_parts _ _ m).0;
    }

pub discarded_is_step : (s : Signal) → IsEventStep (Discarded s) (take_effect (Discarded s) s)
discarded_is_step s rows p job site sig bag r v g a first held =
    let m : may_happen rows r (Discarded s) ≡ true = may rows p sig bag r v g (Discarded s) a first in
    taken_step rows p job site sig bag r v g (Discarded s) s a record {
      legal = ap (λ o. verdict_at rows o (Happened p (Discarded s))) a.row ∙ rw (a.living, m);
      table = ap (λ o. after_at rows o (Happened p (Discarded s))) a.row;
      sends = λ c. ap (λ o. sent_at rows o (Happened p (Discarded s)) c) a.row;
      place = λ was here. refl;
      unplaced = refl;
      nobody = λ now before left. refl;
      alive = runs rows p sig bag r v g (Discarded s) s a first (λ e. cc) (and_parts _ _ (and_parts _ _ m).0).0;
    }
