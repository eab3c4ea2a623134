-- decisions that change the caller's record or its signals, and nothing else
use Rattle.std.proofs.Common.{◌≡◌, ◌≢◌, ◌==◌, ℕ, Bool, true, false, cond, List, [], ◌∷◌, refl, sym, ap, ◌∙◌, subst, Option, None, Some}
use Rattle.std.specs.Prelude.{map, is_some, if◌then◌else◌}
use Rattle.std.proofs.lemmas.Bool.{ne_eqb}
use Rattle.std.specs.Option.{option_map}
use Rattle.list_laws.specs.Keyed.{option_filter}
use Rattle.list_laws.proofs.Filters.{some_same}
use Rattle.list_laws.proofs.Finding.{same_number}
use Rattle.unix_names.specs.declared.Pid.{Pid}
use Rattle.unix_names.specs.declared.NodeId.{NodeId}
use Rattle.unix_calls.specs.declared.Entry.{Entry}
use Rattle.unix_calls.specs.declared.Job.{Job}
use Rattle.unix_calls.specs.declared.Phase.TheVariants as phase
use Rattle.signal_state.specs.Signals.{Signals}
use Rattle.unix_names.specs.declared.Signal.TheVariants.{Chld}
use Rattle.unix_names.specs.Sets.{has}
use Rattle.vproc_record.specs.declared.Vproc.{Vproc}
use Rattle.group_record.specs.declared.Group.{Group}
use Rattle.ordered_table.specs.declared.Entry.{Entry as Held}
use Rattle.sig_stream.specs.Streams.{stream}
use Rattle.record_bag.specs.declared.bag.Bag.{Bag}
use Rattle.record_bag.specs.declared.vector.Site.{Site}
use Rattle.process_table.specs.declared.Row.{Row}
use Rattle.process_table.specs.Rows.{row_of, is_pid, is_parent, is_stopped}
use Rattle.decide_law.specs.Agrees.{IsRecordOf}
use Rattle.decide_law.specs.Wakes.{report_in, WakesOthers}
use Rattle.decide_law.specs.Nudges.{nudges_of}
use Rattle.decide_law.specs.Places.{is_placed, place_after}
use Rattle.decide_law.specs.Law.{Settled, next, sent_to, IsLegalOf, IsAnswerTo, IsNoBirth, IsStep}
use Rattle.decide_law.specs.Effects.{only, same, quiet, plain, decided_by, written}
use Rattle.decide_law.proofs.Records.{pid_same, row_pid, still_record}
use Rattle.decide_law.proofs.Plain.{KeepsPlace, row_map, children_map}
use Rattle.decide_law.proofs.PlainStep.{stays_put, plain_step}
use Rattle.ordered_table.specs.Entries.{with_each}

-- rows that keep who they are, where, and what they have to report are seen by waits as before
pub kept_wakes : (rows : List Row) (f : Row → Row) (p : Pid) (nudges : List Pid) → KeepsPlace f → ((c : Row) → (f c).change ≡ c.change) → WakesOthers rows (map f rows) p nudges
kept_wakes rows f p nudges k change = λ m r r' ne here here' alive none. (
  ap (λ (c : Row). c.group) (some_same _ _ (sym here' ∙ row_map rows f m k ∙ ap (option_map f) here)) ∙ k.group r,
  λ q. ap (λ (o : Option Row). option_map report_in (option_filter (is_parent m) o)) (row_map rows f q k) ∙ go m (row_of rows q),
)
  where
    seen : (c : Row) → report_in (f c) ≡ report_in c
    seen c = ap (λ (g : Pid). record { group = g; life = (f c).life; change = (f c).change }) (k.group c) ∙ ap (λ l. record { group = c.group; life = l; change = (f c).change }) (k.life c) ∙ ap (λ w. record { group = c.group; life = c.life; change = w }) (change c)

    last : (c : Row) (b : Bool) → option_map report_in (cond b (Some (f c)) None) ≡ option_map report_in (cond b (Some c) None)
    last c true = ap Some (seen c)
    last c false = refl

    go : (m : Pid) (o : Option Row) → option_map report_in (option_filter (is_parent m) (option_map f o)) ≡ option_map report_in (option_filter (is_parent m) o)
    go m None = refl
    go m (Some c) = ap (λ (q : Pid). option_map report_in (cond (q.0 == m.0) (Some (f c)) None)) (k.parent c) ∙ last c (is_parent m c)

-- what such a decision owes: its row changes as its record and its signals do, and no other row
pub record IsOwnChange (rows : List Row) (p : Pid) (job : Job) (r : Row) (f : Row → Row) (h : Vproc → Vproc) (e : Option Entry) (sig : Signals) : Type 0 where
  pub legal : IsLegalOf rows p e
  pub asked : IsAnswerTo job e
  pub table : next rows e ≡ map f rows
  pub sends : (c : Row) → sent_to rows e c ≡ []
  pub place : (was here : NodeId) → place_after e was here ≡ was
  pub unplaced : is_placed e ≡ false
  pub nobody : (before left : Bag) → nudges_of rows (map f rows) p before left e ≡ []
  pub born : IsNoBirth e
  pub keeps : KeepsPlace f
  pub change : (c : Row) → (f c).change ≡ c.change
  pub others : (c : Row) → c.pid.0 ≢ p.0 → f c ≡ c
  pub own_record : (y : Vproc) → IsRecordOf rows y r → IsRecordOf (map f rows) (h y) (f r)
  pub group : (y : Vproc) → (h y).group ≡ y.group
  pub stream : (y : Vproc) (g : Group) → stream (h y) g ≡ stream y g
  pub backlog : (y : Vproc) → (h y).backlog ≡ y.backlog
  pub loc : (y : Vproc) → (h y).loc ≡ y.loc
  pub sig_is : (f r).sig ≡ sig

-- the record of another process
other_is : (rows : List Row) (f : Row → Row) (y : Vproc) (x : Row) → KeepsPlace f → IsRecordOf rows y x → IsRecordOf (map f rows) y x
other_is rows f y x k of = still_record rows (map f rows) y x x.sig y.ignchld y.children of.ignchld (of.children ∙ sym (children_map rows f x.pid k)) of

pub own_step : (rows : List Row) (p : Pid) (job : Job) (site : Site) (was : Signals) (bag : Bag) (r : Row) (v : Vproc) (g : Group) (f : Row → Row) (h : Vproc → Vproc) (e : Option Entry) (sig : Signals) → Settled rows p was bag r v g → is_stopped r.life ≡ false →
    IsOwnChange rows p job r f h e sig → IsStep rows (map f rows) p job site bag (decided_by (plain e sig phase.Ready p h)) (written (plain e sig phase.Ready p h) bag)
own_step rows p job site was bag r v g f h e sig a alive q =
    plain_step rows p job site was bag r v g f p h e sig phase.Ready a record {
      legal = q.legal;
      asked = q.asked;
      table = q.table;
      sends = q.sends;
      place = λ y. stays_put (p.0 == p.0) (h y) y (q.loc y) ∙ sym (q.place y.loc site.node);
      arrives = λ placed y ey. let n : true ≡ false = sym placed ∙ q.unplaced in cc;
      nobody = q.nobody;
      born = q.born;
      stops = (λ s. cc, λ s. let n : true ≡ false = sym s ∙ ap is_stopped (q.keeps.life r) ∙ alive in cc);
      stays = λ s. cc;
      awake = λ s. cc;
      rests = λ s. absurd (cc s);
      keeps = q.keeps;
      own_record = λ m y x i here of. let same : x ≡ r = some_same x r (sym here ∙ ap (row_of rows) (pid_same m p i) ∙ a.row) in subst (λ (z : Row). IsRecordOf (map f rows) (h y) (f z)) (sym same) (q.own_record y (subst (IsRecordOf rows y) same of));
      other_record = λ m y x ne here of. subst (IsRecordOf (map f rows) y) (sym (q.others x (λ i. ne (ap (λ (k : Pid). k.0) (sym (row_pid rows m x here)) ∙ i)))) (other_is rows f y x q.keeps of);
      held = ap is_some a.vproc;
      group = q.group;
      stream = q.stream;
      backlog = q.backlog;
      loc = λ y ne. q.loc y;
      sig_is = q.sig_is;
      wakes = kept_wakes rows f p [] q.keeps q.change;
    }

-- ---- where the record stays as it is
stays_each : (p : Pid) (es : List (Held (Option Vproc))) → with_each (only p (option_map (λ (y : Vproc). y))) es ≡ with_each same es
stays_each p [] = refl
stays_each p (x ∷ es) = ap (λ (h : Option Vproc). (record { pid = x.pid; value = h }) ∷ with_each (only p (option_map (λ (y : Vproc). y))) es) (go (x.pid.0 == p.0) x.value) ∙ ap (λ (l : List (Held (Option Vproc))). (record { pid = x.pid; value = x.value }) ∷ l) (stays_each p es)
  where
    one : (h : Option Vproc) → option_map (λ (y : Vproc). y) h ≡ h
    one None = refl
    one (Some y) = refl

    go : (b : Bool) (h : Option Vproc) → cond b (option_map (λ (y : Vproc). y) h) h ≡ h
    go true h = one h
    go false h = refl

-- a change of the caller's signals alone
pub signals_step : (rows : List Row) (p : Pid) (job : Job) (site : Site) (was : Signals) (bag : Bag) (r : Row) (v : Vproc) (g : Group) (f : Row → Row) (e : Option Entry) (sig : Signals) → Settled rows p was bag r v g → is_stopped r.life ≡ false →
    IsOwnChange rows p job r f (λ y. y) e sig → IsStep rows (map f rows) p job site bag (decided_by (quiet e sig phase.Ready)) (written (quiet e sig phase.Ready) bag)
signals_step rows p job site was bag r v g f e sig a alive q =
    subst (λ vs. IsStep rows (map f rows) p job site bag (decided_by (quiet e sig phase.Ready)) (record { vprocs = vs; groups = (written (quiet e sig phase.Ready) bag).groups })) (stays_each p bag.vprocs) (own_step rows p job site was bag r v g f (λ y. y) e sig a alive q)

-- ---- changes of a row's signals
-- the signals of one process change so
abbrev pub resigned_at : Pid → (Signals → Signals) → Row → Row
resigned_at p k c = record c { sig = if is_pid p c then k c.sig else c.sig }

pub resigning : (p : Pid) (k : Signals → Signals) → KeepsPlace (resigned_at p k)
resigning p k = record { pid = λ x. refl; parent = λ x. refl; group = λ x. refl; session = λ x. refl; uid = λ x. refl; life = λ x. refl }

pub resigned_own : (r : Row) (k : Signals → Signals) → (resigned_at r.pid k r).sig ≡ k r.sig
resigned_own r k = ap (λ (b : Bool). cond b (k r.sig) r.sig) (same_number r.pid.0)

pub resigned_other : (p : Pid) (k : Signals → Signals) (c : Row) → c.pid.0 ≢ p.0 → resigned_at p k c ≡ c
resigned_other p k c ne = ap (λ (b : Bool). record c { sig = cond b (k c.sig) c.sig }) (ne_eqb c.pid.0 p.0 ne)

-- the record is right where it tells what is then ignored
pub resigned_told : (rows : List Row) (r : Row) (k : Signals → Signals) (y : Vproc) (ignores : Bool) → ignores ≡ has (k r.sig).ignored Chld → IsRecordOf rows y r → IsRecordOf (map (resigned_at r.pid k) rows) (record y { ignchld = ignores }) (resigned_at r.pid k r)
resigned_told rows r k y ignores is of =
    still_record rows (map (resigned_at r.pid k) rows) y r (resigned_at r.pid k r).sig ignores y.children (is ∙ ap (λ (x : Signals). has x.ignored Chld) (sym (resigned_own r k))) (of.children ∙ sym (children_map rows (resigned_at r.pid k) r.pid (resigning r.pid k))) of

-- it stays right where what is ignored stays
pub resigned_kept : (rows : List Row) (r : Row) (k : Signals → Signals) (y : Vproc) → (k r.sig).ignored ≡ r.sig.ignored → IsRecordOf rows y r → IsRecordOf (map (resigned_at r.pid k) rows) y (resigned_at r.pid k r)
resigned_kept rows r k y keeps of = resigned_told rows r k y y.ignchld (of.ignchld ∙ ap (λ (n : ℕ). has n Chld) (sym keeps)) of
