-- decisions that change the record of one process alone, and no group
use Rattle.std.proofs.Common.{◌≡◌, ◌≢◌, ◌==◌, ◌↔◌, ◌++◌, Bool, true, false, cond, List, [], drop, refl, sym, ap, ◌∙◌, subst, arith, Option, None, Some, append-nil}
use Rattle.std.specs.Prelude.{map, is_some}
use Rattle.std.specs.Option.{option_map}
use Rattle.std.proofs.lemmas.Bool.{eqb-true, eqb-false}
use Rattle.list_laws.proofs.Filters.{some_same}
use Rattle.unix_names.specs.declared.Pid.{Pid}
use Rattle.unix_names.specs.declared.Signal.{Signal}
use Rattle.unix_names.specs.States.{is_living}
use Rattle.unix_calls.specs.declared.Entry.{Entry}
use Rattle.unix_calls.specs.declared.Job.{Job}
use Rattle.unix_calls.specs.declared.Phase.{Phase}
use Rattle.unix_calls.specs.declared.Phase.TheVariants as phase
use Rattle.signal_state.specs.Signals.{Signals}
use Rattle.signal_state.specs.Sig.{generated_all}
use Rattle.vproc_record.specs.declared.Vproc.{Vproc}
use Rattle.group_record.specs.declared.Group.{Group}
use Rattle.group_record.specs.Log.{log_part}
use Rattle.sig_stream.specs.Streams.{stream}
use Rattle.record_bag.specs.declared.bag.Bag.{Bag}
use Rattle.record_bag.specs.declared.vector.Site.{Site}
use Rattle.process_table.specs.declared.Row.{Row}
use Rattle.process_table.specs.Rows.{row_of, is_stopped}
use Rattle.decide_law.specs.Agrees.{vproc_at, group_at, IsRecordOf, VprocAgrees}
use Rattle.decide_law.specs.Wakes.{WakesOthers}
use Rattle.decide_law.specs.Law.{Settled, next, sent_to, IsLegalOf, IsAnswerTo, IsNoBirth, IsStep}
use Rattle.decide_law.specs.Places.{place_after, is_placed, destination}
use Rattle.decide_law.specs.Effects.{only, same, changed, plain, decided_by, written}
use Rattle.decide_law.proofs.Records.{pid_same, only_other}
use Rattle.kernel_rules.specs.Events.{StaysStopped}
use Rattle.decide_law.proofs.Phases.{lives_on}
use Rattle.decide_law.proofs.Changes.{vproc_changed, group_changed, names_changed, agrees_changed, only_at_same, only_at_other}
use Rattle.decide_law.proofs.Quiet.{same_at}
use Rattle.decide_law.proofs.Plain.{KeepsPlace, row_map, groups_map}
use Rattle.decide_law.specs.Nudges.{nudges_of}

-- what such a decision owes beside: its rows and its record change alike, and it sends nothing
pub record IsPlain (rows : List Row) (p : Pid) (job : Job) (site : Site) (bag : Bag) (r : Row) (f : Row → Row) (t : Pid) (h : Vproc → Vproc) (e : Option Entry) (sig : Signals) (ph : Phase) : Type 0 where
  pub legal : IsLegalOf rows p e
  pub asked : IsAnswerTo job e
  pub table : next rows e ≡ map f rows
  pub sends : (c : Row) → sent_to rows e c ≡ []
  -- the caller's place is the site once it was moved, and else what it was
  pub place : (y : Vproc) → (cond (p.0 == t.0) (h y) y).loc ≡ place_after e y.loc site.node
  pub arrives : is_placed e ≡ true → (y : Vproc) → vproc_at bag p ≡ Some (Some y) → destination job y.loc ≡ Some site.node
  pub nobody : (before left : Bag) → nudges_of rows (map f rows) p before left e ≡ []
  pub born : IsNoBirth e
  pub stops : (ph ≡ phase.Stopped) ↔ (is_stopped (f r).life ≡ true)
  pub stays : ph ≢ phase.Gone
  pub awake : ph ≢ phase.Asleep
  pub rests : ph ≡ phase.Stopped → StaysStopped (f r)
  pub keeps : KeepsPlace f
  -- the record changes with the row, and other rows change by signals alone that they ignore or not as before
  pub own_record : (q : Pid) (y : Vproc) (x : Row) → q.0 ≡ t.0 → row_of rows q ≡ Some x → IsRecordOf rows y x → IsRecordOf (map f rows) (h y) (f x)
  pub other_record : (q : Pid) (y : Vproc) (x : Row) → q.0 ≢ t.0 → row_of rows q ≡ Some x → IsRecordOf rows y x → IsRecordOf (map f rows) y (f x)
  pub held : is_some (vproc_at bag t) ≡ true
  pub group : (y : Vproc) → (h y).group ≡ y.group
  pub stream : (y : Vproc) (g : Group) → stream (h y) g ≡ stream y g
  pub backlog : (y : Vproc) → (h y).backlog ≡ y.backlog
  pub loc : (y : Vproc) → t.0 ≢ p.0 → (h y).loc ≡ y.loc
  pub sig_is : (f r).sig ≡ sig
  pub wakes : WakesOthers rows (map f rows) p []

-- a record whose place stays
pub stays_put : (b : Bool) (x y : Vproc) → x.loc ≡ y.loc → (cond b x y).loc ≡ y.loc
stays_put true x y e = e
stays_put false x y e = refl

pub plain_step : (rows : List Row) (p : Pid) (job : Job) (site : Site) (was : Signals) (bag : Bag) (r : Row) (v : Vproc) (g : Group) (f : Row → Row) (t : Pid) (h : Vproc → Vproc) (e : Option Entry) (sig : Signals) (ph : Phase) →
    Settled rows p was bag r v g → IsPlain rows p job site bag r f t h e sig ph → IsStep rows (map f rows) p job site bag (decided_by (plain e sig ph t h)) (written (plain e sig ph t h) bag)
plain_step rows p job site was bag r v g f t h e sig ph a q = record {
  legal = q.legal;
  table = q.table;
  asked = q.asked;
  holds = ap is_some a.vproc;
  names = names_changed (only t (option_map h)) same bag;
  agrees = agrees_changed rows (map f rows) (only t (option_map h)) same bag a.agrees
      (λ m y at_m. later m y (a.agrees.vprocs m y at_m))
      (λ id y at_id. groups_map rows f id y q.keeps (a.agrees.groups id y at_id));
  vprocs_elsewhere = λ m y away b k. subst (λ (z : Option Vproc). VprocAgrees (map f rows) z (row_of (map f rows) m)) (only_other t (option_map h) m y (apart m away)) (later m y k);
  groups_elsewhere = λ id y away k. groups_map rows f id y q.keeps k;
  own = λ r' here alive.
      let z = kept p v a.vproc in (
        z.0,
        g,
        z.1,
        group_kept z.0.group ∙ ap (group_at bag) z.2 ∙ a.group,
        record {
          taken = omega arith;
          sig = ap (λ (x : Row). x.sig) (some_same _ _ (sym here ∙ row_map rows f p q.keeps ∙ ap (option_map f) a.row)) ∙ q.sig_is ∙ ap (λ (l : List Signal). generated_all sig (drop 0 l)) (sym (z.3 g ∙ a.taken));
        },
      );
  others = λ m x x' ne here here' alive. record {
    both = λ u y eu ey. let z = kept m u eu in (z.0, y, z.1, group_kept z.0.group ∙ ap (group_at bag) z.2 ∙ ey, z.3 y ∙ sym (append-nil (stream u y)) ∙ ap (λ (l : List Signal). stream u y ++ l) (sym (q.sends x)));
    alone = λ u eu none. let z = kept m u eu in (z.0, z.1, z.2, z.4, q.sends x);
    log = λ y eu ey. (y, ap (λ (c : Row). c.group) (some_same _ _ (sym here' ∙ row_map rows f m q.keeps ∙ ap (option_map f) here)) ∙ q.keeps.group x, group_kept x.group ∙ ey, sym (append-nil (log_part m x.uid y)) ∙ ap (λ (l : List Signal). log_part m x.uid y ++ l) (sym (q.sends x)));
    neither = λ eu ey. q.sends x;
  };
  nudged = λ m x x' ne here here' alive some. absurd (some (q.sends x));
  wakes = q.wakes;
  places = λ m u u' ne eu eu'. loc_at m u u' eu eu' ∙ other m u ne (m.0 == t.0) refl;
  place = λ u u' eu eu'. loc_at p u u' eu eu' ∙ q.place u;
  arrives = q.arrives;
  nudges = sym (q.nobody bag (written (plain e sig ph t h) bag));
  birth = q.born;
  phase = lives_on ph _ (f r) (row_map rows f p q.keeps ∙ ap (option_map f) a.row) (ap is_living (q.keeps.life r) ∙ a.living) q.stops q.stays;
  awake = q.awake;
  rests = λ e r' here. subst StaysStopped (some_same (f r) r' (sym (row_map rows f p q.keeps ∙ ap (option_map f) a.row) ∙ here)) (q.rests e);
}
  where
    later : (m : Pid) (y : Option Vproc) → VprocAgrees rows y (row_of rows m) → VprocAgrees (map f rows) (only t (option_map h) m y) (row_of (map f rows) m)
    later m y k = subst (VprocAgrees (map f rows) (only t (option_map h) m y)) (sym (row_map rows f m q.keeps)) (go y (row_of rows m) refl k)
      where
        go : (y : Option Vproc) (o : Option Row) → row_of rows m ≡ o → VprocAgrees rows y o → VprocAgrees (map f rows) (only t (option_map h) m y) (option_map f o)
        go None None s k = none (m.0 == t.0)
          where
            none : (b : Bool) → VprocAgrees (map f rows) (cond b (option_map h None) None) None
            none true = tt
            none false = tt
        go None (Some x) s k = absurd k
        go (Some z) None s k = absurd k
        go (Some z) (Some x) s k = pick (m.0 == t.0) refl
          where
            pick : (b : Bool) → (m.0 == t.0) ≡ b → VprocAgrees (map f rows) (cond b (option_map h (Some z)) (Some z)) (Some (f x))
            pick true i = q.own_record m z x (eqb-true _ _ i) s k
            pick false i = q.other_record m z x (eqb-false _ _ i) s k

    apart : (m : Pid) → vproc_at bag m ≡ None → m.0 ≢ t.0
    apart m away i = let yes : is_some (vproc_at bag m) ≡ true = ap (λ (x : Pid). is_some (vproc_at bag x)) (pid_same m t i) ∙ q.held in let none : is_some (vproc_at bag m) ≡ false = ap is_some away in cc

    group_kept : (id : Pid) → group_at (changed (only t (option_map h)) same bag) id ≡ group_at bag id
    group_kept id = group_changed (only t (option_map h)) same bag id ∙ same_at id (group_at bag id)

    -- a record that was held
    kept : (m : Pid) (u : Vproc) → vproc_at bag m ≡ Some (Some u) →
        (u' : Vproc) × (vproc_at (changed (only t (option_map h)) same bag) m ≡ Some (Some u')) × (u'.group ≡ u.group) × ((y : Group) → stream u' y ≡ stream u y) × (u'.backlog ≡ u.backlog) × (u' ≡ cond (m.0 == t.0) (h u) u)
    kept m u eu = pick (m.0 == t.0) refl
      where
        pick : (b : Bool) → (m.0 == t.0) ≡ b → (u' : Vproc) × (vproc_at (changed (only t (option_map h)) same bag) m ≡ Some (Some u')) × (u'.group ≡ u.group) × ((y : Group) → stream u' y ≡ stream u y) × (u'.backlog ≡ u.backlog) × (u' ≡ cond (m.0 == t.0) (h u) u)
        pick true i = (h u, vproc_changed (only t (option_map h)) same bag m ∙ only_at_same t (option_map h) m (vproc_at bag m) (eqb-true _ _ i) ∙ ap (option_map (option_map h)) eu, q.group u, q.stream u, q.backlog u, sym (ap (λ c. cond c (h u) u) i))
        pick false i = (u, vproc_changed (only t (option_map h)) same bag m ∙ only_at_other t (option_map h) m (vproc_at bag m) (eqb-false _ _ i) ∙ eu, refl, λ y. refl, refl, sym (ap (λ c. cond c (h u) u) i))

    loc_at : (m : Pid) (u u' : Vproc) → vproc_at bag m ≡ Some (Some u) → vproc_at (changed (only t (option_map h)) same bag) m ≡ Some (Some u') → u'.loc ≡ (cond (m.0 == t.0) (h u) u).loc
    loc_at m u u' eu eu' = let z = kept m u eu in let now : z.0 ≡ u' = some_same _ _ (some_same _ _ (sym z.1 ∙ eu')) in ap (λ (w : Vproc). w.loc) (sym now ∙ z.5)

    other : (m : Pid) (u : Vproc) → m.0 ≢ p.0 → (b : Bool) → (m.0 == t.0) ≡ b → (cond b (h u) u).loc ≡ u.loc
    other m u ne true i = q.loc u (λ e. ne (eqb-true _ _ i ∙ e))
    other m u ne false i = refl
