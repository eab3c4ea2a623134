-- one process gets another life, and its parent a signal
use Rattle.std.proofs.Common.{◌≡◌, ◌==◌, ◌&&◌, ◌+◌, ◌-◌, ℕ, Bool, true, false, cond, List, [], ◌∷◌, length, refl, sym, ap, ◌∙◌, subst, arith, Option, None, Some}
use Rattle.std.specs.Prelude.{map, filter, if◌then◌else◌}
use Rattle.std.specs.Option.{option_map}
use Rattle.std.proofs.lemmas.Bool.{eqb-true}
use Rattle.list_laws.specs.Keyed.{option_filter, one_if}
use Rattle.list_laws.proofs.Filters.{some_same, map-map, length-filter-map, views-map}
use Rattle.list_laws.proofs.Elements.{filter-same}
use Rattle.list_laws.proofs.Counts.{count-one}
use Rattle.list_laws.proofs.Finding.{at-map, found}
use Rattle.unix_names.specs.declared.Pid.{Pid}
use Rattle.unix_names.specs.declared.Signal.TheVariants.{Chld}
use Rattle.unix_names.specs.declared.Life.{Life}
use Rattle.unix_names.specs.declared.WaitStatus.{WaitStatus}
use Rattle.unix_names.specs.Sets.{has}
use Rattle.unix_names.specs.States.{is_living}
use Rattle.signal_state.specs.Signals.{Signals}
use Rattle.vproc_record.specs.declared.Vproc.{Vproc}
use Rattle.process_table.specs.declared.Row.{Row}
use Rattle.process_table.specs.Rows.{row_of, is_pid, is_parent, in_group}
use Rattle.process_table.specs.Orphans.{is_outside_parent, is_link_of}
use Rattle.kernel_model.specs.Sound.{IsSound}
use Rattle.process_table.specs.Changes.{receives, received}
use Rattle.kernel_rules.specs.Ending.{sent_to_parent}
use Rattle.decide_law.specs.Agrees.{children_of, uid_in, links_in, IsRecordOf, VprocAgrees}
use Rattle.decide_law.specs.Effects.{only}
use Rattle.decide_law.proofs.Records.{number, distinct, pid_same}
use Rattle.ops_deliver.proofs.Grown.{ignored_all}
use Rattle.ops_deliver.specs.Turn.{turned_vproc}

-- ---- the table
-- the row of p with this life, that to report, and its signals changed
abbrev pub turned_at : Pid → Life → WaitStatus → (Signals → Signals) → Row → Row
turned_at p l w k c = record c {
  life = if is_pid p c then l else c.life;
  change = if is_pid p c then Some w else c.change;
  sig = if is_pid p c then k c.sig else c.sig;
}

abbrev pub turn : Row → Life → WaitStatus → (Signals → Signals) → Row → Row
turn r l w k c = receives (sent_to_parent r) (turned_at r.pid l w k c)

abbrev pub turned_rows : List Row → Row → Life → WaitStatus → (Signals → Signals) → List Row
turned_rows rows r l w k = map (turn r l w k) rows

pub turned_is : (rows : List Row) (r : Row) (l : Life) (w : WaitStatus) (k : Signals → Signals) → received (sent_to_parent r) (map (turned_at r.pid l w k) rows) ≡ turned_rows rows r l w k
turned_is rows r l w k = map-map (receives (sent_to_parent r)) (turned_at r.pid l w k) rows

module _ (rows : List Row) (r : Row) (l : Life) (w : WaitStatus) (k : Signals → Signals) where
  pub row_turn : (q : Pid) → row_of (turned_rows rows r l w k) q ≡ option_map (turn r l w k) (row_of rows q)
  row_turn q = at-map number number (turn r l w k) (λ _. refl) q.0 rows

  pub here_turn : (q : Pid) (c : Row) → row_of rows q ≡ Some c → row_of (turned_rows rows r l w k) q ≡ Some (turn r l w k c)
  here_turn q c e = row_turn q ∙ ap (option_map (turn r l w k)) e

  pub comes_turn : (q : Pid) (c : Row) → row_of (turned_rows rows r l w k) q ≡ Some c → (b : Row) × (row_of rows q ≡ Some b) × (c ≡ turn r l w k b)
  comes_turn q c e = go (row_of rows q) refl (sym (row_turn q) ∙ e)
    where
      go : (o : Option Row) → row_of rows q ≡ o → option_map (turn r l w k) o ≡ Some c → (b : Row) × (row_of rows q ≡ Some b) × (c ≡ turn r l w k b)
      go None h m = cc
      go (Some b) h m = (b, h, sym (some_same _ _ m))

  pub children_turn : (q : Pid) → children_of (turned_rows rows r l w k) q ≡ children_of rows q
  children_turn q = views-map (λ (c : Row). c.pid) (is_parent q) (turn r l w k) (λ _. refl) (λ _. refl) rows

  pub uid_turn : (id q : Pid) → uid_in (turned_rows rows r l w k) id q ≡ uid_in rows id q
  uid_turn id q = ap (λ (o : Option Row). option_map (λ (c : Row). c.uid) (option_filter (in_group id) o)) (row_turn q) ∙ go (row_of rows q)
    where
      last : (x : Row) (b : Bool) → option_map (λ (c : Row). c.uid) (cond b (Some (turn r l w k x)) None) ≡ option_map (λ (c : Row). c.uid) (cond b (Some x) None)
      last x true = refl
      last x false = refl

      go : (o : Option Row) → option_map (λ (c : Row). c.uid) (option_filter (in_group id) (option_map (turn r l w k) o)) ≡ option_map (λ (c : Row). c.uid) (option_filter (in_group id) o)
      go None = refl
      go (Some x) = last x (in_group id x)

  outside_turn : (c : Row) (o : Option Row) → is_outside_parent c (option_map (turn r l w k) o) ≡ is_outside_parent c o
  outside_turn c None = refl
  outside_turn c (Some d) = refl

  pub living_turn : IsSound rows → row_of rows r.pid ≡ Some r → is_living r.life ≡ true → is_living l ≡ true → (c : Row) → row_of rows c.pid ≡ Some c → is_living (turn r l w k c).life ≡ is_living c.life
  living_turn sound here alive lives c at_c = pick (is_pid r.pid c) refl
    where
      pick : (b : Bool) → is_pid r.pid c ≡ b → is_living (cond b l c.life) ≡ is_living c.life
      pick true e = let one : c ≡ r = some_same c r (sym at_c ∙ ap (row_of rows) (pid_same c.pid r.pid (eqb-true _ _ e)) ∙ here) in lives ∙ sym (ap (λ (d : Row). is_living d.life) one ∙ alive)
      pick false e = refl

  pub links_turn : (id : Pid) → IsSound rows → row_of rows r.pid ≡ Some r → is_living r.life ≡ true → is_living l ≡ true → links_in (turned_rows rows r l w k) id ≡ links_in rows id
  links_turn id sound here alive lives =
      length-filter-map (is_link_of (turned_rows rows r l w k) id) (turn r l w k) rows
      ∙ ap length (filter-same number (λ c. is_link_of (turned_rows rows r l w k) id (turn r l w k c)) (is_link_of rows id) rows (distinct rows sound.distinct)
      (λ c at_c. ap (λ (b : Bool). in_group id c && (b && is_outside_parent c (row_of (turned_rows rows r l w k) c.parent))) (living_turn sound here alive lives c at_c)
      ∙ ap (λ (b : Bool). in_group id c && (is_living c.life && b)) (ap (is_outside_parent c) (row_turn c.parent) ∙ outside_turn c (row_of rows c.parent))))

  -- ---- records
  record_turn : (y : Vproc) (c : Row) → ((x : Signals) → (k x).ignored ≡ x.ignored) → IsRecordOf rows y c → (b : Bool) → is_pid r.pid c ≡ b → IsRecordOf (turned_rows rows r l w k) (cond b (turned_vproc l w y) y) (turn r l w k c)
  record_turn y c same_ignored of true e = record {
    pid = of.pid;
    parent = of.parent;
    group = of.group;
    session = of.session;
    uid = of.uid;
    life = sym (ap (λ (b : Bool). cond b l c.life) e);
    change = sym (ap (λ (b : Bool). cond b (Some w) c.change) e);
    execed = of.execed;
    ignchld = of.ignchld ∙ ap (λ (n : ℕ). has n Chld) (sym (ignored_all (cond (is_pid r.pid c) (k c.sig) c.sig) (cond (is_living (turned_at r.pid l w k c).life) (sent_to_parent r (turned_at r.pid l w k c)) []) ∙ ap (λ (b : Bool). (cond b (k c.sig) c.sig).ignored) e ∙ same_ignored c.sig));
    children = of.children ∙ sym (children_turn c.pid);
  }
  record_turn y c same_ignored of false e = record {
    pid = of.pid;
    parent = of.parent;
    group = of.group;
    session = of.session;
    uid = of.uid;
    life = of.life ∙ sym (ap (λ (b : Bool). cond b l c.life) e);
    change = of.change ∙ sym (ap (λ (b : Bool). cond b (Some w) c.change) e);
    execed = of.execed;
    ignchld = of.ignchld ∙ ap (λ (n : ℕ). has n Chld) (sym (ignored_all (cond (is_pid r.pid c) (k c.sig) c.sig) (cond (is_living (turned_at r.pid l w k c).life) (sent_to_parent r (turned_at r.pid l w k c)) []) ∙ ap (λ (b : Bool). (cond b (k c.sig) c.sig).ignored) e));
    children = of.children ∙ sym (children_turn c.pid);
  }

  pub vproc_turn : (q : Pid) (h : Option Vproc) → ((x : Signals) → (k x).ignored ≡ x.ignored) → VprocAgrees rows h (row_of rows q) → VprocAgrees (turned_rows rows r l w k) (only r.pid (option_map (turned_vproc l w)) q h) (row_of (turned_rows rows r l w k) q)
  vproc_turn q h same_ignored a = subst (VprocAgrees (turned_rows rows r l w k) (only r.pid (option_map (turned_vproc l w)) q h)) (sym (row_turn q)) (go h (row_of rows q) refl a)
    where
      go : (h : Option Vproc) (o : Option Row) → row_of rows q ≡ o → VprocAgrees rows h o → VprocAgrees (turned_rows rows r l w k) (only r.pid (option_map (turned_vproc l w)) q h) (option_map (turn r l w k) o)
      go None None e a = none (q.0 == r.pid.0)
        where
          none : (b : Bool) → VprocAgrees (turned_rows rows r l w k) (cond b (option_map (turned_vproc l w) None) None) None
          none true = tt
          none false = tt
      go None (Some c) e a = absurd a
      go (Some y) None e a = absurd a
      go (Some y) (Some c) e a = some (q.0 == r.pid.0) (ap (λ (n : ℕ). n == r.pid.0) (found number q.0 rows c e))
        where
          some : (b : Bool) → is_pid r.pid c ≡ b → VprocAgrees (turned_rows rows r l w k) (cond b (option_map (turned_vproc l w) (Some y)) (Some y)) (Some (turn r l w k c))
          some true s = record_turn y c same_ignored a true s
          some false s = record_turn y c same_ignored a false s

-- ---- counts
pub own_count : (rows : List Row) (p : Pid) (r : Row) (test : Pid → Bool) (s : Row → Bool) → IsSound rows → row_of rows p ≡ Some r → test p ≡ s r → length (filter test (p ∷ [])) ≡ length (filter (λ c. is_pid p c && s c) rows)
own_count rows p r test s k here e = go (test p) refl ∙ ap one_if e ∙ sym (count-one number s p.0 rows r (distinct rows k.distinct) here)
  where
    go : (b : Bool) → test p ≡ b → length (cond b (p ∷ []) []) ≡ one_if b
    go true f = refl
    go false f = refl

pub sum : (l a b c d e f : ℕ) → l ≡ c → a ≡ d → b ≡ e → (c + e) - d ≡ f → (l + b) - a ≡ f
sum l a b c d e f h i j m = omega arith
