-- the records of processes after an end
use Rattle.std.proofs.Common.{◌≡◌, ◌≢◌, ◌==◌, ◌&&◌, ◌||◌, ℕ, Bool, true, false, cond, not, List, [], ◌∷◌, refl, sym, ap, ◌∙◌, subst, Option, None, Some}
use Rattle.std.specs.Prelude.{map, filter}
use Rattle.std.specs.Option.{option_map}
use Rattle.std.proofs.lemmas.Bool.{eqb-true, ne_eqb, eq-eqb}
use Rattle.list_laws.specs.Keyed.{option_filter}
use Rattle.list_laws.proofs.Filters.{some_same, filter-map, filter-filter, filter-none, map-map, and_false}
use Rattle.list_laws.proofs.Elements.{filter-same}
use Rattle.unix_names.specs.declared.Pid.{Pid}
use Rattle.unix_names.specs.declared.Signal.{Signal}
use Rattle.unix_names.specs.declared.Signal.TheVariants.{Chld}
use Rattle.unix_names.specs.declared.Life.{Life}
use Rattle.unix_names.specs.declared.Life.TheVariants.{Ended}
use Rattle.unix_names.specs.declared.WaitStatus.{WaitStatus}
use Rattle.unix_names.specs.Sets.{has}
use Rattle.unix_names.specs.States.{is_living}
use Rattle.signal_state.specs.Signals.{Signals}
use Rattle.signal_state.specs.Sig.{generated, generated_all}
use Rattle.vproc_record.specs.declared.Vproc.{Vproc}
use Rattle.record_bag.specs.declared.bag.Bag.{Bag}
use Rattle.process_table.specs.declared.Row.{Row}
use Rattle.process_table.specs.Rows.{pid, row_of, is_pid, is_parent, children}
use Rattle.kernel_model.specs.Sound.{IsSound}
use Rattle.kernel_rules.specs.Ending.{vanishes, sent_by_end, after_end}
use Rattle.process_table.specs.Changes.{receives}
use Rattle.kernel_laws.proofs.Ends.{left, is_left, left_is, after_end_of}
use Rattle.decide_law.specs.Agrees.{vproc_at, children_of, IsRecordOf, VprocAgrees, VprocsAgree}
use Rattle.decide_law.specs.Effects.{same}
use Rattle.decide_law.proofs.Records.{number, distinct, row_own}
use Rattle.decide_law.proofs.Counts.{not_own_child}
use Rattle.decide_law.proofs.Changes.{vproc_changed}
use Rattle.ops_ending.specs.Ending.{goes, left_vproc, ended_vproc, ended_vprocs}
use Rattle.ops_ending.proofs.Turned.{turned, row_turned}

-- the table after the end is a change of what stays
abbrev pub left_rows : List Row → Row → WaitStatus → List Row
left_rows rows r w = turned (is_left rows r w) (after_end_of rows r w) rows

pub end_is : (rows : List Row) (r : Row) (w : WaitStatus) → after_end rows r w ≡ left_rows rows r w
end_is rows r w = ap (map (receives (sent_by_end rows r w))) (left_is rows r w) ∙ map-map (receives (sent_by_end rows r w)) (left r w) (filter (is_left rows r w) rows)

pub row_left : (rows : List Row) (r : Row) (w : WaitStatus) → IsSound rows → (q : Pid) → row_of (left_rows rows r w) q ≡ option_map (after_end_of rows r w) (option_filter (is_left rows r w) (row_of rows q))
row_left rows r w k q = row_turned rows (is_left rows r w) (after_end_of rows r w) k (λ _. refl) q

-- ---- signals leave what is ignored
pub ignored_all : (x : Signals) (ss : List Signal) → (generated_all x ss).ignored ≡ x.ignored
unfolding generated
ignored_all x [] = refl
ignored_all x (s ∷ ss) = ignored_all (generated x s) ss

-- ---- children
children_left : (rows : List Row) (r : Row) (w : WaitStatus) (q : Pid) → children_of (left_rows rows r w) q ≡ map (λ (c : Row). c.pid) (filter (λ c. is_left rows r w c && is_parent q (after_end_of rows r w c)) rows)
children_left rows r w q =
    ap (map (λ (c : Row). c.pid)) (filter-map (is_parent q) (after_end_of rows r w) (filter (is_left rows r w) rows))
    ∙ map-map (λ (c : Row). c.pid) (after_end_of rows r w) _
    ∙ ap (map (λ (c : Row). c.pid)) (filter-filter (λ c. is_parent q (after_end_of rows r w c)) (is_left rows r w) rows)

kids_none : (rows : List Row) (r : Row) (w : WaitStatus) (q : Pid) → IsSound rows → q.0 ≢ 1 → q.0 ≡ r.pid.0 → children_of (left_rows rows r w) q ≡ []
kids_none rows r w q k o at_r = children_left rows r w q ∙ ap (map (λ (c : Row). c.pid)) (filter-same number (λ c. is_left rows r w c && is_parent q (after_end_of rows r w c)) (λ c. false) rows (distinct rows k.distinct) (λ c here. point c (is_parent r.pid c) refl) ∙ filter-none rows)
  where
    point : (c : Row) (b : Bool) → is_parent r.pid c ≡ b → (is_left rows r w c && is_parent q (after_end_of rows r w c)) ≡ false
    point c true e = ap (λ t. is_left rows r w c && t) (ap (λ t. (cond t (pid 1) c.parent).0 == q.0) e ∙ ne_eqb 1 q.0 (λ h. o (sym h))) ∙ and_false (is_left rows r w c)
    point c false e = ap (λ t. is_left rows r w c && t) (ap (λ t. (cond t (pid 1) c.parent).0 == q.0) e ∙ ap (λ n. c.parent.0 == n) at_r ∙ e) ∙ and_false (is_left rows r w c)

kids_left : (rows : List Row) (r : Row) (w : WaitStatus) (q : Pid) → IsSound rows → q.0 ≢ 1 → q.0 ≢ r.pid.0 →
    children_of (left_rows rows r w) q ≡ filter (λ c. not ((c.0 == r.pid.0) && vanishes rows r)) (children_of rows q)
kids_left rows r w q k o other =
    children_left rows r w q
    ∙ ap (map (λ (c : Row). c.pid)) (filter-same number (λ c. is_left rows r w c && is_parent q (after_end_of rows r w c)) (λ c. is_parent q c && not (is_pid r.pid c && vanishes rows r)) rows (distinct rows k.distinct) (λ c here. point c (is_parent r.pid c) refl)
    ∙ sym (filter-filter (λ c. not (is_pid r.pid c && vanishes rows r)) (is_parent q) rows))
    ∙ sym (filter-map (λ (c : Pid). not ((c.0 == r.pid.0) && vanishes rows r)) (λ (c : Row). c.pid) (children rows q))
  where
    turn : (a b : Bool) → ((a && true) && b) ≡ (b && a)
    turn true true = refl
    turn true false = refl
    turn false true = refl
    turn false false = refl

    point : (c : Row) (b : Bool) → is_parent r.pid c ≡ b → (is_left rows r w c && is_parent q (after_end_of rows r w c)) ≡ (is_parent q c && not (is_pid r.pid c && vanishes rows r))
    point c true e =
        let n : c.parent.0 ≡ r.pid.0 = eqb-true _ _ e in
        let no : is_parent q c ≡ false = ne_eqb c.parent.0 q.0 (λ h. other (sym h ∙ n)) in
        ap (λ t. is_left rows r w c && t) (ap (λ t. (cond t (pid 1) c.parent).0 == q.0) e ∙ ne_eqb 1 q.0 (λ h. o (sym h))) ∙ and_false (is_left rows r w c) ∙ ap (λ t. t && not (is_pid r.pid c && vanishes rows r)) (sym no)
    point c false e = rw e (turn (not (is_pid r.pid c && vanishes rows r)) (c.parent.0 == q.0))

-- ---- the record of a process
stay_case : (a van b : Bool) (w : WaitStatus) (l : Life) → (a ≡ true → b ≡ false) → not ((a && van) || (b && not (is_living l))) ≡ (not (a && van) && not (b && not (is_living (cond a (Ended w) l))))
stay_case true true true w l e = refl
stay_case true false true w l e = let h : true ≡ false = e refl in cc
stay_case true true false w l e = refl
stay_case true false false w l e = refl
stay_case false van b w l e = refl

-- a record goes exactly where its row does
pub keep_same : (rows : List Row) (r : Row) (w : WaitStatus) (v : Vproc) (x : Row) → IsSound rows → row_of rows x.pid ≡ Some x → IsRecordOf rows v x → not (goes r.pid (vanishes rows r) v) ≡ is_left rows r w x
keep_same rows r w v x k here of =
    ap (λ (q : Pid). not (((q.0 == r.pid.0) && vanishes rows r) || ((v.parent.0 == r.pid.0) && not (is_living v.life)))) of.pid
    ∙ ap (λ (q : Pid). not ((is_pid r.pid x && vanishes rows r) || ((q.0 == r.pid.0) && not (is_living v.life)))) of.parent
    ∙ ap (λ (l : Life). not ((is_pid r.pid x && vanishes rows r) || (is_parent r.pid x && not (is_living l)))) of.life
    ∙ stay_case (is_pid r.pid x) (vanishes rows r) (is_parent r.pid x) w x.life (not_own_child rows r.pid x k here)

left_record : (rows : List Row) (r : Row) (w : WaitStatus) (v : Vproc) (x : Row) → IsSound rows → row_of rows x.pid ≡ Some x → IsRecordOf rows v x →
    IsRecordOf (left_rows rows r w) (left_vproc r.pid (vanishes rows r) w v) (after_end_of rows r w x)
left_record rows r w v x k here of = record {
  pid = of.pid;
  parent = ap (λ (q : Pid). cond (q.0 == r.pid.0) (pid 1) q) of.parent;
  group = of.group;
  session = of.session;
  uid = of.uid;
  life = ap (λ (q : Pid). cond (q.0 == r.pid.0) (Ended w) v.life) of.pid ∙ ap (λ (l : Life). cond (is_pid r.pid x) (Ended w) l) of.life;
  change = ap (λ (q : Pid). cond (q.0 == r.pid.0) None v.change) of.pid ∙ ap (λ (l : Option WaitStatus). cond (is_pid r.pid x) None l) of.change;
  execed = of.execed;
  ignchld = of.ignchld ∙ ap (λ (n : ℕ). has n Chld) (sym (ignored_all x.sig (cond (is_living (left r w x).life) (sent_by_end rows r w (left r w x)) [])));
  children = ap (λ (q : Pid). cond (q.0 == r.pid.0) [] (filter (λ c. not ((c.0 == r.pid.0) && vanishes rows r)) v.children)) of.pid
      ∙ ap (λ (l : List Pid). cond (is_pid r.pid x) [] (filter (λ c. not ((c.0 == r.pid.0) && vanishes rows r)) l)) of.children
      ∙ kids (is_pid r.pid x) refl;
}
  where
    kids : (b : Bool) → is_pid r.pid x ≡ b → cond b [] (filter (λ c. not ((c.0 == r.pid.0) && vanishes rows r)) (children_of rows x.pid)) ≡ children_of (left_rows rows r w) x.pid
    kids true e = sym (kids_none rows r w x.pid k (k.each x.pid x here).not_system (eqb-true _ _ e))
    kids false e = sym (kids_left rows r w x.pid k (k.each x.pid x here).not_system (λ h. let t : is_pid r.pid x ≡ true = eq-eqb _ _ h in cc))

pub vproc_left : (rows : List Row) (r : Row) (w : WaitStatus) (q : Pid) (h : Option Vproc) → IsSound rows → VprocAgrees rows h (row_of rows q) →
    VprocAgrees (left_rows rows r w) (ended_vproc r.pid (vanishes rows r) w q h) (row_of (left_rows rows r w) q)
vproc_left rows r w q h k a = subst (VprocAgrees (left_rows rows r w) (ended_vproc r.pid (vanishes rows r) w q h)) (sym (row_left rows r w k q)) (go h (row_of rows q) (λ x e. row_own rows q x e) a)
  where
    go : (h : Option Vproc) (o : Option Row) → ((x : Row) → o ≡ Some x → row_of rows x.pid ≡ Some x) → VprocAgrees rows h o →
        VprocAgrees (left_rows rows r w) (ended_vproc r.pid (vanishes rows r) w q h) (option_map (after_end_of rows r w) (option_filter (is_left rows r w) o))
    go None None here a = tt
    go None (Some x) here a = absurd a
    go (Some v) None here a = absurd a
    go (Some v) (Some x) here a = pick _ _ (keep_same rows r w v x k (here x refl) a)
      where
        pick : (b c : Bool) → b ≡ c → VprocAgrees (left_rows rows r w) (option_map (left_vproc r.pid (vanishes rows r) w) (cond b (Some v) None)) (option_map (after_end_of rows r w) (cond c (Some x) None))
        pick true true e = left_record rows r w v x k (here x refl) a
        pick true false e = cc
        pick false true e = cc
        pick false false e = tt

pub vprocs_left : (rows : List Row) (r : Row) (w : WaitStatus) (bag : Bag) → IsSound rows → VprocsAgree bag rows → VprocsAgree (ended_vprocs bag r.pid (vanishes rows r) w) (left_rows rows r w)
vprocs_left rows r w bag k a = λ q h e. go q h (vproc_at bag q) refl (sym (vproc_changed (ended_vproc r.pid (vanishes rows r) w) same bag q) ∙ e)
  where
    go : (q : Pid) (h : Option Vproc) (o : Option (Option Vproc)) → vproc_at bag q ≡ o → option_map (ended_vproc r.pid (vanishes rows r) w q) o ≡ Some h → VprocAgrees (left_rows rows r w) h (row_of (left_rows rows r w) q)
    go q h None e m = cc
    go q h (Some y) e m = subst (λ (z : Option Vproc). VprocAgrees (left_rows rows r w) z (row_of (left_rows rows r w) q)) (some_same _ _ m) (vproc_left rows r w q y k (a q y e))
