-- what the end of a process sends, in logs
use Rattle.std.proofs.Common.{◌≡◌, ◌==◌, ◌&&◌, ◌++◌, ◌≤◌, ℕ, Bool, true, false, cond, not, List, [], ◌∷◌, length, refl, sym, ap, ◌∙◌, subst, Option, None, Some, inl, inr, ◌⊎◌}
use Rattle.std.specs.Prelude.{map, filter}
use Rattle.std.specs.List.{list_any}
use Rattle.std.specs.Option.{option_map}
use Rattle.std.proofs.lemmas.Bool.{eqb-true, eqb-false, ne_eqb, eq-eqb}
use Rattle.std.proofs.lemmas.List.{map-append, drop-append-le}
use Rattle.std.proofs.lemmas.List.Elements.{filter-append}
use Rattle.list_laws.specs.Keyed.{at, option_filter}
use Rattle.list_laws.proofs.Finding.{at-filter, found, same_number}
use Rattle.list_laws.proofs.Counts.{any-count}
use Rattle.unix_names.specs.declared.Pid.{Pid}
use Rattle.unix_names.specs.declared.Signal.TheVariants.{Hup, Chld, Cont}
use Rattle.unix_names.specs.declared.WaitStatus.{WaitStatus}
use Rattle.vproc_record.specs.declared.Vproc.{Vproc}
use Rattle.group_record.specs.declared.Member.{Member}
use Rattle.group_record.specs.declared.LogEntry.{LogEntry}
use Rattle.group_record.specs.declared.Group.{Group}
use Rattle.group_record.specs.Members.{member_number, from_in, from_of}
use Rattle.group_record.specs.Log.{concerns, log_part}
use Rattle.record_bag.specs.declared.bag.Bag.{Bag}
use Rattle.record_bag.specs.Bags.{present, vproc_in}
use Rattle.process_table.specs.declared.Row.{Row}
use Rattle.process_table.specs.Rows.{row_of, is_pid, in_group}
use Rattle.process_table.specs.Orphans.{is_link_of, is_orphaned, is_stopped_in}
use Rattle.kernel_rules.specs.Orphans as kernel
use Rattle.kernel_rules.specs.Ending.{vanishes, rows_left, sent_by_end}
use Rattle.kernel_laws.proofs.Ends.{is_left, after_end_of}
use Rattle.decide_law.specs.Agrees.{group_at, children_of, IsGroupOf}
use Rattle.decide_law.specs.Counts.{passes}
use Rattle.decide_law.proofs.AppendStep.{from_found}
use Rattle.decide_law.specs.Effects.{changed, regroups, to_one, to_all}
use Rattle.decide_law.proofs.Records.{pid_same, row_pid, row_own, member_has}
use Rattle.decide_law.proofs.Groups.{unless_empty_some}
use Rattle.decide_law.proofs.Shell.{own_record, group_is}
use Rattle.decide_law.proofs.Changes.{group_changed}
use Rattle.ops_ending.specs.Ending.{goes, is_newly, end_entries, left_members, left_group}
use Rattle.ops_ending.proofs.Kin.{HoldsBoth}
use Rattle.ops_ending.proofs.Vprocs.{left_rows, row_left}
use Rattle.ops_ending.proofs.Groups.{IsEnd, gone_same, group_after, group_left, newly_is, links_first}
use Rattle.ops_ending.proofs.Elsewhere.{links_out, both_out}

-- the part of a log that grew, where the member's beginning stays
part_grown : (p : Pid) (uid : ℕ) (g g' : Group) (new : List LogEntry) → g'.log ≡ g.log ++ new → from_of g'.members p ≡ from_of g.members p → from_of g.members p ≤ length g.log →
    log_part p uid g' ≡ log_part p uid g ++ map (λ e. e.signal) (filter (concerns p uid) new)
part_grown p uid g g' new log from small = rw (from, log, drop-append-le (from_of g.members p) g.log new small, filter-append, map-append)

-- ---- what a log gets for a member
chosen : (p : Pid) (uid : ℕ) (q : Pid) (a b c t : Bool) → (q.0 == p.0) ≡ c → (a && c) ≡ t →
    map (λ e. e.signal) (filter (concerns p uid) (cond a (to_one Chld q ∷ []) [] ++ cond b (to_all Hup ∷ to_all Cont ∷ []) [])) ≡ (cond t (Chld ∷ []) [] ++ cond b (Hup ∷ Cont ∷ []) [])
chosen p uid q true true true t e s = rw (← s) (rw e)
chosen p uid q true true false t e s = rw (← s) (rw e)
chosen p uid q true false true t e s = rw (← s) (rw e)
chosen p uid q true false false t e s = rw (← s) (rw e)
chosen p uid q false true c t e s = rw (← s)
chosen p uid q false false c t e s = rw (← s)

flip : (a b : ℕ) → (a == b) ≡ (b == a)
flip a b = go (a == b) refl
  where
    go : (t : Bool) → (a == b) ≡ t → t ≡ (b == a)
    go true e = sym (eq-eqb _ _ (sym (eqb-true _ _ e)))
    go false e = sym (ne_eqb _ _ (λ h. eqb-false _ _ e (sym h)))

-- the parent's record shows its group
parent_in : (rows : List Row) (bag : Bag) (r x : Row) → IsEnd rows bag r → row_of rows x.pid ≡ Some x → is_pid r.parent x ≡ true → passes (λ d. d.group.0 == x.group.0) (vproc_in bag r.parent) ≡ true
parent_in rows bag r x a here e = go a.kin.parent
  where
    at_x : row_of rows r.parent ≡ Some x
    at_x = ap (row_of rows) (pid_same r.parent x.pid (sym (eqb-true _ _ e))) ∙ here

    go : (row_of rows r.parent ≡ None) ⊎ HoldsBoth bag r.parent → passes (λ d. d.group.0 == x.group.0) (vproc_in bag r.parent) ≡ true
    go (inl n) = let h : row_of rows r.parent ≡ Some x = at_x in cc
    go (inr h) = ap (λ o. passes (λ d. d.group.0 == x.group.0) (present o)) h.held ∙ ap (λ (g : Pid). g.0 == x.group.0) (own_record rows r.parent bag x h.vproc a.agrees at_x h.held).group ∙ same_number x.group.0

entries_for : (rows : List Row) (bag : Bag) (r : Row) (w : WaitStatus) (x : Row) (g : Group) (m : Pid) → IsEnd rows bag r → row_of rows m ≡ Some x → IsGroupOf rows x.group g →
    map (λ e. e.signal) (filter (concerns m x.uid) (end_entries bag w r.pid r.parent (children_of rows r.pid) (vanishes rows r) x.group g)) ≡ sent_by_end rows r w x
entries_for rows bag r w x g m a here k =
    chosen m x.uid r.parent (passes (λ d. d.group.0 == x.group.0) (vproc_in bag r.parent)) (is_newly bag w r.pid (children_of rows r.pid) (vanishes rows r) x.group g) (r.parent.0 == m.0) (is_pid r.parent x) refl
    (ap (λ t. passes (λ d. d.group.0 == x.group.0) (vproc_in bag r.parent) && t) (flip r.parent.0 m.0 ∙ ap (λ (q : Pid). q.0 == r.parent.0) (sym (row_pid rows m x here)))
    ∙ both (passes (λ d. d.group.0 == x.group.0) (vproc_in bag r.parent)) (is_pid r.parent x) (parent_in rows bag r x a (row_own rows m x here)))
    ∙ ap (λ b. cond (is_pid r.parent x) (Chld ∷ []) [] ++ cond b (Hup ∷ Cont ∷ []) []) (newly_is rows bag r w a x.group g k)
  where
    both : (i t : Bool) → (t ≡ true → i ≡ true) → (i && t) ≡ t
    both true t f = refl
    both false true f = let h : false ≡ true = f refl in cc
    both false false f = refl

-- ---- the group of a row that stays
pub group_grown : (rows : List Row) (bag : Bag) (r : Row) (w : WaitStatus) (session : Pid) (fv : Pid → Option Vproc → Option Vproc) (m : Pid) (x : Row) (id : Pid) (g : Group) → IsEnd rows bag r → row_of rows m ≡ Some x → is_left rows r w x ≡ true → id ≡ x.group → group_at bag id ≡ Some (Some g) →
    (g' : Group) × (group_at (changed fv (regroups session (left_group bag w r.pid r.parent (children_of rows r.pid) (vanishes rows r))) bag) id ≡ Some (Some g')) × (log_part m x.uid g' ≡ log_part m x.uid g ++ sent_by_end rows r w x)
group_grown rows bag r w session fv m x id g a here s is held = (
  group_after rows bag r w id g,
  group_changed fv (regroups session (left_group bag w r.pid r.parent (children_of rows r.pid) (vanishes rows r))) bag id
      ∙ ap (option_map (regroups session (left_group bag w r.pid r.parent (children_of rows r.pid) (vanishes rows r)) id)) held
      ∙ ap Some (unless_empty_some (group_after rows bag r w id g) m (member_has (left_rows rows r w) id (group_after rows bag r w id g) m (after_end_of rows r w x) (group_left rows bag r w a id g k) now in_id)),
  part_grown m x.uid g (group_after rows bag r w id g) (end_entries bag w r.pid r.parent (children_of rows r.pid) (vanishes rows r) id g) refl (ap from_in same_from) (from_found (length g.log) m.0 g.members k.from)
      ∙ ap (λ l. log_part m x.uid g ++ l) (ap (λ (i : Pid). map (λ e. e.signal) (filter (concerns m x.uid) (end_entries bag w r.pid r.parent (children_of rows r.pid) (vanishes rows r) i g))) is ∙ entries_for rows bag r w x g m a here (subst (λ (i : Pid). IsGroupOf rows i g) is k)),
)
  where
    k : IsGroupOf rows id g
    k = group_is rows bag id g a.agrees held

    now : row_of (left_rows rows r w) m ≡ Some (after_end_of rows r w x)
    now = row_left rows r w a.sound m ∙ ap (λ (o : Option Row). option_map (after_end_of rows r w) (option_filter (is_left rows r w) o)) here ∙ ap (λ (b : Bool). option_map (after_end_of rows r w) (cond b (Some x) None)) s

    in_id : in_group id (after_end_of rows r w x) ≡ true
    in_id = ap (λ (i : Pid). x.group.0 == i.0) is ∙ same_number x.group.0

    keep : (y : Member) → at member_number m.0 g.members ≡ Some y → not (passes (goes r.pid (vanishes rows r)) (vproc_in bag y.pid)) ≡ true
    keep y f =
        ap (λ (q : Pid). not (passes (goes r.pid (vanishes rows r)) (vproc_in bag q))) (pid_same y.pid m (found member_number m.0 g.members y f) ∙ sym (row_pid rows m x here))
        ∙ gone_same rows bag r w a x (row_own rows m x here) ∙ s

    kept_same : (o : Option Member) → ((y : Member) → o ≡ Some y → not (passes (goes r.pid (vanishes rows r)) (vproc_in bag y.pid)) ≡ true) → option_filter (λ y. not (passes (goes r.pid (vanishes rows r)) (vproc_in bag y.pid))) o ≡ o
    kept_same None f = refl
    kept_same (Some y) f = ap (λ b. cond b (Some y) None) (f y refl)

    same_from : at member_number m.0 (left_members bag r.pid (vanishes rows r) g) ≡ at member_number m.0 g.members
    same_from = at-filter member_number (λ y. not (passes (goes r.pid (vanishes rows r)) (vproc_in bag y.pid))) m.0 g.members k.distinct ∙ kept_same (at member_number m.0 g.members) keep

-- a row whose group is not held gets nothing
pub nothing_sent : (rows : List Row) (bag : Bag) (r : Row) (w : WaitStatus) (x : Row) → IsEnd rows bag r → row_of rows x.pid ≡ Some x → group_at bag x.group ≡ None → sent_by_end rows r w x ≡ []
nothing_sent rows bag r w x a here none =
    ap (λ b. cond b (Chld ∷ []) [] ++ cond (kernel.is_newly_orphaned rows (rows_left rows r w) x.group) (Hup ∷ Cont ∷ []) []) (not_parent (is_pid r.parent x) refl)
    ∙ ap (λ b. cond b (Hup ∷ Cont ∷ []) []) not_newly
  where
    not_parent : (b : Bool) → is_pid r.parent x ≡ b → b ≡ false
    not_parent false e = refl
    not_parent true e = go a.kin.parent
      where
        at_x : row_of rows r.parent ≡ Some x
        at_x = ap (row_of rows) (pid_same r.parent x.pid (sym (eqb-true _ _ e))) ∙ here

        go : (row_of rows r.parent ≡ None) ⊎ HoldsBoth bag r.parent → true ≡ false
        go (inl n) = let h : row_of rows r.parent ≡ Some x = at_x in cc
        go (inr h) = let no : in_group x.group x ≡ false = both_out rows bag r x.group r.parent x a none h at_x in let yes : in_group x.group x ≡ true = same_number x.group.0 in cc

    same_orphan : is_orphaned (rows_left rows r w) x.group ≡ is_orphaned rows x.group
    same_orphan = any-count (is_link_of (rows_left rows r w) x.group) (rows_left rows r w) ∙ ap (λ n. n == 0) (sym (links_first rows r w x.group) ∙ links_out rows bag r w x.group a none) ∙ sym (any-count (is_link_of rows x.group) rows)

    never : (o s : Bool) → (not o && (o && s)) ≡ false
    never true s = refl
    never false s = refl

    not_newly : kernel.is_newly_orphaned rows (rows_left rows r w) x.group ≡ false
    not_newly = ap (λ b. not (is_orphaned rows x.group) && (b && list_any (is_stopped_in x.group) (rows_left rows r w))) same_orphan ∙ never (is_orphaned rows x.group) _
