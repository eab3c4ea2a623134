-- the records that the code leaves of a process that stops or continues are those of the definition
use Rattle.std.proofs.Common.{◌≡◌, ◌==◌, ◌&&◌, ◌+◌, ◌-◌, ◌++◌, ℕ, Bool, true, false, cond, List, [], ◌∷◌, length, refl, sym, ap, ◌∙◌, subst, arith, Option, None, Some, IsSome, if◌then◌else◌}
use Rattle.std.specs.Prelude.{filter, is_some}
use Rattle.std.specs.Option.{option_map}
use Rattle.std.proofs.lemmas.Bool.{eqb-true, eq-eqb, eqb-false, ne_eqb}
use Rattle.list_laws.specs.Keyed.{one_if}
use Rattle.list_laws.proofs.Filters.{some_same, map-id, map-map}
use Rattle.unix_names.specs.declared.Pid.{Pid}
use Rattle.unix_names.specs.declared.Life.{Life}
use Rattle.unix_names.specs.declared.Name.TheVariants.{G}
use Rattle.unix_names.specs.declared.Signal.TheVariants.{Chld}
use Rattle.unix_names.specs.declared.WaitStatus.{WaitStatus}
use Rattle.unix_calls.specs.declared.Entry.{Entry as History}
use Rattle.unix_calls.specs.declared.Phase.{Phase}
use Rattle.signal_state.specs.Signals.{Signals}
use Rattle.signal_state.specs.declared.Own.{Own}
use Rattle.vproc_record.specs.declared.Vproc.{Vproc}
use Rattle.group_record.specs.declared.LogEntry.{LogEntry}
use Rattle.group_record.specs.declared.Group.{Group}
use Rattle.group_record.specs.Groups.{settled}
use Rattle.ordered_table.specs.declared.Entry.{Entry}
use Rattle.ordered_table.specs.Entries.{value_at, with_each, IsRising}
use Rattle.record_bag.specs.declared.bag.Bag.{Bag}
use Rattle.record_bag.specs.declared.vector.Outcome.{Outcome}
use Rattle.record_bag.specs.declared.vector.Outcome.TheVariants as outcome
use Rattle.record_bag.specs.Decisions.{answered}
use Rattle.record_bag.specs.Bags.{is_held, present, vproc_in}
use Rattle.process_table.specs.Rows.{is_stopped}
use Rattle.decide_law.specs.Agrees.{vproc_at, group_at}
use Rattle.decide_law.specs.Base.{HasBase}
use Rattle.decide_law.specs.Counts.{passes, is_stopped_to, recounted}
use Rattle.decide_law.specs.Effects.{only, same, changed, emptied, settled_for, settled_in, trimmed_in, to_one, told_to, done_by}
use Rattle.decide_law.proofs.Appended.{each_same}
use Rattle.decide_law.proofs.Changes.{vproc_changed}
use Rattle.decide_law.proofs.PutBack.{base_emptied, same_bag}
use Rattle.decide_law.proofs.Records.{only_same}
use Rattle.decide_law.proofs.RoundParts.{parts_whole}
use Rattle.decide_law.proofs.SettledFootprints.{view_same}
use Rattle.ops_deliver.specs.Turn.{turned_vproc, turned_vprocs, parent_entries, turned_groups, turn_by}
use Rattle.ops_deliver.specs.MethodTurn.{held_group, group_told, telling, restopped, counting}

-- ---- the entry in the log of the parent's group
none_more : (es : List LogEntry) → es ++ [] ≡ es
none_more [] = refl
none_more (e ∷ es) = ap (λ l. e ∷ l) (none_more es)

none_logged : (x : Option Group) → x ≡ option_map (λ (y : Group). record y { log = y.log ++ [] }) x
none_logged None = refl
none_logged (Some y) = ap (λ (l : List LogEntry). Some (record y { log = l })) (sym (none_more y.log))

told_by : (bag : Bag) (d : Vproc) (e : LogEntry) (q : Pid) (h x : Option Group) (b c : Bool) → is_held bag (G d.group) ≡ b → (d.group.0 == q.0) ≡ c → value_at bag.groups q ≡ Some h →
    telling (if b then Some d.group else None) e q x ≡ option_map (λ (y : Group). record y { log = y.log ++ (if c then e ∷ [] else []) }) x
told_by bag d e q h x true true held eq here = ap (λ (s : Bool). cond s (option_map (told_to e) x) x) (eq-eqb q.0 d.group.0 (sym (eqb-true _ _ eq)))
told_by bag d e q h x true false held eq here = ap (λ (s : Bool). cond s (option_map (told_to e) x) x) (ne_eqb q.0 d.group.0 (λ i. eqb-false _ _ eq (sym i))) ∙ none_logged x
told_by bag d e q h x false true held eq here =
    let at : value_at bag.groups d.group ≡ Some h = ap (λ (n : ℕ). value_at bag.groups (record { 0 = n })) (eqb-true _ _ eq) ∙ here in
    let no : true ≡ false = sym (ap is_some at) ∙ held in cc
told_by bag d e q h x false false held eq here = none_logged x

told_bag : (bag : Bag) (o : Option Vproc) (e : LogEntry) (q : Pid) (h x : Option Group) → value_at bag.groups q ≡ Some h →
    telling (held_group bag o) e q x ≡ option_map (λ (y : Group). record y { log = y.log ++ (if passes (λ d. d.group.0 == q.0) o then e ∷ [] else []) }) x
told_bag bag None e q h x here = none_logged x
told_bag bag (Some d) e q h x here = told_by bag d e q h x (is_held bag (G d.group)) (d.group.0 == q.0) refl refl here

-- ---- the count of stopped members
one_count : (t : Pid → Bool) (p : Pid) (b : Bool) → t p ≡ b → length (filter t (p ∷ [])) ≡ one_if b
one_count t p b e = ap (λ (s : Bool). length (cond s (p ∷ []) [])) e ∙ go b
  where
    go : (s : Bool) → length (cond s (p ∷ []) []) ≡ one_if s
    go true = refl
    go false = refl

same_count : (n a b : ℕ) → a ≡ 0 → b ≡ 0 → (n + a) - b ≡ n
same_count n a b e f = omega arith

module _ (p up : Pid) (l : Life) (w : WaitStatus) (own : Own) (bag : Bag) (base : HasBase own p bag) where
  abbrev id : Pid
  id = base.vproc.group

  abbrev begun : Bag
  begun = settled_in p base.vproc.group bag

  abbrev e : LogEntry
  e = to_one Chld up

  abbrev count : ℕ
  count = restopped base.group.stopped (is_stopped base.vproc.life) (is_stopped l)

  before : vproc_in begun p ≡ Some (emptied base.vproc)
  before = ap present (base_emptied own p bag begun base refl)

  later : vproc_in (turned_vprocs begun p l w) p ≡ Some (turned_vproc l w (emptied base.vproc))
  later =
      ap present (vproc_changed (only p (option_map (turned_vproc l w))) same begun p ∙ ap (option_map (only p (option_map (turned_vproc l w)) p)) (base_emptied own p bag begun base refl)
      ∙ ap Some (only_same p (option_map (turned_vproc l w)) p (Some (emptied base.vproc)) refl))

  -- of another group it stays, of the process's own the process alone may have changed
  counted : (q : Pid) (y : Group) (b : Bool) → (base.vproc.group.0 == q.0) ≡ b → (recounted begun (turned_vprocs begun p l w) (p ∷ []) q y).stopped ≡ (if b then restopped y.stopped (is_stopped base.vproc.life) (is_stopped l) else y.stopped)
  counted q y b eq =
      let now : passes (is_stopped_to q) (vproc_in (turned_vprocs begun p l w) p) ≡ (b && is_stopped l) = ap (passes (is_stopped_to q)) later ∙ ap (λ (s : Bool). s && is_stopped l) eq in
      let was : passes (is_stopped_to q) (vproc_in begun p) ≡ (b && is_stopped base.vproc.life) = ap (passes (is_stopped_to q)) before ∙ ap (λ (s : Bool). s && is_stopped base.vproc.life) eq in
      let nows = one_count (λ r. passes (is_stopped_to q) (vproc_in (turned_vprocs begun p l w) r)) p (b && is_stopped l) now in
      let wases = one_count (λ r. passes (is_stopped_to q) (vproc_in begun r)) p (b && is_stopped base.vproc.life) was in
      ap (λ (n : ℕ). (y.stopped + n) - length (filter (λ r. passes (is_stopped_to q) (vproc_in begun r)) (p ∷ []))) nows ∙ ap (λ (n : ℕ). (y.stopped + one_if (b && is_stopped l)) - n) wases ∙ go b
    where
      go : (s : Bool) → (y.stopped + one_if (s && is_stopped l)) - one_if (s && is_stopped base.vproc.life) ≡ (if s then restopped y.stopped (is_stopped base.vproc.life) (is_stopped l) else y.stopped)
      go true = refl
      go false = same_count y.stopped 0 0 refl refl

  -- ---- one group
  entries_same : (q : Pid) → parent_entries begun up q ≡ parent_entries bag up q
  entries_same q = view_same (λ o. if passes (λ d. d.group.0 == q.0) o then to_one Chld up ∷ [] else []) p id bag up blind
    where
      blind : (h : Option Vproc) → (if passes (λ d. d.group.0 == q.0) (option_map emptied h) then to_one Chld up ∷ [] else []) ≡ (if passes (λ d. d.group.0 == q.0) h then to_one Chld up ∷ [] else [])
      blind None = refl
      blind (Some d) = refl

  counted_group : (q : Pid) (x : Option Group) (b : Bool) → (q.0 == id.0) ≡ b → (b ≡ true → x ≡ Some (settled base.group p)) →
      cond b (option_map (counting count) (option_map (λ (y : Group). record y { log = y.log ++ parent_entries begun up q }) x)) (option_map (λ (y : Group). record y { log = y.log ++ parent_entries begun up q }) x) ≡ turned_groups begun p up l w q x
  counted_group q None true eq is = refl
  counted_group q None false eq is = refl
  counted_group q (Some y) true eq is =
      let flipped : (base.vproc.group.0 == q.0) ≡ true = eq-eqb _ _ (sym (eqb-true _ _ eq)) in
      let stays : base.group.stopped ≡ y.stopped = ap (λ (g : Group). g.stopped) (some_same _ _ (sym (is refl))) in
      ap (λ (n : ℕ). Some (record y { stopped = n; log = y.log ++ parent_entries begun up q })) (ap (λ (n : ℕ). restopped n (is_stopped base.vproc.life) (is_stopped l)) stays ∙ sym (counted q y true flipped))
  counted_group q (Some y) false eq is =
      let flipped : (base.vproc.group.0 == q.0) ≡ false = ne_eqb _ _ (λ i. eqb-false _ _ eq (sym i)) in
      ap (λ (n : ℕ). Some (record y { stopped = n; log = y.log ++ parent_entries begun up q })) (sym (counted q y false flipped))

  own_group : (q : Pid) (h : Option Group) → value_at bag.groups q ≡ Some h → (b : Bool) → (q.0 == id.0) ≡ b → b ≡ true → cond b (option_map (settled_for p) h) h ≡ Some (settled base.group p)
  own_group q h here true eq t =
      let one : q ≡ id = ap (λ (n : ℕ). record { 0 = n }) (eqb-true _ _ eq) in
      ap (option_map (settled_for p)) (some_same _ _ (sym here ∙ ap (value_at bag.groups) one ∙ base.group_is))
  own_group q h here false eq t = cc

  each_group : (q : Pid) (h : Option Group) → value_at bag.groups q ≡ Some h →
      only id (option_map (counting count)) q (telling (group_told bag up) e q (only id (option_map (settled_for p)) q h)) ≡ turned_groups begun p up l w q (only id (option_map (settled_for p)) q h)
  each_group q h here =
      let x = only id (option_map (settled_for p)) q h in
      ap (only id (option_map (counting count)) q)
      (told_bag bag (vproc_in bag up) e q h x here ∙ ap (λ (es : List LogEntry). option_map (λ (y : Group). record y { log = y.log ++ es }) x) (sym (entries_same q)))
      ∙ counted_group q x (q.0 == id.0) refl (own_group q h here (q.0 == id.0) refl)

  -- ---- the bag
  pub turned_bag : (told turned counts : Bag) (group : Pid) (n : ℕ) → IsRising bag.groups → group ≡ base.vproc.group → n ≡ count → told ≡ changed same (telling (group_told bag up) (to_one Chld up)) begun → turned ≡ changed (only p (option_map (turned_vproc l w))) same told → counts ≡ changed same (only group (option_map (counting n))) turned →
      counts ≡ changed (only p (option_map (turned_vproc l w))) (turned_groups begun p up l w) begun
  turned_bag told turned counts group n rises at is tells turns ends =
      ends
      ∙ ap (λ (i : Pid). changed same (only i (option_map (counting n))) turned) at
      ∙ ap (λ (k : ℕ). changed same (only id (option_map (counting k))) turned) is
      ∙ ap (changed same (only id (option_map (counting count)))) (turns ∙ ap (changed (only p (option_map (turned_vproc l w))) same) tells)
      ∙ ap (λ (vs : List (Entry (Option Vproc))). record { vprocs = vs; groups = with_each (only id (option_map (counting count))) (with_each same (with_each (telling (group_told bag up) e) begun.groups)) }) (map-id (with_each (only p (option_map (turned_vproc l w))) (with_each same begun.vprocs)) ∙ ap (with_each (only p (option_map (turned_vproc l w)))) (map-id begun.vprocs))
      ∙ ap (λ (gs : List (Entry (Option Group))). record { vprocs = with_each (only p (option_map (turned_vproc l w))) begun.vprocs; groups = gs })
      (ap (with_each (only id (option_map (counting count)))) (map-id (with_each (telling (group_told bag up) e) begun.groups))
      ∙ ap (with_each (only id (option_map (counting count)))) (map-map _ _ bag.groups)
      ∙ map-map _ _ bag.groups
      ∙ each_same (λ q h. only id (option_map (counting count)) q (telling (group_told bag up) e q (only id (option_map (settled_for p)) q h))) (λ q h. turned_groups begun p up l w q (only id (option_map (settled_for p)) q h)) bag.groups rises each_group
      ∙ sym (map-map _ _ bag.groups))

  -- the record of the process is held once the parent is told
  pub vproc_told : (b : Bag) (o : Option Pid) → b ≡ changed same (telling o (to_one Chld up)) begun → IsSome (vproc_at b p)
  vproc_told b o is = subst IsSome (sym (ap (λ (x : Bag). vproc_at x p) is ∙ vproc_changed same (telling o (to_one Chld up)) begun p ∙ ap (option_map (same p)) (base_emptied own p bag begun base refl))) refl

-- where no group is told, the bag is the settled one
pub untold : (begun b : Bag) (o : Option Pid) (e : LogEntry) → o ≡ None → b ≡ begun → b ≡ changed same (telling o e) begun
untold begun b o e none is = is ∙ sym (same_bag begun) ∙ ap (λ (t : Option Pid). changed same (telling t e) begun) (sym none)

-- ---- the answer
-- what is so of the base is so of the records that are found
pub at_base : (own : Own) (p : Pid) (bag : Bag) (base : HasBase own p bag) (P : Vproc → Group → Type 0) → P base.vproc base.group → (v : Vproc) (g : Group) → vproc_at bag p ≡ Some (Some v) → group_at bag v.group ≡ Some (Some g) → P v g
at_base own p bag base P h v g ev eg =
    let same_v : base.vproc ≡ v = some_same _ _ (some_same _ _ (sym base.vproc_is ∙ ev)) in
    let same_g : base.group ≡ g = some_same _ _ (some_same _ _ (sym base.group_is ∙ ap (λ (u : Vproc). group_at bag u.group) same_v ∙ eg)) in
    subst (λ (u : Vproc). P u g) same_v (subst (P base.vproc) same_g h)

pub turn_whole : (own : Own) (p group : Pid) (l : Life) (w : WaitStatus) (e : History) (ph : Phase) (sig : Signals) (nudges : List Pid) (carried : Own) (bag wrote left : Bag) (base : HasBase own p bag) (o : Outcome) → group ≡ base.vproc.group →
    wrote ≡ changed (only p (option_map (turned_vproc l w))) (turned_groups (settled_in p base.vproc.group bag) p base.vproc.parent l w) (settled_in p base.vproc.group bag) → left ≡ trimmed_in group wrote →
    o ≡ outcome.Done (record { entry = Some e; own = carried; phase = ph; born = None; nudges = nudges }) → nudges ≡ (if base.vproc.parent.0 == 1 then [] else base.vproc.parent ∷ []) → carried ≡ record { sig = sig; taken = 0 } →
    answered o left ≡ done_by p base.vproc bag (turn_by (settled_in p base.vproc.group bag) sig e ph base.vproc.pid base.vproc.parent l w)
turn_whole own p group l w e ph sig nudges carried bag wrote left base o at writes trims out nudged kept =
    parts_whole (turn_by (settled_in p base.vproc.group bag) sig e ph p base.vproc.parent l w) p group base.vproc o bag (settled_in p base.vproc.group bag) wrote left at refl writes trims
    (out ∙ ap (λ (ns : List Pid). outcome.Done (record { entry = Some e; own = carried; phase = ph; born = None; nudges = ns })) nudged ∙ ap (λ (x : Own). outcome.Done (record { entry = Some e; own = x; phase = ph; born = None; nudges = if base.vproc.parent.0 == 1 then [] else base.vproc.parent ∷ [] })) kept)
    ∙ ap (λ (i : Pid). done_by p base.vproc bag (turn_by (settled_in p base.vproc.group bag) sig e ph i base.vproc.parent l w)) (sym base.pid)

-- the records once the process has turned, by the record that is found
pub turned_found : (own : Own) (p up : Pid) (l : Life) (w : WaitStatus) (bag counts : Bag) (base : HasBase own p bag) (v : Vproc) → vproc_at bag p ≡ Some (Some v) → up ≡ v.parent → counts ≡ changed (only p (option_map (turned_vproc l w))) (turned_groups (settled_in p base.vproc.group bag) p up l w) (settled_in p base.vproc.group bag) →
    counts ≡ changed (only p (option_map (turned_vproc l w))) (turned_groups (settled_in p v.group bag) p v.parent l w) (settled_in p v.group bag)
turned_found own p up l w bag counts base v ev parent is =
    is ∙ ap (λ (i : Pid). changed (only p (option_map (turned_vproc l w))) (turned_groups (settled_in p base.vproc.group bag) p i l w) (settled_in p base.vproc.group bag)) parent
    ∙ ap (λ (i : Pid). changed (only p (option_map (turned_vproc l w))) (turned_groups (settled_in p i bag) p v.parent l w) (settled_in p i bag)) (ap (λ (u : Vproc). u.group) (some_same _ _ (some_same _ _ (sym base.vproc_is ∙ ev))))
