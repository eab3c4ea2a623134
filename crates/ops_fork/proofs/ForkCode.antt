-- the records of a parent, as the code makes them, are what the fork leaves
use Rattle.std.proofs.Common.{◌≡◌, ◌==◌, ◌++◌, ℕ, map, length, Bool, true, false, cond, List, [], ◌∷◌, refl, sym, ap, ◌∙◌, Option, None, Some, Result, Ok, Err, IfOk, OnErr, if◌then◌else◌}
use Rattle.std.specs.Prelude.{is_some}
use Rattle.std.specs.Option.{option_map}
use Rattle.std.proofs.lemmas.List.{map-append}
use Rattle.list_laws.specs.Keyed.{option_filter}
use Rattle.list_laws.proofs.Filters.{some_same}
use Rattle.unix_names.specs.declared.Pid.{Pid}
use Rattle.unix_names.specs.declared.NodeId.{NodeId}
use Rattle.unix_names.specs.declared.Errno.TheVariants.{EAGAIN}
use Rattle.unix_calls.specs.declared.Call.TheVariants.{Fork}
use Rattle.unix_calls.specs.declared.Reply.TheVariants.{Refused}
use Rattle.unix_calls.specs.declared.Job.{Job}
use Rattle.signal_state.specs.Signals.{Signals}
use Rattle.signal_state.specs.declared.Own.{Own}
use Rattle.vproc_record.specs.declared.Vproc.{Vproc}
use Rattle.group_record.specs.declared.Member.{Member}
use Rattle.group_record.specs.declared.Group.{Group}
use Rattle.group_record.specs.Members.{member_of, has_member}
use Rattle.group_record.specs.Members.{begun_at}
use Rattle.group_record.specs.Groups.{joined, settled, trimmed}
use Rattle.ordered_table.specs.declared.Entry.{Entry}
use Rattle.ordered_table.specs.Entries.{value_at, with_value, with_each, IsRising}
use Rattle.record_bag.specs.declared.bag.Bag.{Bag}
use Rattle.record_bag.specs.declared.vector.Site.{Site}
use Rattle.process_table.specs.declared.Row.{Row}
use Rattle.process_table.specs.Rows.{in_group}
use Rattle.decide_law.specs.Agrees.{vproc_at, group_at}
use Rattle.record_bag.specs.declared.vector.Outcome.{Outcome}
use Rattle.record_bag.specs.declared.vector.Outcome.TheVariants.{Away}
use Rattle.record_bag.specs.Decisions.{Answered, answered}
use Rattle.decide_law.specs.Arrivals.{done_at}
use Rattle.decide_law.specs.Base.{HasBase}
use Rattle.decide_law.specs.Effects.{only, emptied, settled_for, folded, left_by, replied, done_by}
use Rattle.decide_law.specs.Places.{named_or}
use Rattle.decide_law.specs.Vector.{Fits}
use Rattle.decide_law.proofs.Shell.{group_is}
use Rattle.decide_law.proofs.RoundParts.{base_answer}
use Rattle.decide_law.proofs.Tables.{taken_and_put}
use Rattle.ops_fork.specs.Fork.{with_newborn, joins, fork_effect, is_full, fork_answer, decide_fork}

-- who joins begins at the log's end, whether the parent is settled before or after
pub settled-joined_other : (g : Group) (parent child : Pid) (uid : ℕ) → settled (joined g child uid) parent ≡ joins child uid (settled g parent)
settled-joined_other g parent child uid =
    ap (λ ms. record g { members = ms })
    (map-append (begun_at (length g.log) parent) g.members (last ∷ []) ∙ ap (λ m. map (begun_at (length g.log) parent) g.members ++ m ∷ []) (same (child.0 == parent.0)))
  where
    last : Member
    last = record { pid = child; from = length g.log; uid = uid }

    same : (b : Bool) → cond b (record last { from = length g.log }) last ≡ last
    same true = refl
    same false = refl

-- ---- changes under one id
only_twice : {T : Type 0} (p : Pid) (f h : T → T) (es : List (Entry T)) → with_each (only p f) (with_each (only p h) es) ≡ with_each (only p (λ x. f (h x))) es
only_twice p f h [] = refl
only_twice {T} p f h (e ∷ es) = ap (λ (x : T). (record { pid = e.pid; value = x }) ∷ with_each (only p f) (with_each (only p h) es)) (go (e.pid.0 == p.0)) ∙ ap (λ l. (record { pid = e.pid; value = cond (e.pid.0 == p.0) (f (h e.value)) e.value }) ∷ l) (only_twice p f h es)
  where
    go : (b : Bool) → cond b (f (cond b (h e.value) e.value)) (cond b (h e.value) e.value) ≡ cond b (f (h e.value)) e.value
    go true = refl
    go false = refl

only_none : {T : Type 0} (p : Pid) (es : List (Entry T)) → with_each (only p (λ x. x)) es ≡ es
only_none p [] = refl
only_none {T} p (e ∷ es) = ap (λ (x : T). (record { pid = e.pid; value = x }) ∷ with_each (only p (λ y. y)) es) (go (e.pid.0 == p.0)) ∙ ap (λ l. e ∷ l) (only_none p es)
  where
    go : (b : Bool) → cond b e.value e.value ≡ e.value
    go true = refl
    go false = refl

-- a value that was taken out and put back
put_same : {T : Type 0} (p : Pid) (es mid new : List (Entry T)) (x y : T) → IsRising es → value_at es p ≡ Some x → mid ≡ with_value es p y → new ≡ with_value mid p x → new ≡ es
put_same p es mid new x y r v out back = taken_and_put p (λ z. z) es mid new x y r v out back ∙ only_none p es

-- ---- the bag
module _ (bag : Bag) (p : Pid) (v v' : Vproc) (g g' : Group) (vmid vnew : List (Entry (Option Vproc))) (gmid gnew : List (Entry (Option Group))) (rv : IsRising bag.vprocs) (rg : IsRising bag.groups) (ev : value_at bag.vprocs p ≡ Some (Some v)) (eg : value_at bag.groups v.group ≡ Some (Some g)) (vout : vmid ≡ with_value bag.vprocs p None) (gout : gmid ≡ with_value bag.groups v.group None) (vback : vnew ≡ with_value vmid p (Some v')) (gback : gnew ≡ with_value gmid v.group (Some g')) where
  -- once the child was added
  pub forked_bag : (sig : Signals) (site : Site) → v' ≡ with_newborn site.fresh (emptied v) → g' ≡ trimmed (joins site.fresh v.uid (settled g p)) → record { vprocs = vnew; groups = gnew } ≡ left_by (fork_effect sig p site (emptied v)) p v.group bag
  forked_bag sig site vis gis =
      let add = option_map (with_newborn site.fresh) in
      let join = option_map (joins site.fresh v.uid) in
      ap (λ (vs : List (Entry (Option Vproc))). record { vprocs = vs; groups = gnew })
      (taken_and_put p (λ o. add (option_map emptied o)) bag.vprocs vmid vnew (Some v) None rv ev vout (vback ∙ ap (λ (u : Vproc). with_value vmid p (Some u)) vis) ∙ sym (only_twice p add (option_map emptied) bag.vprocs))
      ∙ ap (λ (gs : List (Entry (Option Group))). record { vprocs = with_each (only p add) (with_each (only p (option_map emptied)) bag.vprocs); groups = gs })
      (taken_and_put v.group (λ o. option_map trimmed (join (option_map (settled_for p) o))) bag.groups gmid gnew (Some g) None rg eg gout (gback ∙ ap (λ (h : Group). with_value gmid v.group (Some h)) gis)
      ∙ sym (only_twice v.group (option_map trimmed) (λ o. join (option_map (settled_for p) o)) bag.groups)
      ∙ sym (ap (with_each (only v.group (option_map trimmed))) (only_twice v.group join (option_map (settled_for p)) bag.groups)))

  -- the same of the record that was found
  pub forked_left : (sig : Signals) (site : Site) (u : Vproc) → vproc_at bag p ≡ Some (Some u) → v.pid ≡ p → v' ≡ with_newborn site.fresh (emptied v) → g' ≡ trimmed (joins site.fresh v.uid (settled g v.pid)) → record { vprocs = vnew; groups = gnew } ≡ left_by (fork_effect sig p site (emptied u)) p u.group bag
  forked_left sig site u here own vis gis =
      forked_bag sig site vis (gis ∙ ap (λ (i : Pid). trimmed (joins site.fresh v.uid (settled g i))) own)
      ∙ ap (λ (w : Vproc). left_by (fork_effect sig p site (emptied w)) p w.group bag) (some_same _ _ (some_same _ _ (sym ev ∙ here)))

  -- once both were put back as they were
  pub same_records : v' ≡ v → g' ≡ g → record { vprocs = vnew; groups = gnew } ≡ bag
  same_records vis gis =
      ap (λ (vs : List (Entry (Option Vproc))). record { vprocs = vs; groups = gnew }) (put_same p bag.vprocs vmid vnew (Some v) None rv ev vout (vback ∙ ap (λ (u : Vproc). with_value vmid p (Some u)) vis))
      ∙ ap (λ (gs : List (Entry (Option Group))). record { vprocs = bag.vprocs; groups = gs }) (put_same v.group bag.groups gmid gnew (Some g) None rg eg gout (gback ∙ ap (λ (h : Group). with_value gmid v.group (Some h)) gis))

-- ---- the fresh pid
-- a pid that has no row is no member of a group that is held
pub fresh_no_member : (p : Pid) (job : Job) (own : Own) (bag : Bag) (site : Site) (id : Pid) (g : Group) → Fits p job own bag site → group_at bag id ≡ Some (Some g) → has_member g.members site.fresh ≡ false
fresh_no_member p job own bag site id g f at =
    go (member_of g.members site.fresh) ((group_is f.rows bag id g f.asks.agrees at).members site.fresh ∙ ap (λ (o : Option Row). option_map (λ (r : Row). r.uid) (option_filter (in_group id) o)) f.asks.fresh)
  where
    go : (o : Option Member) → option_map (λ (m : Member). m.uid) o ≡ None → is_some o ≡ false
    go None e = refl
    go (Some m) e = cc

-- ---- the answer
pub on_err : {A B : Type 0} (r : Result A B) (P : Type 0) → P → OnErr r P
on_err (Ok a) P p = tt
on_err (Err b) P p = p

-- a fork that is not refused, at its node
pub fork_done : (p : Pid) (at : Option NodeId) (own : Own) (bag : Bag) (site : Site) (base : HasBase own p bag) → is_full base.vproc ≡ false → ((named_or at base.vproc.loc).0 == site.node.0) ≡ true →
    done_by p base.vproc bag (fork_effect (folded own base.vproc base.group).sig p site (emptied base.vproc)) ≡ decide_fork at site p own bag
fork_done p at own bag site base room here =
    let x = fork_effect (folded own base.vproc base.group).sig p site (emptied base.vproc) in
    sym (base_answer (fork_answer at site own bag p) p bag base.vproc base.group base.vproc_is base.group_is
    ∙ ap (λ (b : Bool). if b then done_by p base.vproc bag (replied p Fork (Refused EAGAIN) (folded own base.vproc base.group).sig) else done_at (named_or at base.vproc.loc) site p base.vproc bag x) room
    ∙ ap (λ (b : Bool). if b then done_by p base.vproc bag x else answered (Away (named_or at base.vproc.loc)) bag) here)

pub fork_whole : {E : Type 0} (r : Result Outcome E) (left : Bag) (x y : Answered) → IfOk r (λ outcome. answered outcome left ≡ x) → x ≡ y → IfOk r (λ outcome. answered outcome left ≡ y)
fork_whole (Ok o) left x y h e = h ∙ e
fork_whole (Err n) left x y h e = tt
