-- records that were lent and changed
use Rattle.std.proofs.Common.{◌≡◌, ◌≤◌, List, [], length, refl, sym, ap, ◌∙◌, subst, Option, IsSome, None, Some}
use Rattle.std.specs.Prelude.{All}
use Rattle.std.specs.Option.{option_map}
use Rattle.list_laws.proofs.Filters.{some_same, map-id}
use Rattle.unix_names.specs.declared.Pid.{Pid}
use Rattle.vproc_record.specs.declared.Vproc.{Vproc}
use Rattle.group_record.specs.declared.Group.{Group}
use Rattle.group_record.specs.Groups.{settled, trimmed}
use Rattle.ordered_table.specs.Entries.{value_at, with_value, with_each, IsRising}
use Rattle.record_bag.specs.declared.bag.Bag.{Bag}
use Rattle.unix_calls.specs.declared.Entry.{Entry as History}
use Rattle.unix_calls.specs.declared.Phase.{Phase}
use Rattle.signal_state.specs.declared.Own.{Own}
use Rattle.group_record.proofs.LogLaws.{within-settled}
use Rattle.record_bag.specs.declared.vector.Outcome.TheVariants as outcome
use Rattle.record_bag.specs.Bags.{present}
use Rattle.record_bag.specs.Decisions.{answered}
use Rattle.decide_law.specs.Agrees.{vproc_at, group_at}
use Rattle.decide_law.specs.Base.{HasBase}
use Rattle.decide_law.proofs.Records.{only_same}
use Rattle.decide_law.proofs.Changes.{group_changed, vproc_changed}
use Rattle.decide_law.specs.Effects.{only, changed, same, emptied, settled_for, settled_in, trimmed_in, folded, quiet, done_by}
use Rattle.decide_law.proofs.Tables.{lent, not_lent}

pub trimmed_lent : (bag : Bag) (id : Pid) (g g' : Group) → IsRising bag.groups → Some g ≡ present (value_at bag.groups id) → g' ≡ trimmed g → record bag { groups = with_value bag.groups id (Some g') } ≡ trimmed_in id bag
trimmed_lent bag id g g' r v is = ap (λ gs. record bag { groups = gs }) (lent id trimmed bag.groups g g' r v is)

pub trimmed_absent : (bag : Bag) (id : Pid) → IsRising bag.groups → IsSome (value_at bag.groups id) → None ≡ present (value_at bag.groups id) → bag ≡ trimmed_in id bag
trimmed_absent bag id r held none = ap (λ gs. record bag { groups = gs }) (not_lent id trimmed bag.groups r held none)

pub settled_lent : (bag : Bag) (p : Pid) (u v v' : Vproc) (g g' : Group) → IsRising bag.vprocs → IsRising bag.groups → Some v ≡ present (value_at bag.vprocs p) → Some g ≡ present (value_at bag.groups v.group) → v.pid ≡ p → v' ≡ emptied v → g' ≡ settled g v.pid →
    vproc_at bag p ≡ Some (Some u) → record { vprocs = with_value bag.vprocs p (Some v'); groups = with_value bag.groups v.group (Some g') } ≡ settled_in p u.group bag
settled_lent bag p u v v' g g' rv rg ev eg at_p vis gis here =
    ap (λ vs. record { vprocs = vs; groups = with_value bag.groups v.group (Some g') }) (lent p emptied bag.vprocs v v' rv ev vis)
    ∙ ap (λ gs. record { vprocs = with_each (only p (option_map emptied)) bag.vprocs; groups = gs }) (lent v.group (settled_for p) bag.groups g g' rg eg (gis ∙ ap (settled g) at_p))
    ∙ ap (λ (q : Pid). settled_in p q bag) (ap (λ (w : Vproc). w.group) (some_same _ _ (ev ∙ ap present here)))

-- ---- decisions that write nothing
pub same_bag : (bag : Bag) → changed same same bag ≡ bag
same_bag bag = ap (λ vs. record { vprocs = vs; groups = with_each same bag.groups }) (map-id bag.vprocs) ∙ ap (λ gs. record { vprocs = bag.vprocs; groups = gs }) (map-id bag.groups)

pub done_is : (own own' : Own) (p id : Pid) (bag b c : Bag) (v : Vproc) (g : Group) (entry : Option History) (phase : Phase) (nudges : List Pid) → own' ≡ folded own v g → id ≡ v.group → b ≡ settled_in p v.group bag → c ≡ trimmed_in id b → nudges ≡ [] →
    answered (outcome.Done (record { entry = entry; own = own'; phase = phase; born = None; nudges = nudges })) c ≡ done_by p v bag (quiet entry (folded own v g).sig phase)
done_is own own' p id bag b c v g entry phase nudges is at settled_is trimmed_is none =
    ap (λ (x : Own). answered (outcome.Done (record { entry = entry; own = x; phase = phase; born = None; nudges = nudges })) c) is
    ∙ ap (λ (l : List Pid). answered (outcome.Done (record { entry = entry; own = folded own v g; phase = phase; born = None; nudges = l })) c) none
    ∙ ap (answered (outcome.Done (record { entry = entry; own = folded own v g; phase = phase; born = None; nudges = [] })))
    (trimmed_is ∙ ap (λ (i : Pid). trimmed_in i b) at ∙ ap (trimmed_in v.group) settled_is ∙ ap (trimmed_in v.group) (sym (same_bag (settled_in p v.group bag))))

-- the group of the process, once it is settled
pub base_settled : (own : Own) (p id : Pid) (bag b : Bag) (h : HasBase own p bag) → id ≡ h.vproc.group → b ≡ settled_in p h.vproc.group bag → group_at b id ≡ Some (Some (settled h.group p))
base_settled own p id bag b h at is =
    ap (λ (x : Bag). group_at x id) is ∙ ap (group_at (settled_in p h.vproc.group bag)) at ∙ group_changed (only p (option_map emptied)) (only h.vproc.group (option_map (settled_for p))) bag h.vproc.group
    ∙ ap (option_map (only h.vproc.group (option_map (settled_for p)) h.vproc.group)) h.group_is ∙ ap Some (only_same h.vproc.group (option_map (settled_for p)) h.vproc.group (Some h.group) refl)

pub base_within : (own : Own) (p id : Pid) (bag b : Bag) (h : HasBase own p bag) → id ≡ h.vproc.group → b ≡ settled_in p h.vproc.group bag → (g : Group) → group_at b id ≡ Some (Some g) → All (λ m. m.from ≤ length g.log) g.members
base_within own p id bag b h at is g e = subst (λ (x : Group). All (λ m. m.from ≤ length x.log) x.members) (some_same _ _ (some_same _ _ (sym (base_settled own p id bag b h at is) ∙ e))) (within-settled h.group p h.within)

-- and its record
pub base_emptied : (own : Own) (p : Pid) (bag b : Bag) (h : HasBase own p bag) → b ≡ settled_in p h.vproc.group bag → vproc_at b p ≡ Some (Some (emptied h.vproc))
base_emptied own p bag b h is =
    ap (λ (x : Bag). vproc_at x p) is ∙ vproc_changed (only p (option_map emptied)) (only h.vproc.group (option_map (settled_for p))) bag p ∙ ap (option_map (only p (option_map emptied) p)) h.vproc_is ∙ ap Some (only_same p (option_map emptied) p (Some h.vproc) refl)
