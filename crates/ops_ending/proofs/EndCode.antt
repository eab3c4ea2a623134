-- an end, as the code works it out on two bags, is the whole decision
use Rattle.std.proofs.Common.{◌≡◌, ◌==◌, ◌&&◌, ◌<◌, ◌≤◌, ◌++◌, ℕ, Bool, true, false, cond, not, List, [], ◌∷◌, length, length-append, refl, sym, ap, ◌∙◌, subst, arith, Option, None, Some, IsSome, All, if◌then◌else◌}
use Rattle.std.specs.Prelude.{Result, Ok, Err, IfOk, OnOk, ◌-◌, filter, flat_map, take, slice_get}
use Rattle.std.specs.Option.{option_map}
use Rattle.std.proofs.lemmas.List.{take_at}
use Rattle.std.proofs.lemmas.List.Elements.{All-nil, All-cons, All-head, All-tail, All-filter}
use Rattle.list_laws.proofs.Filters.{some_same, map_same, map-map}
use Rattle.unix_names.specs.declared.Pid.{Pid}
use Rattle.unix_names.specs.declared.Name.{Name}
use Rattle.unix_names.specs.declared.WaitStatus.{WaitStatus}
use Rattle.unix_calls.specs.declared.Entry.{Entry as History}
use Rattle.unix_calls.specs.declared.Phase.TheVariants as phase
use Rattle.signal_state.specs.declared.Own.{Own}
use Rattle.vproc_record.specs.declared.Vproc.{Vproc}
use Rattle.vproc_record.specs.Lists.{without}
use Rattle.group_record.specs.declared.Member.{Member}
use Rattle.group_record.specs.declared.LogEntry.{LogEntry}
use Rattle.group_record.specs.declared.Group.{Group}
use Rattle.ordered_table.specs.declared.Entry.{Entry}
use Rattle.ordered_table.specs.Entries.{value_at, with_each, IsRising}
use Rattle.ordered_table.proofs.MapLaws.{with_each-at}
use Rattle.record_bag.specs.declared.bag.Bag.{Bag}
use Rattle.record_bag.specs.declared.vector.Outcome.{Outcome}
use Rattle.record_bag.specs.declared.vector.Outcome.TheVariants as outcome
use Rattle.record_bag.specs.Bags.{present, vproc_in, group_in}
use Rattle.record_bag.specs.Decisions.{answered}
use Rattle.process_table.specs.declared.Row.{Row}
use Rattle.decide_law.specs.Agrees.{vproc_at, group_at, Agrees}
use Rattle.decide_law.specs.Base.{HasBase}
use Rattle.decide_law.specs.Counts.{passes}
use Rattle.decide_law.specs.Effects.{written, folded, emptied, settled_in, trimmed_in, done_by, on_base, regroups, unless_empty_by}
use Rattle.decide_law.specs.Footprints.{is_none, end_footprint}
use Rattle.decide_law.specs.MethodNeeds.{wanted}
use Rattle.decide_law.proofs.FewCounts.{few_counts, held_group}
use Rattle.decide_law.proofs.NeedParts.{asked_for, all_held}
use Rattle.decide_law.proofs.RoundParts.{parts_whole, base_answer}
use Rattle.decide_law.proofs.Records.{only_same}
use Rattle.decide_law.proofs.SettledFootprints.{seen}
use Rattle.decide_law.proofs.Shell.{settled_agree}
use Rattle.ops_ending.specs.Ending.{vanishes, goes, ended_vproc, end_effect, left_group, left_members, end_nudges, nudged_in}
use Rattle.decide_law.specs.Vector.{IsFitting}
use Rattle.ops_ending.specs.declared.left_vprocs.End.{End}
use Rattle.ops_ending.specs.MethodEnding.{IsCountedIn, IsLeft, end_of, entries_by, held_told_by, held_untold_by, held_thinned_by, held_group_by, nudged_by, nudges_in, end_answer}
use Rattle.ops_ending.proofs.Partly.{entry_found}

-- ---- children
pub children_left : (p : Pid) (vanished : Bool) (cs : List Pid) → filter (λ c. not ((c.0 == p.0) && vanished)) cs ≡ (if vanished then without p cs else cs)
children_left p true [] = refl
children_left p false [] = refl
children_left p true (c ∷ cs) = go (c.0 == p.0) (children_left p true cs)
  where
    go : (b : Bool) → filter (λ c. not ((c.0 == p.0) && true)) cs ≡ without p cs → cond (not (b && true)) (c ∷ filter (λ c. not ((c.0 == p.0) && true)) cs) (filter (λ c. not ((c.0 == p.0) && true)) cs) ≡ cond (not b) (c ∷ without p cs) (without p cs)
    go true e = e
    go false e = ap (λ l. c ∷ l) e
children_left p false (c ∷ cs) = go (c.0 == p.0) (children_left p false cs)
  where
    go : (b : Bool) → filter (λ c. not ((c.0 == p.0) && false)) cs ≡ cs → cond (not (b && false)) (c ∷ filter (λ c. not ((c.0 == p.0) && false)) cs) (filter (λ c. not ((c.0 == p.0) && false)) cs) ≡ c ∷ cs
    go true e = ap (λ l. c ∷ l) e
    go false e = ap (λ l. c ∷ l) e

-- ---- records of groups: they are those of the definition
group_same : (bag : Bag) (w : WaitStatus) (p parent : Pid) (children : List Pid) (vanished : Bool) (session id : Pid) (h : Option Group) →
    held_group_by bag (p ∷ children) (record { pid = p; parent = parent; vanishes = vanished; status = w }) id h ≡ regroups session (left_group bag w p parent children vanished) id h
group_same bag w p parent children vanished session id None = refl
group_same bag w p parent children vanished session id (Some g) = refl

groups_same : (bag : Bag) (w : WaitStatus) (v : Vproc) (session : Pid) → with_each (held_group_by bag (v.pid ∷ v.children) (end_of bag v w)) bag.groups ≡ with_each (regroups session (left_group bag w v.pid v.parent v.children (vanishes bag v))) bag.groups
groups_same bag w v session = map_same _ _ (λ (e : Entry (Option Group)). ap (λ (h : Option Group). let entry : Entry (Option Group) = record { pid = e.pid; value = h } in entry) (group_same bag w v.pid v.parent v.children (vanishes bag v) session e.pid e.value)) bag.groups

-- the two passes over the groups are one
pub two_passes : (bag : Bag) (near : List Pid) (e : End) (gs : List (Entry (Option Group))) → with_each (held_thinned_by bag near e) (with_each (held_told_by bag near e) gs) ≡ with_each (held_group_by bag near e) gs
two_passes bag near e gs = map-map _ _ gs

-- ---- nudges
flat_same : {X Y : Type 0} (f g : X → List Y) (xs : List X) → ((x : X) → f x ≡ g x) → flat_map f xs ≡ flat_map g xs
flat_same f g [] e = refl
flat_same f g (x ∷ xs) e = ap (λ l. l ++ flat_map f xs) (e x) ∙ ap (λ l. g x ++ l) (flat_same f g xs e)

nudged_same : (bag : Bag) (w : WaitStatus) (p parent : Pid) (children : List Pid) (vanished : Bool) (id : Pid) (h : Option Group) →
    nudged_by bag (p ∷ children) (record { pid = p; parent = parent; vanishes = vanished; status = w }) id h ≡ nudged_in bag w p children vanished id h
nudged_same bag w p parent children vanished id None = refl
nudged_same bag w p parent children vanished id (Some g) = refl

nudges_same : (bag : Bag) (w : WaitStatus) (v : Vproc) → (if v.parent.0 == 1 then [] else v.parent ∷ []) ++ nudges_in bag (v.pid ∷ v.children) (end_of bag v w) bag.groups ≡ end_nudges bag w v.pid v.parent v.children (vanishes bag v)
nudges_same bag w v = ap (λ (l : List Pid). (if v.parent.0 == 1 then [] else v.parent ∷ []) ++ l) (flat_same _ _ bag.groups (λ (h : Entry (Option Group)). nudged_same bag w v.pid v.parent v.children (vanishes bag v) h.pid h.value))

-- what the code makes of the bag is what the end leaves
pub left_is : (bag left : Bag) (v : Vproc) (w : WaitStatus) (near nudges : List Pid) (e : End) → e ≡ end_of bag v w → near ≡ v.pid ∷ v.children → left.vprocs ≡ with_each (ended_vproc e.pid e.vanishes e.status) bag.vprocs →
    left.groups ≡ with_each (held_group_by bag near e) bag.groups → nudges ≡ (if e.parent.0 == 1 then [] else e.parent ∷ []) ++ nudges_in bag near e bag.groups → IsLeft bag v w left nudges
left_is bag left v w near nudges e end around vs gs ns = record {
  vprocs = vs ∙ ap (λ (x : End). with_each (ended_vproc x.pid x.vanishes x.status) bag.vprocs) end;
  groups = gs ∙ ap (λ (x : End). with_each (held_group_by bag near x) bag.groups) end ∙ ap (λ (l : List Pid). with_each (held_group_by bag l (end_of bag v w)) bag.groups) around ∙ groups_same bag w v v.session;
  nudged = ns ∙ ap (λ (x : End). (if x.parent.0 == 1 then [] else x.parent ∷ []) ++ nudges_in bag near x bag.groups) end ∙ ap (λ (l : List Pid). (if v.parent.0 == 1 then [] else v.parent ∷ []) ++ nudges_in bag l (end_of bag v w) bag.groups) around ∙ nudges_same bag w v;
}

-- where each of its parts is what it is to be
pub left_ok : {E : Type 0} (bag left : Bag) (v : Vproc) (w : WaitStatus) (near : List Pid) (e : End) (r : Result (List Pid) E) → e ≡ end_of bag v w → near ≡ v.pid ∷ v.children → IfOk r (λ nudges. nudges ≡ (if e.parent.0 == 1 then [] else e.parent ∷ []) ++ nudges_in bag near e bag.groups) →
    OnOk r (left.vprocs ≡ with_each (ended_vproc e.pid e.vanishes e.status) bag.vprocs) → OnOk r (left.groups ≡ with_each (held_group_by bag near e) bag.groups) → IfOk r (IsLeft bag v w left)
left_ok bag left v w near e (Ok nudges) end around ns vs gs = left_is bag left v w near nudges e end around vs gs ns
left_ok bag left v w near e (Err refused) end around ns vs gs = tt

-- ---- logs that are cut back
cut_back : {X : Type 0} (xs ys : List X) → take (length (xs ++ ys) - length ys) (xs ++ ys) ≡ xs
cut_back xs ys = take_at xs ys _ (let long = length-append xs ys in omega arith)

pub told_and_untold : (bag : Bag) (near : List Pid) (e : End) (id : Pid) (h : Option Group) → held_untold_by bag near e id (held_told_by bag near e id h) ≡ h
told_and_untold bag near e id None = refl
told_and_untold bag near e id (Some g) = ap (λ (l : List LogEntry). Some (record g { log = l })) (cut_back g.log (entries_by bag near e id g))

-- ---- what is counted is small
counted_by_id : (rows : List Row) (bag : Bag) (id : Pid) → length rows < 1000000 → Agrees bag rows → IsCountedIn (group_in bag id)
counted_by_id rows bag id few a = held_group IsCountedIn rows bag id tt (λ g is. let counts = few_counts rows id g few is in record { links = counts.0; stopped = counts.1 }) a

-- the settled bag of a question that fits
pub settled_counted : (p id : Pid) (own : Own) (bag settled : Bag) → IsFitting p own bag → settled ≡ settled_in p id bag → (q : Pid) → IsCountedIn (group_in settled q)
settled_counted p id own bag settled fit was q =
    subst (λ (b : Bag). IsCountedIn (group_in b q)) (sym was) (counted_by_id fit.fits.rows (settled_in p id bag) q fit.fits.asks.few (settled_agree fit.fits.rows p id bag fit.fits.asks.agrees))

-- each entry of a table of groups is found under its id
pub counted_entry : (es : List (Entry (Option Group))) (i : ℕ) (e : Entry (Option Group)) → IsRising es → slice_get es i ≡ Some e → ((id : Pid) → IsCountedIn (present (value_at es id))) → IsCountedIn e.value
counted_entry es i e r got counted = subst IsCountedIn (ap present (entry_found es i e r got)) (counted e.pid)

-- logs have nothing to do with counts
pub told_counted : (bag : Bag) (near : List Pid) (e : End) (es : List (Entry (Option Group))) (id : Pid) → IsCountedIn (present (value_at es id)) → IsCountedIn (present (value_at (with_each (held_told_by bag near e) es) id))
told_counted bag near e es id counted = subst (λ (o : Option (Option Group)). IsCountedIn (present o)) (sym (with_each-at (held_told_by bag near e) es id)) (go (value_at es id) counted)
  where
    go : (o : Option (Option Group)) → IsCountedIn (present o) → IsCountedIn (present (option_map (held_told_by bag near e id) o))
    go None k = k
    go (Some None) k = k
    go (Some (Some g)) k = record { links = k.links; stopped = k.stopped }

-- ---- the caller's group is held, and its members' parts begin within its log
abbrev Within : Group → Type 0
Within g = All (λ m. m.from ≤ length g.log) g.members

longer_within : (xs ys : List LogEntry) (ms : List Member) → All (λ m. m.from ≤ length xs) ms → All (λ m. m.from ≤ length (xs ++ ys)) ms
longer_within xs ys [] a = All-nil (λ m. m.from ≤ length (xs ++ ys))
longer_within xs ys (m ∷ ms) a =
    let here = All-head (λ (m : Member). m.from ≤ length xs) m ms a in
    let long = length-append xs ys in
    All-cons (λ m. m.from ≤ length (xs ++ ys)) m ms (omega arith) (longer_within xs ys ms (All-tail (λ (m : Member). m.from ≤ length xs) m ms a))

left_within : (bag : Bag) (w : WaitStatus) (p parent : Pid) (children : List Pid) (vanished : Bool) (session id : Pid) (h : Option Group) (g : Group) → ((x : Group) → h ≡ Some x → Within x) → regroups session (left_group bag w p parent children vanished) id h ≡ Some g → Within g
left_within bag w p parent children vanished session id None g k e = cc
left_within bag w p parent children vanished session id (Some x) g k e = go (left_members bag p vanished x) e
  where
    rest : Within (left_group bag w p parent children vanished id x)
    rest = longer_within x.log _ (left_members bag p vanished x) (All-filter (λ m. not (passes (goes p vanished) (vproc_in bag m.pid))) (λ m. m.from ≤ length x.log) x.members (k x refl))

    go : (ms : List Member) → unless_empty_by ms (left_group bag w p parent children vanished id x) ≡ Some g → Within g
    go [] e = cc
    go (m ∷ ms) e = subst Within (some_same _ _ e) rest

pub left_held : (bag left : Bag) (v : Vproc) (w : WaitStatus) (nudges : List Pid) (id : Pid) → IsLeft bag v w left nudges → IsSome (group_at bag id) → IsSome (group_at left id)
left_held bag left v w nudges id is h = subst (λ (gs : List (Entry (Option Group))). IsSome (value_at gs id)) (sym is.groups) (subst IsSome (sym (with_each-at (regroups v.session (left_group bag w v.pid v.parent v.children (vanishes bag v))) bag.groups id)) (go (group_at bag id) h))
  where
    go : (o : Option (Option Group)) → IsSome o → IsSome (option_map (regroups v.session (left_group bag w v.pid v.parent v.children (vanishes bag v)) id) o)
    go None e = e
    go (Some x) e = refl

pub left_group_within : (bag left : Bag) (v : Vproc) (w : WaitStatus) (nudges : List Pid) (id : Pid) → IsLeft bag v w left nudges → ((x : Group) → group_at bag id ≡ Some (Some x) → All (λ m. m.from ≤ length x.log) x.members) → (g : Group) → group_at left id ≡ Some (Some g) → All (λ m. m.from ≤ length g.log) g.members
left_group_within bag left v w nudges id is k g e =
    go (group_at bag id) refl (sym (ap (λ (gs : List (Entry (Option Group))). value_at gs id) is.groups ∙ with_each-at (regroups v.session (left_group bag w v.pid v.parent v.children (vanishes bag v))) bag.groups id) ∙ e)
  where
    go : (o : Option (Option Group)) → group_at bag id ≡ o → option_map (regroups v.session (left_group bag w v.pid v.parent v.children (vanishes bag v)) id) o ≡ Some (Some g) → Within g
    go None s m = cc
    go (Some h) s m = left_within bag w v.pid v.parent v.children (vanishes bag v) v.session id h g (λ x same. k x (s ∙ ap Some same)) (some_same _ _ m)

-- ---- the whole
pub settled_record : (p : Pid) (bag settled : Bag) (v : Vproc) → vproc_at bag p ≡ Some (Some v) → settled ≡ settled_in p v.group bag → vproc_in settled p ≡ Some (emptied v)
settled_record p bag settled v there was =
    ap (λ (b : Bag). vproc_in b p) was ∙ seen p v.group bag p ∙ only_same p (option_map emptied) p (vproc_in bag p) refl ∙ ap (λ (o : Option (Option Vproc)). option_map emptied (present o)) there

pub end_asks : (e : History) (w : WaitStatus) (p : Pid) (own : Own) (bag : Bag) (base : HasBase own p bag) (names : List Name) → names ≡ wanted bag (end_footprint bag base.vproc) [] → is_none names ≡ false →
    answered (outcome.Need names) bag ≡ on_base (end_answer e w own bag p) p bag
end_asks e w p own bag base names is some =
    asked_for (end_footprint bag base.vproc) names p base.vproc bag (end_effect (settled_in p base.vproc.group bag) (folded own base.vproc base.group).sig (emptied base.vproc) e w) is some
    ∙ sym (base_answer (end_answer e w own bag p) p bag base.vproc base.group base.vproc_is base.group_is)

pub end_done : (e : History) (w : WaitStatus) (p id : Pid) (own taken : Own) (bag settled wrote left : Bag) (v : Vproc) (g : Group) (nudges : List Pid) (o : Outcome) →
    id ≡ v.group → settled ≡ settled_in p v.group bag → taken ≡ folded own v g → IsLeft settled (emptied v) w wrote nudges → left ≡ trimmed_in id wrote →
    o ≡ outcome.Done (record { entry = Some e; own = taken; phase = phase.Gone; born = None; nudges = nudges }) → answered o left ≡ done_by p v bag (end_effect (settled_in p v.group bag) (folded own v g).sig (emptied v) e w)
end_done e w p id own taken bag settled wrote left v g nudges o at was took ends trimmed out =
    let sig = (folded own v g).sig in
    let writes : wrote ≡ written (end_effect settled sig (emptied v) e w) settled =
    ap (λ vs. record { vprocs = vs; groups = wrote.groups }) ends.vprocs ∙ ap (λ gs. record { vprocs = with_each (ended_vproc v.pid (vanishes settled (emptied v)) w) settled.vprocs; groups = gs }) ends.groups in
    parts_whole (end_effect settled sig (emptied v) e w) p id v o bag settled wrote left at was writes trimmed
    (out ∙ ap (λ (x : Own). outcome.Done (record { entry = Some e; own = x; phase = phase.Gone; born = None; nudges = nudges })) took ∙ ap (λ (l : List Pid). outcome.Done (record { entry = Some e; own = folded own v g; phase = phase.Gone; born = None; nudges = l })) ends.nudged)
    ∙ ap (λ (b : Bag). done_by p v bag (end_effect b sig (emptied v) e w)) was

-- where nothing lacks
pub end_whole : {E : Type 0} (e : History) (w : WaitStatus) (p : Pid) (own : Own) (bag left : Bag) (base : HasBase own p bag) (names : List Name) (r : Result Outcome E) → names ≡ wanted bag (end_footprint bag base.vproc) [] → is_none names ≡ true →
    IfOk r (λ o. answered o left ≡ done_by p base.vproc bag (end_effect (settled_in p base.vproc.group bag) (folded own base.vproc base.group).sig (emptied base.vproc) e w)) → IfOk r (λ o. answered o left ≡ on_base (end_answer e w own bag p) p bag)
end_whole e w p own bag left base names (Err refused) is none done = tt
end_whole e w p own bag left base names (Ok o) is none done =
    let v = base.vproc in
    let g = base.group in
    done
    ∙ all_held (end_footprint bag v) names p v bag (end_effect (settled_in p v.group bag) (folded own v g).sig (emptied v) e w) is none
    ∙ sym (base_answer (end_answer e w own bag p) p bag v g base.vproc_is base.group_is)
