-- what settling took is given back
use Rattle.std.proofs.Common.{◌≡◌, ◌==◌, ℕ, Bool, true, false, cond, List, [], ◌∷◌, length, refl, sym, ap, ◌∙◌, subst, None, Some}
use Rattle.std.specs.Prelude.{map}
use Rattle.std.specs.Option.{option_map}
use Rattle.std.proofs.lemmas.Bool.{eqb-true}
use Rattle.list_laws.specs.Keyed.{at, Distinct}
use Rattle.list_laws.proofs.Filters.{some_same, map-id, map-map}
use Rattle.list_laws.proofs.Finding.{absent_differs, absent_rest}
use Rattle.unix_names.specs.declared.Pid.{Pid}
use Rattle.unix_names.specs.declared.Signal.{Signal}
use Rattle.signal_state.specs.declared.Own.{Own}
use Rattle.group_record.specs.declared.Member.{Member}
use Rattle.group_record.specs.declared.Group.{Group}
use Rattle.group_record.specs.Groups.{settled}
use Rattle.group_record.specs.Members.{member_number, from_of, from_in, begun_at}
use Rattle.ordered_table.specs.declared.Entry.{Entry}
use Rattle.ordered_table.specs.Entries.{value_at, with_each, AllAbove, IsRising}
use Rattle.record_bag.specs.declared.bag.Bag.{Bag}
use Rattle.decide_law.specs.declared.keeping.Kept.{Kept}
use Rattle.decide_law.specs.Agrees.{group_at}
use Rattle.decide_law.specs.Effects.{only, changed, same, emptied, settled_for, settled_in}
use Rattle.decide_law.specs.Kept.{IsKeptFrom}
use Rattle.decide_law.specs.MethodAppend.{begun}
use Rattle.decide_law.specs.Vector.{IsFitting}
use Rattle.decide_law.specs.MethodKept.{backlogged}
use Rattle.decide_law.proofs.Appended.{each_same}
use Rattle.decide_law.proofs.Records.{pid_same}
use Rattle.decide_law.proofs.Shell.{group_is}

-- ---- ids that rise rise before a change of each value
above_before : {A B : Type 0} (p : Pid) (f : Pid → A → B) (es : List (Entry A)) → AllAbove p (with_each f es) → AllAbove p es
above_before p f [] a = tt
above_before p f (e ∷ es) a = (a.0, above_before p f es a.1)

pub rose_before : {A B : Type 0} (f : Pid → A → B) (es : List (Entry A)) → IsRising (with_each f es) → IsRising es
rose_before f [] r = tt
rose_before f (e ∷ es) r = (above_before e.pid f es r.0, rose_before f es r.1)

-- ---- members
-- who is not listed is not changed
not_listed : (end p : _) (ms : List Member) → at member_number p ms ≡ None → map (begun_at end (record { 0 = p })) ms ≡ ms
not_listed end p [] none = refl
not_listed end p (m ∷ ms) none =
    ap (λ (b : Bool). cond b (record m { from = end }) m ∷ map (begun_at end (record { 0 = p })) ms) (absent_differs member_number p m ms none)
    ∙ ap (λ l. m ∷ l) (not_listed end p ms (absent_rest member_number p m ms none))

-- a part that was begun elsewhere begins where it did
begun_back : (end : ℕ) (p : Pid) (ms : List Member) → Distinct member_number ms → map (begun_at (from_of ms p) p) (map (begun_at end p) ms) ≡ ms
begun_back end p [] d = refl
begun_back end p (m ∷ ms) d = go (begun_back end p ms d.1) (m.pid.0 == p.0) refl
  where
    go : map (begun_at (from_of ms p) p) (map (begun_at end p) ms) ≡ ms → (b : Bool) → (m.pid.0 == p.0) ≡ b → map (begun_at (from_in (cond b (Some m) (at member_number p.0 ms))) p) (cond b (record m { from = end }) m ∷ map (begun_at end p) ms) ≡ m ∷ ms
    go rest true is =
        let none : at member_number p.0 ms ≡ None = subst (λ (n : ℕ). at member_number n ms ≡ None) (eqb-true _ _ is) d.0 in
        ap (λ (b : Bool). cond b (record m { from = m.from }) (record m { from = end }) ∷ map (begun_at m.from p) (map (begun_at end p) ms)) is
        ∙ ap (λ l. m ∷ l) (ap (map (begun_at m.from p)) (not_listed end p.0 ms none) ∙ not_listed m.from p.0 ms none)
    go rest false is =
        ap (λ (b : Bool). cond b (record m { from = from_of ms p }) m ∷ map (begun_at (from_of ms p) p) (map (begun_at end p) ms)) is
        ∙ ap (λ l. m ∷ l) rest

group_back : (from : ℕ) (p : Pid) (g : Group) → Distinct member_number g.members → from ≡ from_of g.members p → begun from p (settled g p) ≡ g
group_back from p g d is = ap (λ (ms : List Member). record g { members = ms }) (ap (λ (n : ℕ). map (begun_at n p) (map (begun_at (length g.log) p) g.members)) is ∙ begun_back (length g.log) p g.members d)

-- ---- changes under one id that give back what was there
back_at : {T : Type 0} (p : Pid) (f g : T → T) (was : T) (es : List (Entry T)) → value_at es p ≡ Some was → g (f was) ≡ was → (q : Pid) (x : T) → value_at es q ≡ Some x → only p g q (only p f q x) ≡ x
back_at p f g was es there back q x here = go (q.0 == p.0) refl
  where
    go : (b : Bool) → (q.0 == p.0) ≡ b → cond b (g (cond b (f x) x)) (cond b (f x) x) ≡ x
    go true is =
        let one : x ≡ was = some_same x was (sym here ∙ ap (value_at es) (pid_same q p (eqb-true _ _ is)) ∙ there) in
        ap (λ y. g (f y)) one ∙ back ∙ sym one
    go false is = refl

given_back : {T : Type 0} (p : Pid) (f g : T → T) (was : T) (es : List (Entry T)) → IsRising (with_each (only p f) es) → value_at es p ≡ Some was → g (f was) ≡ was → with_each (only p g) (with_each (only p f) es) ≡ es
given_back p f g was es r there back =
    map-map _ _ es ∙ each_same (λ q x. only p g q (only p f q x)) (λ q x. x) es (rose_before (only p f) es r) (back_at p f g was es there back) ∙ map-id es

-- ---- the bag
pub unsettled : (p : Pid) (kept : Kept) (old filled new before : Bag) → IsRising old.vprocs → IsRising old.groups →
    filled ≡ changed (only p (option_map (backlogged kept.backlog))) same old → new ≡ changed same (only kept.group (option_map (begun kept.from p))) filled →
    IsKeptFrom before p kept → old ≡ settled_in p kept.group before → new ≡ before
unsettled p kept old filled new before rv rg fill begin is was =
    begin ∙ ap (changed same (only kept.group (option_map (begun kept.from p)))) (fill ∙ ap (changed (only p (option_map (backlogged kept.backlog))) same) was)
    ∙ ap (λ vs. record { vprocs = vs; groups = with_each (only kept.group (option_map (begun kept.from p))) (with_each same (with_each (only kept.group (option_map (settled_for p))) before.groups)) }) (map-id (with_each (only p (option_map (backlogged kept.backlog))) (with_each (only p (option_map emptied)) before.vprocs)) ∙ vprocs)
    ∙ ap (λ gs. record { vprocs = before.vprocs; groups = with_each (only kept.group (option_map (begun kept.from p))) gs }) (map-id (with_each (only kept.group (option_map (settled_for p))) before.groups))
    ∙ ap (λ gs. record { vprocs = before.vprocs; groups = gs }) groups
  where
    vprocs : with_each (only p (option_map (backlogged kept.backlog))) (with_each (only p (option_map emptied)) before.vprocs) ≡ before.vprocs
    vprocs =
        given_back p (option_map emptied) (option_map (backlogged kept.backlog)) (Some is.vproc) before.vprocs (subst (λ (b : Bag). IsRising b.vprocs) was rv) is.vproc_is
        (ap (λ (l : List Signal). Some (record is.vproc { backlog = l })) (ap (λ (k : Kept). k.backlog) is.kept_is))

    groups : with_each (only kept.group (option_map (begun kept.from p))) (with_each (only kept.group (option_map (settled_for p))) before.groups) ≡ before.groups
    groups =
        given_back kept.group (option_map (settled_for p)) (option_map (begun kept.from p)) (Some is.group) before.groups (subst (λ (b : Bag). IsRising b.groups) was rg)
        (ap (value_at before.groups) (ap (λ (k : Kept). k.group) is.kept_is) ∙ is.group_is)
        (ap Some (group_back kept.from p is.group is.distinct (ap (λ (k : Kept). k.from) is.kept_is)))

-- where a question fits, each group lists each member once
pub fitting_distinct : (p : Pid) (own : Own) (bag : Bag) (id : Pid) (g : Group) → IsFitting p own bag → group_at bag id ≡ Some (Some g) → Distinct member_number g.members
fitting_distinct p own bag id g fit here = (group_is fit.fits.rows bag id g fit.fits.asks.agrees here).distinct
