-- an entry that is put into a log before the caller is settled, as the code does it, and after it, as the definitions have it
use Rattle.std.proofs.Common.{◌≡◌, ◌==◌, ◌≤◌, ◌++◌, ℕ, Bool, true, false, nat_lt, cond, List, [], ◌∷◌, length, refl, sym, ap, ◌∙◌, subst, arith, length-append, Option, None, Some, if◌then◌else◌}
use Rattle.std.specs.Prelude.{All, IsSome, OnOk, OnErr, Result, Ok, Err}
use Rattle.std.proofs.lemmas.List.Elements.{All-weaker}
use Rattle.std.specs.Option.{option_map}
use Rattle.std.proofs.lemmas.Bool.{eqb-true, eq-eqb, ltb-true, ltb-false}
use Rattle.list_laws.proofs.Filters.{some_same, map-id, map-map}
use Rattle.unix_names.specs.declared.Pid.{Pid}
use Rattle.signal_state.specs.declared.Own.{Own}
use Rattle.vproc_record.specs.declared.Vproc.{Vproc}
use Rattle.group_record.specs.declared.Member.{Member}
use Rattle.group_record.specs.declared.LogEntry.{LogEntry}
use Rattle.group_record.specs.declared.Group.{Group}
use Rattle.group_record.specs.Groups.{settled, with_entry}
use Rattle.ordered_table.specs.declared.Entry.{Entry}
use Rattle.ordered_table.specs.Entries.{value_at, with_value, with_each, IsRising}
use Rattle.ordered_table.proofs.MapLaws.{none-below, with_value_again}
use Rattle.record_bag.specs.declared.bag.Bag.{Bag}
use Rattle.decide_law.specs.Agrees.{vproc_at, group_at}
use Rattle.decide_law.specs.Base.{HasBase}
use Rattle.decide_law.specs.Effects.{only, changed, same, emptied, settled_for, settled_in, told_to}
use Rattle.decide_law.specs.MethodAppend.{begun}
use Rattle.decide_law.proofs.Changes.{group_changed, vproc_changed}
use Rattle.group_record.proofs.LogLaws.{within-settled}
use Rattle.decide_law.proofs.PutBack.{base_settled}
use Rattle.decide_law.proofs.Tables.{put_is_each}

-- ---- what was taken out and put back
unchanged : {T : Type 0} (p : Pid) (es : List (Entry T)) → with_each (only p (λ x. x)) es ≡ es
unchanged p [] = refl
unchanged {T} p (e ∷ es) = ap (λ (x : T). (record { pid = e.pid; value = x }) ∷ with_each (only p (λ y. y)) es) (go (e.pid.0 == p.0)) ∙ ap (λ l. e ∷ l) (unchanged p es)
  where
    go : (b : Bool) → cond b e.value e.value ≡ e.value
    go true = refl
    go false = refl

pub put_same : {T : Type 0} (p : Pid) (es : List (Entry T)) (x y : T) → IsRising es → value_at es p ≡ Some x → with_value (with_value es p y) p x ≡ es
put_same p es x y r v = with_value_again es p y x ∙ put_is_each p (λ z. z) es x r v ∙ unchanged p es

-- a clause that speaks of one outcome alone
pub on_ok : {T E P Q : Type 0} (r : Result T E) → (P → Q) → OnOk r P → OnOk r Q
on_ok (Ok x) f h = f h
on_ok (Err e) f h = h

pub on_err : {T E P Q : Type 0} (r : Result T E) → (P → Q) → OnErr r P → OnErr r Q
on_err (Ok x) f h = h
on_err (Err e) f h = f h

-- a change of one part of the bag
pub changed_group : (bag : Bag) (id : Pid) (f : Option Group → Option Group) (new : List (Entry (Option Group))) → new ≡ with_each (only id f) bag.groups → record bag { groups = new } ≡ changed same (only id f) bag
changed_group bag id f new is =
    ap (λ vs. record { vprocs = vs; groups = new }) (sym (map-id bag.vprocs))
    ∙ ap (λ gs. record { vprocs = with_each same bag.vprocs; groups = gs }) is

pub changed_vproc : (bag : Bag) (p : Pid) (f : Option Vproc → Option Vproc) (new : List (Entry (Option Vproc))) → new ≡ with_each (only p f) bag.vprocs → record bag { vprocs = new } ≡ changed (only p f) same bag
changed_vproc bag p f new is =
    ap (λ vs. record { vprocs = vs; groups = bag.groups }) is
    ∙ ap (λ gs. record { vprocs = with_each (only p f) bag.vprocs; groups = gs }) (sym (map-id bag.groups))

-- ---- changes that agree on what is there
found_later : {T : Type 0} (e : Entry T) (es : List (Entry T)) (q : Pid) (x : T) → IsRising (e ∷ es) → value_at es q ≡ Some x → value_at (e ∷ es) q ≡ Some x
found_later e es q x r v = go (nat_lt e.pid.0 q.0) refl
  where
    go : (b : Bool) → nat_lt e.pid.0 q.0 ≡ b → (if b then value_at es q else (if e.pid.0 == q.0 then Some e.value else None)) ≡ Some x
    go true less = v
    go false less = let at : Some x ≡ None = sym v ∙ none-below es q e.pid r.0 (ltb-false e.pid.0 q.0 less) in absurd (cc at)

found_first : {T : Type 0} (e : Entry T) (es : List (Entry T)) → value_at (e ∷ es) e.pid ≡ Some e.value
found_first e es = go (nat_lt e.pid.0 e.pid.0) refl
  where
    go : (b : Bool) → nat_lt e.pid.0 e.pid.0 ≡ b → (if b then value_at es e.pid else (if e.pid.0 == e.pid.0 then Some e.value else None)) ≡ Some e.value
    go true less = let lt = ltb-true _ _ less in absurd (omega arith)
    go false less = ap (λ (b : Bool). if b then Some e.value else None) (eq-eqb e.pid.0 e.pid.0 refl)

pub each_same : {T : Type 0} (f g : Pid → T → T) (es : List (Entry T)) → IsRising es → ((q : Pid) (x : T) → value_at es q ≡ Some x → f q x ≡ g q x) → with_each f es ≡ with_each g es
each_same f g [] r h = refl
each_same {T} f g (e ∷ es) r h =
    ap (λ (x : T). (record { pid = e.pid; value = x }) ∷ with_each f es) (h e.pid e.value (found_first e es))
    ∙ ap (λ l. (record { pid = e.pid; value = g e.pid e.value }) ∷ l) (each_same f g es r.1 (λ q x v. h q x (found_later e es q x r v)))

-- ---- the order of settling and appending
settled_told : (p id t q : Pid) (e : LogEntry) (g : Group) (h : Option Group) (b c : Bool) → (b ≡ true → h ≡ Some g) →
    cond b (option_map (begun (length g.log) p) (cond c (option_map (told_to e) h) h)) (cond c (option_map (told_to e) h) h) ≡ cond c (option_map (told_to e) (cond b (option_map (settled_for p) h) h)) (cond b (option_map (settled_for p) h) h)
settled_told p id t q e g h false c is = refl
settled_told p id t q e g h true false is = ap (option_map (begun (length g.log) p)) (is refl) ∙ ap (option_map (settled_for p)) (sym (is refl))
settled_told p id t q e g h true true is = ap (λ (o : Option Group). option_map (begun (length g.log) p) (option_map (told_to e) o)) (is refl) ∙ ap (λ (o : Option Group). option_map (told_to e) (option_map (settled_for p) o)) (sym (is refl))

at_id : (es : List (Entry (Option Group))) (id q : Pid) (g : Group) (h : Option Group) → value_at es id ≡ Some (Some g) → value_at es q ≡ Some h → (q.0 == id.0) ≡ true → h ≡ Some g
at_id es id q g h there here eq = let one : q ≡ id = ap (λ (n : ℕ). record { 0 = n }) (eqb-true _ _ eq) in some_same _ _ (sym here ∙ ap (value_at es) one ∙ there)

groups_in_order : (p id t : Pid) (e : LogEntry) (g : Group) (es : List (Entry (Option Group))) → IsRising es → value_at es id ≡ Some (Some g) →
    with_each (only id (option_map (begun (length g.log) p))) (with_each (only t (option_map (told_to e))) es) ≡ with_each (only t (option_map (told_to e))) (with_each (only id (option_map (settled_for p))) es)
groups_in_order p id t e g es r there =
    map-map _ _ es
    ∙ each_same (λ q h. only id (option_map (begun (length g.log) p)) q (only t (option_map (told_to e)) q h)) (λ q h. only t (option_map (told_to e)) q (only id (option_map (settled_for p)) q h)) es r
    (λ q h here. settled_told p id t q e g h (q.0 == id.0) (q.0 == t.0) (λ eq. at_id es id q g h there here eq))
    ∙ sym (map-map _ _ es)

vprocs_in_order : (f : Pid → Option Vproc → Option Vproc) (es : List (Entry (Option Vproc))) → with_each same (with_each f (with_each same es)) ≡ with_each same (with_each f es)
vprocs_in_order f es = ap (λ l. with_each same (with_each f l)) (map-id es)

pub in_order : (p id t : Pid) (e : LogEntry) (g : Group) (bag : Bag) → IsRising bag.groups → group_at bag id ≡ Some (Some g) →
    changed same (only id (option_map (begun (length g.log) p))) (changed (only p (option_map emptied)) same (changed same (only t (option_map (told_to e))) bag)) ≡ changed same (only t (option_map (told_to e))) (settled_in p id bag)
in_order p id t e g bag r there =
    ap (λ vs. record { vprocs = vs; groups = with_each (only id (option_map (begun (length g.log) p))) (with_each same (with_each (only t (option_map (told_to e))) bag.groups)) }) (vprocs_in_order (only p (option_map emptied)) bag.vprocs)
    ∙ ap (λ gs. record { vprocs = with_each same (with_each (only p (option_map emptied)) bag.vprocs); groups = with_each (only id (option_map (begun (length g.log) p))) gs }) (map-id (with_each (only t (option_map (told_to e))) bag.groups))
    ∙ ap (λ gs. record { vprocs = with_each same (with_each (only p (option_map emptied)) bag.vprocs); groups = gs }) (groups_in_order p id t e g bag.groups r there)

-- ---- the group of the process afterwards
told_within : (e : LogEntry) (g : Group) → All (λ m. m.from ≤ length g.log) g.members → All (λ m. m.from ≤ length (with_entry g e).log) (with_entry g e).members
told_within e g a = All-weaker (λ (m : Member). m.from ≤ length g.log) (λ (m : Member). m.from ≤ length (g.log ++ e ∷ [])) (λ m h. simp length-append (omega arith)) g.members a

-- once it was settled, and the entry appended to some group
abbrev pub appended : Pid → LogEntry → Bag → Bag
appended t e bag = changed same (only t (option_map (told_to e))) bag

abbrev pub Within : Group → Type 0
Within g = All (λ m. m.from ≤ length g.log) g.members

told_or_not : (b : Bool) (e : LogEntry) (g x : Group) → Within g → cond b (option_map (told_to e) (Some g)) (Some g) ≡ Some x → Within x
told_or_not true e g x w is = subst Within (some_same _ _ is) (told_within e g w)
told_or_not false e g x w is = subst Within (some_same _ _ is) w

group_after : (own : Own) (p t id : Pid) (e : LogEntry) (bag b : Bag) (h : HasBase own p bag) → id ≡ h.vproc.group → b ≡ appended t e (settled_in p h.vproc.group bag) → group_at b id ≡ Some (only t (option_map (told_to e)) id (Some (settled h.group p)))
group_after own p t id e bag b h at is =
    ap (λ (x : Bag). group_at x id) is ∙ group_changed same (only t (option_map (told_to e))) (settled_in p h.vproc.group bag) id
    ∙ ap (option_map (only t (option_map (told_to e)) id)) (base_settled own p id bag (settled_in p h.vproc.group bag) h at refl)

pub after_within : (own : Own) (p t id : Pid) (e : LogEntry) (bag b : Bag) (h : HasBase own p bag) → id ≡ h.vproc.group → b ≡ appended t e (settled_in p h.vproc.group bag) → (g : Group) → group_at b id ≡ Some (Some g) → Within g
after_within own p t id e bag b h at is g here = told_or_not (id.0 == t.0) e (settled h.group p) g (within-settled h.group p h.within) (some_same _ _ (sym (group_after own p t id e bag b h at is) ∙ here))

pub after_held : (own : Own) (p t id : Pid) (e : LogEntry) (bag b : Bag) (h : HasBase own p bag) → id ≡ h.vproc.group → b ≡ appended t e (settled_in p h.vproc.group bag) → IsSome (group_at b id)
after_held own p t id e bag b h at is = subst IsSome (sym (group_after own p t id e bag b h at is)) refl

-- ---- what is held while the entry is appended
pub vproc_kept : (own : Own) (p t : Pid) (e : LogEntry) (bag b : Bag) (h : HasBase own p bag) → b ≡ appended t e bag → IsSome (vproc_at b p)
vproc_kept own p t e bag b h is = subst IsSome (sym (ap (λ (x : Bag). vproc_at x p) is ∙ vproc_changed same (only t (option_map (told_to e))) bag p ∙ ap (option_map (same p)) h.vproc_is)) refl

pub group_kept : (own : Own) (p t id : Pid) (e : LogEntry) (bag b : Bag) (h : HasBase own p bag) → id ≡ h.vproc.group → b ≡ appended t e bag → IsSome (group_at b id)
group_kept own p t id e bag b h at is = subst IsSome (sym (ap (λ (x : Bag). group_at x id) is ∙ group_changed same (only t (option_map (told_to e))) bag id ∙ ap (λ (i : Pid). option_map (only t (option_map (told_to e)) id) (group_at bag i)) at ∙ ap (option_map (only t (option_map (told_to e)) id)) h.group_is)) refl

-- ---- the whole
pub append_whole : (own : Own) (p t id : Pid) (end : ℕ) (e : LogEntry) (bag b c d : Bag) (h : HasBase own p bag) → IsRising bag.groups → id ≡ h.vproc.group → end ≡ length h.group.log → b ≡ appended t e bag → c ≡ changed (only p (option_map emptied)) same b → d ≡ changed same (only id (option_map (begun end p))) c →
    d ≡ appended t e (settled_in p h.vproc.group bag)
append_whole own p t id end e bag b c d h rises at ends first second third =
    third
    ∙ ap (λ (i : Pid). changed same (only i (option_map (begun end p))) c) at
    ∙ ap (λ (n : ℕ). changed same (only h.vproc.group (option_map (begun n p))) c) ends
    ∙ ap (changed same (only h.vproc.group (option_map (begun (length h.group.log) p)))) (second ∙ ap (changed (only p (option_map emptied)) same) first)
    ∙ in_order p h.vproc.group t e h.group bag rises h.group_is
