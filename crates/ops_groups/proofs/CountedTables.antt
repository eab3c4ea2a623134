-- tables whose entries change one after another, each by its count
use Rattle.std.proofs.Common.{◌≡◌, ◌==◌, ◌<◌, ◌+◌, ℕ, zero, suc, length, get_or, add-one, Bool, List, [], ◌∷◌, take, refl, sym, ap, ◌∙◌, subst, arith, None, Some, if◌then◌else◌}
use Rattle.std.specs.Prelude.{map, slice_get, slice_set}
use Rattle.std.proofs.lemmas.Bool.{lt-ltb, le-ltb, eq-eqb}
use Rattle.std.proofs.lemmas.List.{length-set}
use Rattle.list_laws.proofs.Filters.{some_same}
use Rattle.unix_names.specs.declared.Pid.{Pid}
use Rattle.ordered_table.specs.declared.Entry.{Entry}
use Rattle.ordered_table.specs.Entries.{value_at, with_each, AllAbove, IsRising, IsReplacedAt}
use Rattle.ops_groups.specs.MethodMove.{with_counts}

-- ---- an entry is found under its id
-- an entry of a list above p is above p
above_got : {T : Type 0} (p : Pid) (es : List (Entry T)) (i : ℕ) (e : Entry T) → AllAbove p es → slice_get es i ≡ Some e → p.0 < e.pid.0
above_got p [] i e a g = cc
above_got p (x ∷ es) zero e a g = let same : x ≡ e = some_same x e g in subst (λ (y : Entry _). p.0 < y.pid.0) same a.0
above_got p (x ∷ es) (suc i) e a g = above_got p es i e a.1 g

pub entry_found : {A : Type 0} (es : List (Entry A)) (i : ℕ) (e : Entry A) → IsRising es → slice_get es i ≡ Some e → value_at es e.pid ≡ Some e.value
entry_found [] i e r g = cc
entry_found (x ∷ es) zero e r g =
    let same : x ≡ e = some_same x e g in
    subst (λ (y : Entry _). value_at (x ∷ es) y.pid ≡ Some y.value) same
    (ap (λ (b : Bool). if b then value_at es x.pid else (if x.pid.0 == x.pid.0 then Some x.value else None)) (le-ltb x.pid.0 x.pid.0 (omega arith)) ∙ ap (λ (b : Bool). if b then Some x.value else None) (eq-eqb x.pid.0 x.pid.0 refl))
entry_found (x ∷ es) (suc i) e r g =
    ap (λ (b : Bool). if b then value_at es e.pid else (if x.pid.0 == e.pid.0 then Some x.value else None)) (lt-ltb _ _ (above_got x.pid es i e r.0 g)) ∙ entry_found es i e r.1 g

-- ---- what is read at a place
pub got_at : {X : Type 0} (xs : List X) (i : ℕ) (d : X) → i < length xs → slice_get xs i ≡ Some (get_or xs i d)
got_at [] i d lt = absurd (omega arith)
got_at (x ∷ xs) zero d lt = refl
got_at (x ∷ xs) (suc i) d lt = got_at xs i d (omega arith)

-- ---- a value that is taken out for a while
got_set : {X : Type 0} (xs : List X) (i : ℕ) (x y : X) → slice_get xs i ≡ Some x → slice_get (slice_set xs i y) i ≡ Some y
got_set [] i x y g = cc
got_set (z ∷ xs) zero x y g = refl
got_set (z ∷ xs) (suc i) x y g = got_set xs i x y g

set_again : {X : Type 0} (xs : List X) (i : ℕ) (x y : X) → slice_set (slice_set xs i x) i y ≡ slice_set xs i y
set_again [] i x y = refl
set_again (z ∷ xs) zero x y = refl
set_again (z ∷ xs) (suc i) x y = ap (λ l. z ∷ l) (set_again xs i x y)

replaced_twice : {T : Type 0} (i : ℕ) (old mid new : List (Entry T)) (was out got back : T) (e : Entry T) → slice_get old i ≡ Some e → IsReplacedAt i old mid was out → IsReplacedAt i mid new got back → new ≡ slice_set old i (record { pid = e.pid; value = back })
replaced_twice i old mid new was out got back e there first second =
    let one : first.entry ≡ e = some_same _ _ (sym first.there ∙ there) in
    let left : mid ≡ slice_set old i (record { pid = e.pid; value = out }) = first.now ∙ ap (λ (x : Entry _). slice_set old i (record { pid = x.pid; value = out })) one in
    let two : second.entry ≡ record { pid = e.pid; value = out } = some_same _ _ (sym second.there ∙ ap (λ l. slice_get l i) left ∙ got_set old i e (record { pid = e.pid; value = out }) there) in
    second.now ∙ ap (λ (x : Entry _). slice_set mid i (record { pid = x.pid; value = back })) two ∙ ap (λ l. slice_set l i (record { pid = e.pid; value = back })) left ∙ set_again old i _ _

-- ---- the entries that have changed
pub counted_length : {C T : Type 0} (f : C → Pid → T → T) (cs : List C) (es : List (Entry T)) → length (with_counts f cs es) ≡ length es
counted_length f [] es = refl
counted_length f (c ∷ cs) [] = refl
counted_length f (c ∷ cs) (e ∷ es) = let h = counted_length f cs es in omega arith

-- the next one is as it was
next_got : {C T : Type 0} (f : C → Pid → T → T) (cs : List C) (es : List (Entry T)) (i : ℕ) → slice_get (with_counts f (take i cs) es) i ≡ slice_get es i
next_got f cs es zero = refl
next_got f [] es (suc i) = refl
next_got f (c ∷ cs) [] (suc i) = refl
next_got f (c ∷ cs) (e ∷ es) (suc i) = next_got f cs es i

next_set : {C T : Type 0} (f : C → Pid → T → T) (cs : List C) (es : List (Entry T)) (i : ℕ) (c : C) (e : Entry T) → slice_get cs i ≡ Some c → slice_get es i ≡ Some e →
    slice_set (with_counts f (take i cs) es) i (record { pid = e.pid; value = f c e.pid e.value }) ≡ with_counts f (take (suc i) cs) es
next_set f [] es i c e gc ge = cc
next_set f (x ∷ cs) [] i c e gc ge = cc
next_set f (x ∷ cs) (y ∷ es) zero c e gc ge =
    ap (λ (z : Entry _). (record { pid = z.pid; value = f c z.pid z.value }) ∷ es) (sym (some_same y e ge)) ∙ ap (λ z. (record { pid = y.pid; value = f z y.pid y.value }) ∷ es) (sym (some_same x c gc))
next_set f (x ∷ cs) (y ∷ es) (suc i) c e gc ge = ap (λ l. (record { pid = y.pid; value = f x y.pid y.value }) ∷ l) (next_set f cs es i c e gc ge)

-- as a loop over the places does it, which takes each value out and puts it back changed
pub counted_next : {C T : Type 0} (f : C → Pid → T → T) (cs : List C) (es now mid new : List (Entry T)) (i : ℕ) (c : C) (id : Pid) (e : Entry T) (was out got back : T) → now ≡ with_counts f (take i cs) es → slice_get cs i ≡ Some c → slice_get now i ≡ Some e → id ≡ e.pid →
    IsReplacedAt i now mid was out → back ≡ f c id was → IsReplacedAt i mid new got back → new ≡ with_counts f (take (i + 1) cs) es
counted_next f cs es now mid new i c id e was out got back is gc ge at first made second =
    let value : e.value ≡ was = ap (λ (x : Entry _). x.value) (some_same _ _ (sym ge ∙ first.there)) ∙ first.had in
    let there : slice_get es i ≡ Some e = sym (next_got f cs es i) ∙ ap (λ l. slice_get l i) (sym is) ∙ ge in
    replaced_twice i now mid new was out got back e ge first second
    ∙ ap (λ v. slice_set now i (record { pid = e.pid; value = v })) (made ∙ ap (λ (q : Pid). f c q was) at ∙ ap (f c e.pid) (sym value))
    ∙ ap (λ l. slice_set l i (record { pid = e.pid; value = f c e.pid e.value })) is
    ∙ next_set f cs es i c e gc there
    ∙ ap (λ (n : ℕ). with_counts f (take n cs) es) (sym (add-one i))

-- what was there
pub counted_there : {C T : Type 0} (f : C → Pid → T → T) (cs : List C) (es now mid : List (Entry T)) (i : ℕ) (was out : T) → now ≡ with_counts f (take i cs) es → IsReplacedAt i now mid was out → (e : Entry T) × (slice_get es i ≡ Some e) × (e.value ≡ was)
counted_there f cs es now mid i was out is first = (first.entry, sym (next_got f cs es i) ∙ ap (λ l. slice_get l i) (sym is) ∙ first.there, first.had)

-- where the counts are of the same ids
pub counted_each : {A C T : Type 0} (f : C → Pid → T → T) (h : Pid → C) (g : Pid → A → T) (es : List (Entry A)) → with_counts f (map (λ (e : Entry A). h e.pid) es) (with_each g es) ≡ with_each (λ q x. f (h q) q (g q x)) es
counted_each f h g [] = refl
counted_each f h g (e ∷ es) = ap (λ l. (record { pid = e.pid; value = f (h e.pid) e.pid (g e.pid e.value) }) ∷ l) (counted_each f h g es)

-- ---- changes that agree
pub each_agrees : {A B : Type 0} (f g : Pid → A → B) (es : List (Entry A)) → ((q : Pid) (x : A) → f q x ≡ g q x) → with_each f es ≡ with_each g es
each_agrees f g [] h = refl
each_agrees f g (e ∷ es) h = ap (λ v. (record { pid = e.pid; value = v }) ∷ with_each f es) (h e.pid e.value) ∙ ap (λ l. (record { pid = e.pid; value = g e.pid e.value }) ∷ l) (each_agrees f g es h)

-- ---- lengths
pub replaced_length : {T : Type 0} (i : ℕ) (old new : List (Entry T)) (was value : T) → IsReplacedAt i old new was value → length new ≡ length old
replaced_length i old new was value is = ap length is.now ∙ length-set old i _
