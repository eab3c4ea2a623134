-- tables that change entry by entry, where they stand
use Rattle.std.proofs.Common.{◌≡◌, ◌==◌, ◌<◌, ◌+◌, ℕ, zero, suc, length, get_or, add-one, Bool, List, [], ◌∷◌, refl, sym, ap, ◌∙◌, subst, arith, None, Some, if◌then◌else◌}
use Rattle.std.specs.Prelude.{slice_get, slice_set}
use Rattle.std.proofs.lemmas.Bool.{lt-ltb, le-ltb, eq-eqb}
use Rattle.std.proofs.lemmas.Option.{slice_get-get_or}
use Rattle.list_laws.proofs.Filters.{some_same}
use Rattle.unix_names.specs.declared.Pid.{Pid}
use Rattle.ordered_table.specs.declared.Entry.{Entry}
use Rattle.ordered_table.specs.Entries.{value_at, AllAbove, IsRising, IsReplacedAt}
use Rattle.ops_ending.specs.MethodEnding.{partly, IsChangedAt}

-- ---- an entry is found under its id
above_got : {T : Type 0} (p : Pid) (es : List (Entry T)) (i : ℕ) (e : Entry T) → AllAbove p es → slice_get es i ≡ Some e → p.0 < e.pid.0
above_got p [] i e a g = cc
above_got p (x ∷ es) zero e a g = let same : x ≡ e = some_same x e g in subst (λ (y : Entry _). p.0 < y.pid.0) same a.0
above_got p (x ∷ es) (suc i) e a g = above_got p es i e a.1 g

pub entry_found : {A : Type 0} (es : List (Entry A)) (i : ℕ) (e : Entry A) → IsRising es → slice_get es i ≡ Some e → value_at es e.pid ≡ Some e.value
entry_found [] i e r g = cc
entry_found (x ∷ es) zero e r g =
    let same : x ≡ e = some_same x e g in
    subst (λ (y : Entry _). value_at (x ∷ es) y.pid ≡ Some y.value) same
    (ap (λ (b : Bool). if b then value_at es x.pid else (if x.pid.0 == x.pid.0 then Some x.value else None)) (le-ltb x.pid.0 x.pid.0 (omega arith)) ∙ ap (λ (b : Bool). if b then Some x.value else None) (eq-eqb x.pid.0 x.pid.0 refl))
entry_found (x ∷ es) (suc i) e r g =
    ap (λ (b : Bool). if b then value_at es e.pid else (if x.pid.0 == e.pid.0 then Some x.value else None)) (lt-ltb _ _ (above_got x.pid es i e r.0 g)) ∙ entry_found es i e r.1 g

-- the id that is read at a place
pub id_read : {A : Type 0} (es read : List (Entry A)) (i : ℕ) (e x : Entry A) → read ≡ es → i < length es → slice_get es i ≡ Some e → (get_or read i x).pid ≡ e.pid
id_read es read i e x is lt there = ap (λ l. (get_or l i x).pid) is ∙ ap (λ (y : Entry _). y.pid) (some_same _ _ (sym (slice_get-get_or es i x lt) ∙ there))

-- ---- a value that was taken out and put back changed
set_same : {X : Type 0} (xs : List X) (i : ℕ) (x : X) → slice_get xs i ≡ Some x → slice_set xs i x ≡ xs
set_same [] i x g = cc
set_same (y ∷ ys) zero x g = ap (λ z. z ∷ ys) (sym (some_same y x g))
set_same (y ∷ ys) (suc i) x g = ap (λ zs. y ∷ zs) (set_same ys i x g)

set_twice : {X : Type 0} (xs : List X) (i : ℕ) (y z : X) → slice_set (slice_set xs i y) i z ≡ slice_set xs i z
set_twice [] i y z = refl
set_twice (x ∷ xs) zero y z = refl
set_twice (x ∷ xs) (suc i) y z = ap (λ l. x ∷ l) (set_twice xs i y z)

got_set : {X : Type 0} (xs : List X) (i : ℕ) (x y z : X) → slice_get xs i ≡ Some x → slice_get (slice_set xs i y) i ≡ Some z → y ≡ z
got_set [] i x y z there got = cc
got_set (w ∷ ws) zero x y z there got = some_same y z got
got_set (w ∷ ws) (suc i) x y z there got = got_set ws i x y z there got

replaced_twice : {T : Type 0} (i : ℕ) (old mid new : List (Entry T)) (was out again y : T) (a : IsReplacedAt i old mid was out) → IsReplacedAt i mid new again y → new ≡ slice_set old i (record a.entry { value = y })
replaced_twice i old mid new was out again y a b =
    b.now ∙ ap (λ (l : List (Entry _)). slice_set l i (record b.entry { value = y })) a.now
    ∙ set_twice old i _ _
    ∙ ap (λ (e : Entry _). slice_set old i (record e { value = y })) (sym (got_set old i a.entry _ b.entry a.there (ap (λ l. slice_get l i) (sym a.now) ∙ b.there)))

pub changed_and_put : {T : Type 0} (f : Pid → T → T) (i : ℕ) (old mid new : List (Entry T)) (was out again y : T) (a : IsReplacedAt i old mid was out) → IsReplacedAt i mid new again y → y ≡ f a.entry.pid was → IsChangedAt f i old new
changed_and_put f i old mid new was out again y a b is = record {
  entry = a.entry;
  there = a.there;
  now = replaced_twice i old mid new was out again y a b ∙ ap (λ v. slice_set old i (record a.entry { value = v })) (is ∙ ap (f a.entry.pid) (sym a.had));
}

-- or unchanged
pub put_unchanged : {T : Type 0} (i : ℕ) (old mid new : List (Entry T)) (was out again y : T) (a : IsReplacedAt i old mid was out) → IsReplacedAt i mid new again y → y ≡ was → new ≡ old
put_unchanged i old mid new was out again y a b is =
    replaced_twice i old mid new was out again y a b ∙ ap (λ v. slice_set old i (record a.entry { value = v })) (is ∙ sym a.had) ∙ set_same old i a.entry a.there

-- ---- one entry more
more : {T : Type 0} (f : Pid → T → T) (es : List (Entry T)) (i : ℕ) (e : Entry T) → slice_get (partly f i es) i ≡ Some e → slice_set (partly f i es) i (record e { value = f e.pid e.value }) ≡ partly f (suc i) es
more f [] zero e there = cc
more f [] (suc i) e there = cc
more f (x ∷ es) zero e there = let same : e ≡ x = sym (some_same x e there) in ap (λ (y : Entry _). (record { pid = y.pid; value = f y.pid y.value }) ∷ es) same
more f (x ∷ es) (suc i) e there = ap (λ l. (record { pid = x.pid; value = f x.pid x.value }) ∷ l) (more f es i e there)

pub changed_more : {T : Type 0} (f : Pid → T → T) (es now next : List (Entry T)) (i : ℕ) → now ≡ partly f i es → IsChangedAt f i now next → next ≡ partly f (i + 1) es
changed_more f es now next i is step =
    step.now ∙ ap (λ (l : List (Entry _)). slice_set l i (record step.entry { value = f step.entry.pid step.entry.value })) is
    ∙ more f es i step.entry (ap (λ l. slice_get l i) (sym is) ∙ step.there)
    ∙ ap (λ (n : ℕ). partly f n es) (sym (add-one i))

-- the next entry has not changed yet
pub got_next : {T : Type 0} (f : Pid → T → T) (es : List (Entry T)) (i : ℕ) (e : Entry T) → slice_get (partly f i es) i ≡ Some e → slice_get es i ≡ Some e
got_next f [] zero e there = there
got_next f [] (suc i) e there = there
got_next f (x ∷ es) zero e there = there
got_next f (x ∷ es) (suc i) e there = got_next f es i e there

-- ---- what was changed is changed back
pub changed_back : {T : Type 0} (f g : Pid → T → T) → ((q : Pid) (x : T) → g q (f q x) ≡ x) → (n : ℕ) (es : List (Entry T)) → partly g n (partly f n es) ≡ es
changed_back f g back zero [] = refl
changed_back f g back (suc n) [] = refl
changed_back f g back zero (x ∷ es) = refl
changed_back f g back (suc n) (x ∷ es) = ap (λ v. (record x { value = v }) ∷ partly g n (partly f n es)) (back x.pid x.value) ∙ ap (λ l. x ∷ l) (changed_back f g back n es)
