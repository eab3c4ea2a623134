-- a value in the place of another
use Rattle.std.proofs.Common.{◌≡◌, ℕ, Bool, true, false, if◌then◌else◌, List, length, get_or, refl, sym, ap, ◌∙◌, subst, Some, slice_set, insert}
use Rattle.std.proofs.lemmas.Option.{get_or_from_slice_get, slice_get_read}
use Rattle.unix_names.specs.declared.Pid.{Pid}
use Rattle.ordered_table.specs.declared.entries.Entry.{Entry}
use Rattle.ordered_table.specs.Entries.{value_at, with_value, IsRising, IsReplacedAt}
use Rattle.ordered_table.specs.MethodPlaces.{IsFoundAt, IsVacantAt}
use Rattle.ordered_table.proofs.MapLaws.{IsRising-put}

-- the value that stood there was the id's
pub replaced-before : {T : Type 0} (es new : List (Entry T)) (p : Pid) (i : ℕ) (was v : T) → IsFoundAt es p i → IsReplacedAt i es new was v → value_at es p ≡ Some was
replaced-before es new p i was v f r =
    f.value r.entry ∙ ap (λ (e : Entry _). Some e.value) (get_or_from_slice_get es i r.entry r.entry r.there) ∙ ap Some r.had

-- the other one is the id's now
pub replaced-after : {T : Type 0} (es new : List (Entry T)) (p : Pid) (i : ℕ) (was v : T) → IsFoundAt es p i → IsReplacedAt i es new was v → new ≡ with_value es p v
replaced-after es new p i was v f r =
    r.now ∙ ap (λ (q : Pid). slice_set es i (record { pid = q; value = v })) (f.id r.entry r.there) ∙ f.replaced v

-- the value that stands at the id's place
pub lent-before : {T : Type 0} (es : List (Entry T)) (p : Pid) (i : ℕ) (e : Entry T) → IsFoundAt es p i → e ≡ get_or es i e → value_at es p ≡ Some e.value
lent-before es p i e f here = f.value e ∙ ap (λ (x : Entry _). Some x.value) (sym here)

-- what is written there is the id's value
pub lent-after : {T : Type 0} (es : List (Entry T)) (p : Pid) (i : ℕ) (e : Entry T) (v : T) → IsFoundAt es p i → e ≡ get_or es i e → slice_set es i (record { pid = e.pid; value = v }) ≡ with_value es p v
lent-after es p i e v f here =
    ap (λ (q : Pid). slice_set es i (record { pid = q; value = v })) (f.id e (slice_get_read es (length es) i e refl f.within here)) ∙ f.replaced v

-- the ids still rise once an entry was put in its vacant place, or found no memory
pub inserted-rises : {T : Type 0} (b : Bool) (es new : List (Entry T)) (p : Pid) (i : ℕ) (v : T) → IsVacantAt es p i → new ≡ (if b then insert es i (record { pid = p; value = v }) else es) → IsRising es → IsRising new
inserted-rises true es new p i v f e r = subst IsRising (sym (e ∙ f.inserted v)) (IsRising-put es p v r)
inserted-rises false es new p i v f e r = subst IsRising (sym e) r
