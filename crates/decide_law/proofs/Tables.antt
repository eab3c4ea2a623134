-- lemmas for ordered_table: a put in the place of a value, and a value that was lent, are changes under one id
use Rattle.std.proofs.Common.{◌≡◌, ◌==◌, ℕ, Bool, true, false, nat_lt, cond, Option, IsSome, List, [], ◌∷◌, refl, sym, ap, ◌∙◌, arith, None, Some, if◌then◌else◌}
use Rattle.std.specs.Prelude.{is_some}
use Rattle.std.specs.Option.{option_map}
use Rattle.std.proofs.lemmas.Bool.{eqb-true, ltb-true, ne_eqb}
use Rattle.list_laws.proofs.Filters.{some_same}
use Rattle.unix_names.specs.declared.Pid.{Pid}
use Rattle.ordered_table.specs.declared.Entry.{Entry}
use Rattle.ordered_table.specs.Entries.{value_at, with_value, with_each, AllAbove, IsRising}
use Rattle.record_bag.specs.Bags.{present}
use Rattle.record_bag.proofs.BagLaws.{put-what_is_there}
use Rattle.ordered_table.proofs.MapLaws.{with_value_again}
use Rattle.decide_law.specs.Effects.{only}

-- nothing changes above the id
above_same : {T : Type 0} (p : Pid) (f : T → T) (es : List (Entry T)) → AllAbove p es → with_each (only p f) es ≡ es
above_same p f [] a = refl
above_same p f (e ∷ es) a =
    let above = a.0 in
    let ne : (e.pid.0 == p.0) ≡ false = ne_eqb _ _ (λ h. omega arith) in
    ap (λ (b : Bool). (record { pid = e.pid; value = cond b (f e.value) e.value }) ∷ with_each (only p f) es) ne ∙ ap (λ l. e ∷ l) (above_same p f es a.1)

step : {T : Type 0} (p : Pid) (f : T → T) (e : Entry T) (es : List (Entry T)) (x : T) (b c : Bool) → nat_lt e.pid.0 p.0 ≡ b → (e.pid.0 == p.0) ≡ c → AllAbove e.pid es → (if b then value_at es p else (if c then Some e.value else None)) ≡ Some x →
    (value_at es p ≡ Some x → with_value es p (f x) ≡ with_each (only p f) es) →
    (if b then e ∷ with_value es p (f x) else (if c then (record { pid = p; value = f x }) ∷ es else (record { pid = p; value = f x }) ∷ e ∷ es)) ≡ (record { pid = e.pid; value = cond c (f e.value) e.value }) ∷ with_each (only p f) es
step p f e es x true true less same above v ih = let lt = ltb-true _ _ less in let eq = eqb-true _ _ same in absurd (omega arith)
step p f e es x true false less same above v ih = ap (λ l. e ∷ l) (ih v)
step p f e es x false true less same above v ih =
    let one : p ≡ e.pid = ap (λ (n : ℕ). record { 0 = n }) (sym (eqb-true _ _ same)) in
    ap (λ (q : Pid). (record { pid = q; value = f x }) ∷ es) one ∙ ap (λ y. (record { pid = e.pid; value = f y }) ∷ es) (sym (some_same _ _ v))
    ∙ ap (λ l. (record { pid = e.pid; value = f e.value }) ∷ l) (sym (ap (λ (q : Pid). with_each (only q f) es) one ∙ above_same e.pid f es above))
step p f e es x false false less same above v ih = cc

pub put_is_each : {T : Type 0} (p : Pid) (f : T → T) (es : List (Entry T)) (x : T) → IsRising es → value_at es p ≡ Some x → with_value es p (f x) ≡ with_each (only p f) es
put_is_each p f [] x r v = cc
put_is_each p f (e ∷ es) x r v = step p f e es x (nat_lt e.pid.0 p.0) (e.pid.0 == p.0) refl refl r.0 v (λ h. put_is_each p f es x r.1 h)

-- a record that was lent and is changed
there : {T : Type 0} (o : Option (Option T)) (x : T) → present o ≡ Some x → o ≡ Some (Some x)
there None x e = cc
there (Some o) x e = ap Some e

absent : {T : Type 0} (o : Option (Option T)) → is_some o ≡ true → present o ≡ None → o ≡ Some None
absent None h e = cc
absent (Some o) h e = ap Some e

pub lent : {T : Type 0} (p : Pid) (f : T → T) (es : List (Entry (Option T))) (x y : T) → IsRising es → Some x ≡ present (value_at es p) → y ≡ f x → with_value es p (Some y) ≡ with_each (only p (option_map f)) es
lent p f es x y r v is = ap (λ z. with_value es p (Some z)) is ∙ put_is_each p (option_map f) es (Some x) r (there _ x (sym v))

-- a record that was lent and stays
pub lent_same : {T : Type 0} (p : Pid) (es : List (Entry (Option T))) (x y : T) → Some x ≡ present (value_at es p) → y ≡ x → with_value es p (Some y) ≡ es
lent_same p es x y v is = ap (λ z. with_value es p (Some z)) is ∙ put-what_is_there es p (Some x) (there _ x (sym v))

-- none was lent, since the id is held as absent
pub not_lent : {T : Type 0} (p : Pid) (f : T → T) (es : List (Entry (Option T))) → IsRising es → IsSome (value_at es p) → None ≡ present (value_at es p) → es ≡ with_each (only p (option_map f)) es
not_lent p f es r held none = let at = absent _ held (sym none) in sym (put-what_is_there es p None at) ∙ put_is_each p (option_map f) es None r at

-- after another value was there for a while
pub put_back : {T : Type 0} (p : Pid) (f : T → T) (es : List (Entry T)) (x y : T) → IsRising es → value_at es p ≡ Some x → with_value (with_value es p y) p (f x) ≡ with_each (only p f) es
put_back p f es x y r v = with_value_again es p y (f x) ∙ put_is_each p f es x r v

-- a value that was replaced, at once or after it was out
pub replaced : {T : Type 0} (p : Pid) (f : T → T) (es new : List (Entry T)) (x : T) → IsRising es → value_at es p ≡ Some x → new ≡ with_value es p (f x) → new ≡ with_each (only p f) es
replaced p f es new x r v e = e ∙ put_is_each p f es x r v

pub taken_and_put : {T : Type 0} (p : Pid) (f : T → T) (es mid new : List (Entry T)) (x y : T) → IsRising es → value_at es p ≡ Some x → mid ≡ with_value es p y → new ≡ with_value mid p (f x) → new ≡ with_each (only p f) es
taken_and_put p f es mid new x y r v out back = back ∙ ap (λ l. with_value l p (f x)) out ∙ put_back p f es x y r v
