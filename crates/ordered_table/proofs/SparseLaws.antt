-- the entries that have a value, as a map from ids to values
use Rattle.std.proofs.Common.{is_some, ◌≡◌, ◌==◌, ◌<◌, Bool, true, false, nat_lt, List, [], ◌∷◌, sym, ap, ◌∙◌, refl, arith, Some, None, if◌then◌else◌, Option}
use Rattle.std.specs.Option.{option_flatten}
use Rattle.std.proofs.lemmas.Bool.{le-ltb, ltb-false, eqb-true, ne_eqb}
use Rattle.unix_names.specs.declared.Pid.{Pid}
use Rattle.ordered_table.specs.declared.entries.Entry.{Entry}
use Rattle.ordered_table.specs.Entries.{value_at, has_value, with_value, without, AllAbove, IsRising}
use Rattle.ordered_table.specs.Sparse.{present, with_present}
use Rattle.ordered_table.proofs.MapLaws.{none-below, AllAbove-lesser, IsRising-put}

-- a value put in front
abbrev entry : {T : Type 0} → Pid → T → Entry T
entry p v = record { pid = p; value = v }

AllAbove-present-by : {T : Type 0} (p q : Pid) (o : Option T) (es : List (Entry T)) → p.0 < q.0 → AllAbove p es → AllAbove p (with_present q o es)
AllAbove-present-by p q None es lt a = a
AllAbove-present-by p q (Some v) es lt a = (lt, a)

-- an id below all the entries is below those that have a value
pub AllAbove-present : {T : Type 0} (p : Pid) (es : List (Entry (Option T))) → AllAbove p es → AllAbove p (present es)
AllAbove-present p [] a = tt
AllAbove-present p (e ∷ es) a = AllAbove-present-by p e.pid e.value (present es) a.0 (AllAbove-present p es a.1)

-- a value whose id is below them all goes in front
with_value-below : {T : Type 0} (es : List (Entry T)) (p : Pid) (v : T) → AllAbove p es → with_value es p v ≡ entry p v ∷ es
with_value-below [] p v a = refl
with_value-below (e ∷ es) p v a = let lt = a.0 in rw (le-ltb e.pid.0 p.0 (omega arith), ne_eqb e.pid.0 p.0 (λ s. omega arith)) refl

without-none-by : {T : Type 0} (e : Entry T) (es : List (Entry T)) (p : Pid) (b c : Bool) → (if b then value_at es p else (if c then Some e.value else None)) ≡ None → (value_at es p ≡ None → without es p ≡ es) →
    (if b then e ∷ without es p else (if c then es else e ∷ es)) ≡ e ∷ es
without-none-by e es p true c none rest = ap (λ zs. e ∷ zs) (rest none)
without-none-by e es p false true none rest = cc
without-none-by e es p false false none rest = refl

-- where an id has no value there is none to take out
pub without-none : {T : Type 0} (es : List (Entry T)) (p : Pid) → value_at es p ≡ None → without es p ≡ es
without-none [] p none = refl
without-none (e ∷ es) p none = without-none-by e es p (nat_lt e.pid.0 p.0) (e.pid.0 == p.0) none (without-none es p)

value_at-present-by : {T : Type 0} (q : Pid) (o : Option T) (es : List (Entry T)) (p : Pid) (was : Option (Option T)) (b c : Bool) → nat_lt q.0 p.0 ≡ b → (q.0 == p.0) ≡ c → AllAbove q es → value_at es p ≡ option_flatten was →
    value_at (with_present q o es) p ≡ option_flatten (if b then was else (if c then Some o else None))
value_at-present-by q None es p was true c less same a rest = rest
value_at-present-by q None es p was false true less same a rest = let ge = ltb-false q.0 p.0 less in none-below es p q a (omega arith)
value_at-present-by q None es p was false false less same a rest = let ge = ltb-false q.0 p.0 less in none-below es p q a (omega arith)
value_at-present-by q (Some v) es p was true c less same a rest = rw less rest
value_at-present-by q (Some v) es p was false true less same a rest = rw (less, same) refl
value_at-present-by q (Some v) es p was false false less same a rest = rw (less, same) refl

-- an id has the value that its entry has
pub value_at-present : {T : Type 0} (es : List (Entry (Option T))) (p : Pid) → IsRising es → value_at (present es) p ≡ option_flatten (value_at es p)
value_at-present [] p r = refl
value_at-present (e ∷ es) p r = value_at-present-by e.pid e.value (present es) p (value_at es p) (nat_lt e.pid.0 p.0) (e.pid.0 == p.0) refl refl (AllAbove-present e.pid es r.0) (value_at-present es p r.1)

present-put-by : {T : Type 0} (q : Pid) (o : Option T) (es : List (Entry T)) (p : Pid) (v : T) (b c : Bool) → nat_lt q.0 p.0 ≡ b → (q.0 == p.0) ≡ c → AllAbove q es →
    (if b then with_present q o (with_value es p v) else (if c then entry p v ∷ es else entry p v ∷ with_present q o es)) ≡ with_value (with_present q o es) p v
present-put-by q None es p v true c less same a = refl
present-put-by q None es p v false true less same a = let s = eqb-true q.0 p.0 same in sym (with_value-below es p v (AllAbove-lesser es q p (omega arith) a))
present-put-by q None es p v false false less same a = let ge = ltb-false q.0 p.0 less in sym (with_value-below es p v (AllAbove-lesser es q p (omega arith) a))
present-put-by q (Some w) es p v true c less same a = rw less refl
present-put-by q (Some w) es p v false true less same a = rw (less, same) refl
present-put-by q (Some w) es p v false false less same a = rw (less, same) refl

present-put-in : {T : Type 0} (e : Entry (Option T)) (es : List (Entry (Option T))) (p : Pid) (v : T) (b c : Bool) →
    present (if b then e ∷ with_value es p (Some v) else (if c then entry p (Some v) ∷ es else entry p (Some v) ∷ e ∷ es))
    ≡ (if b then with_present e.pid e.value (present (with_value es p (Some v))) else (if c then entry p v ∷ present es else entry p v ∷ with_present e.pid e.value (present es)))
present-put-in e es p v true c = refl
present-put-in e es p v false true = refl
present-put-in e es p v false false = refl

-- the entries that have a value once an id has this one
pub present-put : {T : Type 0} (es : List (Entry (Option T))) (p : Pid) (v : T) → IsRising es → present (with_value es p (Some v)) ≡ with_value (present es) p v
present-put [] p v r = refl
present-put (e ∷ es) p v r =
    present-put-in e es p v (nat_lt e.pid.0 p.0) (e.pid.0 == p.0)
    ∙ (ap (λ zs. if nat_lt e.pid.0 p.0 then with_present e.pid e.value zs else (if e.pid.0 == p.0 then entry p v ∷ present es else entry p v ∷ with_present e.pid e.value (present es))) (present-put es p v r.1)
    ∙ present-put-by e.pid e.value (present es) p v (nat_lt e.pid.0 p.0) (e.pid.0 == p.0) refl refl (AllAbove-present e.pid es r.0))

present-empty-by : {T : Type 0} (e : Entry (Option T)) (es : List (Entry (Option T))) (o : Option T) (p : Pid) (b c : Bool) → e.value ≡ o → nat_lt e.pid.0 p.0 ≡ b → (e.pid.0 == p.0) ≡ c → AllAbove e.pid (present es) →
    is_some (if b then value_at es p else (if c then Some e.value else None)) ≡ true → (has_value es p ≡ true → present (with_value es p None) ≡ without (present es) p) →
    present (if b then e ∷ with_value es p None else (if c then entry p None ∷ es else entry p None ∷ e ∷ es)) ≡ without (with_present e.pid o (present es)) p
present-empty-by e es None p true c is less same a has rest = rw is (rest has)
present-empty-by e es None p false true is less same a has rest = let s = eqb-true e.pid.0 p.0 same in sym (without-none (present es) p (none-below (present es) p e.pid a (omega arith)))
present-empty-by e es None p false false is less same a has rest = cc
present-empty-by e es (Some v) p true c is less same a has rest = rw (is, less) (ap (λ zs. entry e.pid v ∷ zs) (rest has))
present-empty-by e es (Some v) p false true is less same a has rest = rw (less, same) refl
present-empty-by e es (Some v) p false false is less same a has rest = cc

-- an entry without a value is none of those that have one
pub present-empty : {T : Type 0} (es : List (Entry (Option T))) (p : Pid) → IsRising es → has_value es p ≡ true → present (with_value es p None) ≡ without (present es) p
present-empty [] p r has = cc
present-empty (e ∷ es) p r has = present-empty-by e es e.value p (nat_lt e.pid.0 p.0) (e.pid.0 == p.0) refl refl refl (AllAbove-present e.pid es r.0) has (present-empty es p r.1)

-- an id that has a value has an entry
pub has_value-present : {T : Type 0} (es : List (Entry (Option T))) (p : Pid) → IsRising es → has_value (present es) p ≡ true → has_value es p ≡ true
has_value-present es p r has = has_value-flatten (value_at es p) (ap is_some (sym (value_at-present es p r)) ∙ has)
  where
    has_value-flatten : {T : Type 0} (o : Option (Option T)) → is_some (option_flatten o) ≡ true → is_some o ≡ true
    has_value-flatten None has = cc
    has_value-flatten (Some o) has = refl

-- what looks through the empty entries
pub ruleset present_laws = (value_at-present, has_value-present, present-put, without-none, IsRising-put)
