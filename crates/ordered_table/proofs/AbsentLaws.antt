-- entries, whatever their order: a value that is not there, and what holds of some id once one was put
use Rattle.std.proofs.Common.{◌≡◌, ◌==◌, ◌||◌, ◌⊎◌, inl, inr, Bool, true, false, nat_lt, List, [], ◌∷◌, ap, refl, Some, None, if◌then◌else◌}
use Rattle.std.specs.List.{list_any}
use Rattle.unix_names.specs.declared.Pid.{Pid}
use Rattle.ordered_table.specs.declared.entries.Entry.{Entry}
use Rattle.ordered_table.specs.Entries.{value_at, with_value, without, pids_of}

without-absent-by : {T : Type 0} (e : Entry T) (es : List (Entry T)) (p : Pid) (b c : Bool) → (if b then value_at es p else (if c then Some e.value else None)) ≡ None → (value_at es p ≡ None → without es p ≡ es) →
    (if b then e ∷ without es p else (if c then es else e ∷ es)) ≡ e ∷ es
without-absent-by e es p true c none rest = ap (λ xs. e ∷ xs) (rest none)
without-absent-by e es p false true none rest = absurd (cc none)
without-absent-by e es p false false none rest = refl

-- without a value that is not there nothing changes
pub without-absent : {T : Type 0} (es : List (Entry T)) (p : Pid) → value_at es p ≡ None → without es p ≡ es
without-absent [] p none = refl
without-absent (e ∷ es) p none = without-absent-by e es p (nat_lt e.pid.0 p.0) (e.pid.0 == p.0) none (without-absent es p)

or_cases : (a b : Bool) → (a || b) ≡ true → (a ≡ true) ⊎ (b ≡ true)
or_cases true b h = inl refl
or_cases false b h = inr h

or_left : (a b : Bool) → a ≡ true → (a || b) ≡ true
or_left true b h = refl
or_left false b h = cc

or_right : (a b : Bool) → b ≡ true → (a || b) ≡ true
or_right true b h = refl
or_right false b h = h

any-put-by : {T : Type 0} (f : Pid → Bool) (e : Entry T) (es : List (Entry T)) (p : Pid) (v : T) (b c : Bool) → (list_any f (pids_of (with_value es p v)) ≡ true → (list_any f (pids_of es) ≡ true) ⊎ (f p ≡ true)) →
    list_any f (pids_of (if b then e ∷ with_value es p v else (if c then (record { pid = p; value = v }) ∷ es else (record { pid = p; value = v }) ∷ e ∷ es))) ≡ true → ((f e.pid || list_any f (pids_of es)) ≡ true) ⊎ (f p ≡ true)
any-put-by f e es p v true c rest h = elim (or_cases (f e.pid) (list_any f (pids_of (with_value es p v))) h) [
  | inl a ↦ inl (or_left (f e.pid) (list_any f (pids_of es)) a)
  | inr r ↦ elim (rest r) [ inl i ↦ inl (or_right (f e.pid) (list_any f (pids_of es)) i) | inr j ↦ inr j ]
]
any-put-by f e es p v false true rest h = elim (or_cases (f p) (list_any f (pids_of es)) h) [ inl a ↦ inr a | inr r ↦ inl (or_right (f e.pid) (list_any f (pids_of es)) r) ]
any-put-by f e es p v false false rest h = elim (or_cases (f p) (f e.pid || list_any f (pids_of es)) h) [ inl a ↦ inr a | inr r ↦ inl r ]

-- what holds of some id after a put, held of one before or holds of the id that was put
pub any-put : {T : Type 0} (f : Pid → Bool) (es : List (Entry T)) (p : Pid) (v : T) → list_any f (pids_of (with_value es p v)) ≡ true → (list_any f (pids_of es) ≡ true) ⊎ (f p ≡ true)
any-put f [] p v h = elim (or_cases (f p) false h) [ inl a ↦ inr a | inr r ↦ inl r ]
any-put f (e ∷ es) p v h = any-put-by f e es p v (nat_lt e.pid.0 p.0) (e.pid.0 == p.0) (any-put f es p v) h

pub ruleset absent_laws = (without-absent)
