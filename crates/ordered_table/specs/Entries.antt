-- values by process id
use Rattle.std.specs.Prelude.{◌≡◌, ◌≢◌, ℕ, slice_get, slice_set, ◌≤◌, ◌==◌, nat_lt, is_some, Bool, List, [], ◌∷◌, map, Option, Some, None, if◌then◌else◌}
use Rattle.unix_names.specs.declared.Pid.{Pid}
use Rattle.ordered_table.specs.declared.entries.Entry.{Entry}
use Rattle.ordered_table.specs.Rising.{AllAboveBy, IsRisingBy}

-- the value of an id, if it has one; the search ends at a greater id
abbrev pub value_at : {T : Type 0} → List (Entry T) → Pid → Option T
value_at [] p = None
value_at (e ∷ es) p = if nat_lt e.pid.0 p.0 then value_at es p else (if e.pid.0 == p.0 then Some e.value else None)

-- the entries once an id has this value
abbrev pub with_value : {T : Type 0} → List (Entry T) → Pid → T → List (Entry T)
with_value [] p v = (record { pid = p; value = v }) ∷ []
with_value (e ∷ es) p v =
    if nat_lt e.pid.0 p.0 then e ∷ with_value es p v
    else (if e.pid.0 == p.0 then (record { pid = p; value = v }) ∷ es else (record { pid = p; value = v }) ∷ e ∷ es)

-- the entries once an id has no value
abbrev pub without : {T : Type 0} → List (Entry T) → Pid → List (Entry T)
without [] p = []
without (e ∷ es) p = if nat_lt e.pid.0 p.0 then e ∷ without es p else (if e.pid.0 == p.0 then es else e ∷ es)

-- the entries once every value has changed by f
abbrev pub with_each : {A B : Type 0} → (Pid → A → B) → List (Entry A) → List (Entry B)
with_each f es = map (λ e. record { pid = e.pid; value = f e.pid e.value }) es

-- whether an id has a value
abbrev pub has_value : {T : Type 0} → List (Entry T) → Pid → Bool
has_value es p = is_some (value_at es p)

-- the ids that have a value, in order
abbrev pub pids_of : {T : Type 0} → List (Entry T) → List Pid
pids_of es = map (λ e. e.pid) es

-- every id is above p
abbrev pub AllAbove : {T : Type 0} → Pid → List (Entry T) → Type 0
AllAbove {T} p es = AllAboveBy (λ (e : Entry T). e.pid.0) p.0 es

-- no id is above p
abbrev pub AllUpTo : {T : Type 0} → Pid → List (Entry T) → Type 0
AllUpTo p [] = Unit {0}
AllUpTo p (e ∷ es) = (e.pid.0 ≤ p.0) × AllUpTo p es

-- the ids rise strictly
abbrev pub IsRising : {T : Type 0} → List (Entry T) → Type 0
IsRising {T} es = IsRisingBy (λ (e : Entry T). e.pid.0) es

-- every id but p has the same value before and after
abbrev pub SameElsewhere : {T : Type 0} → Pid → List (Entry T) → List (Entry T) → Type 0
SameElsewhere p old new = (q : Pid) → q.0 ≢ p.0 → value_at new q ≡ value_at old q

-- the entry at i had the value `was`, and has this one now
pub record IsReplacedAt {T : Type 0} (i : ℕ) (old new : List (Entry T)) (was value : T) : Type 0 where
  pub entry : Entry T
  pub there : slice_get old i ≡ Some entry
  pub had : entry.value ≡ was
  pub now : new ≡ slice_set old i (record entry { value = value })
