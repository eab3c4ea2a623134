-- method: where an id stands among the entries
use Rattle.std.specs.Prelude.{ℕ, ◌≡◌, ◌<◌, ◌≤◌, List, length, slice_get, slice_index_or, slice_set, insert, remove, Some, None}
use Rattle.unix_names.specs.declared.Pid.{Pid}
use Rattle.ordered_table.specs.declared.entries.Entry.{Entry}
use Rattle.ordered_table.specs.Rising.{place_by}
use Rattle.ordered_table.specs.Entries.{value_at, with_value, without}

-- how many of the first entries have a lesser id
abbrev pub place : {T : Type 0} → List (Entry T) → Pid → ℕ
place {T} es p = place_by (λ (e : Entry T). e.pid.0) es p.0

-- the id's entry is the one at i
pub record IsFoundAt {T : Type 0} (es : List (Entry T)) (p : Pid) (i : ℕ) : Type 0 where
  pub within : i < length es
  pub id : (e : Entry T) → slice_get es i ≡ Some e → e.pid ≡ p
  pub value : (d : Entry T) → value_at es p ≡ Some (slice_index_or es i d).value
  pub replaced : (v : T) → slice_set es i (record { pid = p; value = v }) ≡ with_value es p v
  pub removed : remove es i ≡ without es p

-- the id has no entry, and its place would be i
pub record IsVacantAt {T : Type 0} (es : List (Entry T)) (p : Pid) (i : ℕ) : Type 0 where
  pub within : i ≤ length es
  pub none : value_at es p ≡ None
  pub inserted : (v : T) → insert es i (record { pid = p; value = v }) ≡ with_value es p v
  pub removed : without es p ≡ es
