-- a bag as a map from names
use Rattle.std.proofs.Common.{◌≡◌, ◌≢◌, ◌==◌, nat_lt, if◌then◌else◌, ℕ, Bool, true, false, List, [], ◌∷◌, ◌++◌, map, sym, ap, ◌∙◌, refl, Some, None, Result, Ok, Err, OnOk}
use Rattle.std.specs.Option.{option_map}
use Rattle.unix_names.specs.declared.Pid.{Pid}
use Rattle.unix_names.specs.declared.Name.{Name}
use Rattle.unix_names.specs.declared.Name.TheVariants as name
use Rattle.std.proofs.lemmas.Bool.{eqb-true}
use Rattle.ordered_table.specs.declared.Entry.{Entry}
use Rattle.ordered_table.specs.Entries.{value_at, with_value, pids_of}
use Rattle.ordered_table.proofs.MapLaws.{put-same, put-other, pids-put, has_value-pids}
use Rattle.record_bag.specs.declared.held.Held.{Held}
use Rattle.record_bag.specs.declared.held.Held.TheVariants as held
use Rattle.record_bag.specs.declared.bag.Bag.{Bag}
use Rattle.record_bag.specs.Kinds.{of_kind, vproc_of, group_of}
use Rattle.record_bag.specs.Bags.{is_held, held_at, with_held, held_names}

-- what was put is held
pub held_at-put : (bag : Bag) (n : Name) (h : Held) → held_at (with_held bag n h) n ≡ Some (of_kind n h)
held_at-put bag (name.V p) h = ap (option_map held.V) (put-same bag.vprocs p (vproc_of h))
held_at-put bag (name.G g) h = ap (option_map held.G) (put-same bag.groups g (group_of h))

abbrev pid : ℕ → Pid
pid n = record { 0 = n }

-- under the other names the same is held
pub held_at-put_other : (bag : Bag) (n m : Name) (h : Held) → m ≢ n → held_at (with_held bag n h) m ≡ held_at bag m
held_at-put_other bag (name.V p) (name.V q) h ne = ap (option_map held.V) (put-other bag.vprocs p q (vproc_of h) (λ e. ne (ap (λ k. name.V (pid k)) e)))
held_at-put_other bag (name.V p) (name.G q) h ne = refl
held_at-put_other bag (name.G p) (name.V q) h ne = refl
held_at-put_other bag (name.G p) (name.G q) h ne = ap (option_map held.G) (put-other bag.groups p q (group_of h) (λ e. ne (ap (λ k. name.G (pid k)) e)))

-- another record under a name that is held leaves the names
pub held_names-put : (bag : Bag) (n : Name) (h : Held) → is_held bag n ≡ true → held_names (with_held bag n h) ≡ held_names bag
held_names-put bag (name.V p) h has = ap (λ ps. map name.V ps ++ map name.G (pids_of bag.groups)) (pids-put bag.vprocs p (vproc_of h) has)
held_names-put bag (name.G g) h has = ap (λ ps. map name.V (pids_of bag.vprocs) ++ map name.G ps) (pids-put bag.groups g (group_of h) has)

-- after a put that may find no memory
pub held_at-after_put : {A B : Type 0} (r : Result A B) (old new : Bag) (n : Name) (h : Held) → OnOk r (new ≡ with_held old n h) → OnOk r (held_at new n ≡ Some (of_kind n h))
held_at-after_put (Ok a) old new n h ok = ap (λ b. held_at b n) ok ∙ held_at-put old n h
held_at-after_put (Err b) old new n h ok = tt

-- the processes among names, and the groups
abbrev vprocs_in : List Name → List Pid
vprocs_in [] = []
vprocs_in (name.V p ∷ ns) = p ∷ vprocs_in ns
vprocs_in (name.G g ∷ ns) = vprocs_in ns

abbrev groups_in : List Name → List Pid
groups_in [] = []
groups_in (name.V p ∷ ns) = groups_in ns
groups_in (name.G g ∷ ns) = g ∷ groups_in ns

vprocs-names : (ps gs : List Pid) → vprocs_in (map name.V ps ++ map name.G gs) ≡ ps
vprocs-names [] [] = refl
vprocs-names [] (g ∷ gs) = vprocs-names [] gs
vprocs-names (p ∷ ps) gs = ap (λ xs. p ∷ xs) (vprocs-names ps gs)

groups-names : (ps gs : List Pid) → groups_in (map name.V ps ++ map name.G gs) ≡ gs
groups-names [] [] = refl
groups-names [] (g ∷ gs) = ap (λ xs. g ∷ xs) (groups-names [] gs)
groups-names (p ∷ ps) gs = groups-names ps gs

-- the names alone tell what is held
pub is_held-names : (a b : Bag) (n : Name) → held_names a ≡ held_names b → is_held a n ≡ is_held b n
is_held-names a b (name.V p) same =
    has_value-pids a.vprocs b.vprocs p (sym (vprocs-names (pids_of a.vprocs) (pids_of a.groups)) ∙ (ap vprocs_in same ∙ vprocs-names (pids_of b.vprocs) (pids_of b.groups)))
is_held-names a b (name.G g) same =
    has_value-pids a.groups b.groups g (sym (groups-names (pids_of a.vprocs) (pids_of a.groups)) ∙ (ap groups_in same ∙ groups-names (pids_of b.vprocs) (pids_of b.groups)))

there_by : {T : Type 0} (e : Entry T) (es : List (Entry T)) (p : Pid) (v : T) (b c : Bool) → (e.pid.0 == p.0) ≡ c → (if b then value_at es p else (if c then Some e.value else None)) ≡ Some v → (value_at es p ≡ Some v → with_value es p v ≡ es) →
    (if b then e ∷ with_value es p v else (if c then (record { pid = p; value = v }) ∷ es else (record { pid = p; value = v }) ∷ e ∷ es)) ≡ e ∷ es
there_by e es p v true c same there rest = ap (λ l. e ∷ l) (rest there)
there_by e es p v false true same there rest =
    let one : p ≡ e.pid = ap (λ (n : ℕ). record { 0 = n }) (sym (eqb-true e.pid.0 p.0 same)) in
    let kept : v ≡ e.value = cc in
    ap (λ (q : Pid). (record { pid = q; value = v }) ∷ es) one ∙ ap (λ x. (record { pid = e.pid; value = x }) ∷ es) kept
there_by e es p v false false same there rest = cc

-- the value that an id has, put there again
pub put-what_is_there : {T : Type 0} (es : List (Entry T)) (p : Pid) (v : T) → value_at es p ≡ Some v → with_value es p v ≡ es
put-what_is_there [] p v there = cc
put-what_is_there (e ∷ es) p v there = there_by e es p v (nat_lt e.pid.0 p.0) (e.pid.0 == p.0) refl there (put-what_is_there es p v)
