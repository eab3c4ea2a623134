-- the names that a bag holds, in order
use Rattle.std.proofs.Common.{◌≡◌, ◌<◌, ◌≤◌, ◌+◌, ℕ, zero, suc, List, [], ◌∷◌, ◌++◌, length, get_or, slice_get, map, sym, ap, ◌∙◌, subst, refl, arith, Some, None, Option}
use Rattle.std.specs.List.{last_or}
use Rattle.std.specs.Option.{option_map}
use Rattle.std.proofs.lemmas.Bool.{le-ltb, lt-ltb}
use Rattle.unix_names.specs.declared.Pid.{Pid}
use Rattle.unix_names.specs.declared.Name.{Name}
use Rattle.unix_names.specs.declared.Name.TheVariants.{V, G}
use Rattle.ordered_table.specs.declared.Entry.{Entry}
use Rattle.ordered_table.specs.Entries.{pids_of, AllAbove, AllUpTo, IsRising}
use Rattle.record_bag.specs.Names.{AllAfter, NoneAfter, AreRising}

-- the names of processes and then of groups
abbrev pub names_of : {A B : Type 0} → List (Entry A) → List (Entry B) → List Name
names_of vs gs = map V (pids_of vs) ++ map G (pids_of gs)

last-start : {X : Type 0} (o : Option X) (xs : List X) (x : X) → last_or None xs ≡ Some x → last_or o xs ≡ Some x
last-start o [] x e = cc
last-start o (y ∷ ys) x e = e

last-append : {X : Type 0} (o : Option X) (xs ys : List X) → last_or o (xs ++ ys) ≡ last_or (last_or o xs) ys
last-append o [] ys = refl
last-append o (x ∷ xs) ys = last-append (Some x) xs ys

last-map : {X Y : Type 0} (f : X → Y) (o : Option X) (xs : List X) → last_or (option_map f o) (map f xs) ≡ option_map f (last_or o xs)
last-map f o [] = refl
last-map f o (x ∷ xs) = last-map f (Some x) xs

last-is_some : {X : Type 0} (x : X) (xs : List X) → last_or (Some x) xs ≡ None → ⊥
last-is_some x [] e = cc
last-is_some x (y ∷ ys) e = last-is_some y ys e

none-last : {X : Type 0} (xs : List X) → last_or None xs ≡ None → xs ≡ []
none-last [] e = refl
none-last (x ∷ xs) e = absurd (last-is_some x xs e)

-- the last name is that of the greatest group
pub last-in_groups : {A B : Type 0} (vs : List (Entry A)) (gs : List (Entry B)) (g : Pid) → last_or None (pids_of gs) ≡ Some g → last_or None (names_of vs gs) ≡ Some (G g)
last-in_groups vs gs g e =
    last-append None (map V (pids_of vs)) (map G (pids_of gs)) ∙ last-start (last_or None (map V (pids_of vs))) (map G (pids_of gs)) (G g) (last-map G None (pids_of gs) ∙ ap (option_map G) e)

-- without groups it is that of the greatest process
pub last-in_vprocs : {A B : Type 0} (vs : List (Entry A)) (gs : List (Entry B)) → last_or None (pids_of gs) ≡ None → last_or None (names_of vs gs) ≡ option_map V (last_or None (pids_of vs))
last-in_vprocs vs gs e =
    last-append None (map V (pids_of vs)) (map G (pids_of gs)) ∙ (ap (λ ps. last_or (last_or None (map V (pids_of vs))) (map G ps)) (none-last (pids_of gs) e) ∙ last-map V None (pids_of vs))

none_after-groups : {B : Type 0} (g : Pid) (gs : List (Entry B)) → AllUpTo g gs → NoneAfter (G g) (map G (pids_of gs))
none_after-groups g [] up = tt
none_after-groups g (e ∷ es) up = (le-ltb g.0 e.pid.0 up.0, none_after-groups g es up.1)

-- no name comes after that of the greatest group
pub NoneAfter-group : {A B : Type 0} (g : Pid) (vs : List (Entry A)) (gs : List (Entry B)) → AllUpTo g gs → NoneAfter (G g) (names_of vs gs)
NoneAfter-group g [] gs up = none_after-groups g gs up
NoneAfter-group g (e ∷ es) gs up = (refl, NoneAfter-group g es gs up)

none_after-vprocs : {A : Type 0} (p : Pid) (vs : List (Entry A)) → AllUpTo p vs → NoneAfter (V p) (map V (pids_of vs) ++ [])
none_after-vprocs p [] up = tt
none_after-vprocs p (e ∷ es) up = (le-ltb p.0 e.pid.0 up.0, none_after-vprocs p es up.1)

-- without groups none comes after that of the greatest process
pub NoneAfter-vproc : {A B : Type 0} (p : Pid) (vs : List (Entry A)) (gs : List (Entry B)) → last_or None (pids_of gs) ≡ None → AllUpTo p vs → NoneAfter (V p) (names_of vs gs)
NoneAfter-vproc p vs gs none up = subst (λ ps. NoneAfter (V p) (map V (pids_of vs) ++ map G ps)) (sym (none-last (pids_of gs) none)) (none_after-vprocs p vs up)

-- a place among the processes
pub name-at_vproc : {A B : Type 0} (vs : List (Entry A)) (gs : List (Entry B)) (k : ℕ) (d : Entry A) → k < length vs → slice_get (names_of vs gs) k ≡ Some (V (get_or vs k d).pid)
name-at_vproc [] gs k d lt = absurd (omega arith)
name-at_vproc (e ∷ es) gs zero d lt = refl
name-at_vproc (e ∷ es) gs (suc k) d lt = name-at_vproc es gs k d (omega arith)

at_group : {B : Type 0} (gs : List (Entry B)) (k : ℕ) (d : Entry B) → k < length gs → slice_get (map G (pids_of gs)) k ≡ Some (G (get_or gs k d).pid)
at_group [] k d lt = absurd (omega arith)
at_group (e ∷ es) zero d lt = refl
at_group (e ∷ es) (suc k) d lt = at_group es k d (omega arith)

-- a place among the groups
pub name-at_group : {A B : Type 0} (vs : List (Entry A)) (gs : List (Entry B)) (k i : ℕ) (d : Entry B) → k ≡ length vs + i → i < length gs → slice_get (names_of vs gs) k ≡ Some (G (get_or gs i d).pid)
name-at_group [] gs k i d at lt = let h : k ≡ i = omega arith in rw h (at_group gs i d lt)
name-at_group (e ∷ es) gs zero i d at lt = absurd (omega arith)
name-at_group (e ∷ es) gs (suc k) i d at lt = name-at_group es gs k i d (omega arith) lt

past_groups : {B : Type 0} (gs : List (Entry B)) (k : ℕ) → length gs ≤ k → slice_get (map G (pids_of gs)) k ≡ None
past_groups [] k le = refl
past_groups (e ∷ es) zero le = absurd (omega arith)
past_groups (e ∷ es) (suc k) le = past_groups es k (omega arith)

-- a place past the names
pub name-past : {A B : Type 0} (vs : List (Entry A)) (gs : List (Entry B)) (k : ℕ) → length vs + length gs ≤ k → slice_get (names_of vs gs) k ≡ None
name-past [] gs k le = past_groups gs k (omega arith)
name-past (e ∷ es) gs zero le = absurd (omega arith)
name-past (e ∷ es) gs (suc k) le = name-past es gs k (omega arith)

after-groups : {B : Type 0} (g : Pid) (gs : List (Entry B)) → AllAbove g gs → AllAfter (G g) (map G (pids_of gs))
after-groups g [] a = tt
after-groups g (e ∷ es) a = (lt-ltb g.0 e.pid.0 a.0, after-groups g es a.1)

groups-after : {B : Type 0} (p : Pid) (gs : List (Entry B)) → AllAfter (V p) (map G (pids_of gs))
groups-after p [] = tt
groups-after p (e ∷ es) = (refl, groups-after p es)

-- the other names come after that of the least process
pub AllAfter-vproc : {A B : Type 0} (p : Pid) (vs : List (Entry A)) (gs : List (Entry B)) → AllAbove p vs → AllAfter (V p) (names_of vs gs)
AllAfter-vproc p [] gs a = groups-after p gs
AllAfter-vproc p (e ∷ es) gs a = (lt-ltb p.0 e.pid.0 a.0, AllAfter-vproc p es gs a.1)

-- without processes they come after that of the least group
pub AllAfter-group : {A B : Type 0} (g : Pid) (vs : List (Entry A)) (gs : List (Entry B)) → vs ≡ [] → AllAbove g gs → AllAfter (G g) (names_of vs gs)
AllAfter-group g vs gs none a = subst (λ vs. AllAfter (G g) (names_of vs gs)) (sym none) (after-groups g gs a)

rising-groups : {B : Type 0} (gs : List (Entry B)) → IsRising gs → AreRising (map G (pids_of gs))
rising-groups [] r = tt
rising-groups (e ∷ es) r = (after-groups e.pid es r.0, rising-groups es r.1)

-- the names rise
pub AreRising-names : {A B : Type 0} (vs : List (Entry A)) (gs : List (Entry B)) → IsRising vs → IsRising gs → AreRising (names_of vs gs)
AreRising-names [] gs r s = rising-groups gs s
AreRising-names (e ∷ es) gs r s = (AllAfter-vproc e.pid es gs r.0, AreRising-names es gs r.1 s)
