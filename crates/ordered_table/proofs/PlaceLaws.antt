-- an id's place among entries that rise
use Rattle.std.proofs.Common.{◌≡◌, ◌==◌, ◌<◌, ℕ, zero, suc, Bool, true, false, nat_lt, List, [], ◌∷◌, length, get_or, ap, sym, ◌∙◌, refl, arith, eq-eqb, Some, if◌then◌else◌, Option}
use Rattle.std.specs.List.{last_or}
use Rattle.std.proofs.lemmas.Bool.{eqb-true}
use Rattle.std.proofs.lemmas.List.{get_or_default}
use Rattle.unix_names.specs.declared.Pid.{Pid}
use Rattle.ordered_table.specs.declared.entries.Entry.{Entry}
use Rattle.ordered_table.specs.Entries.{pids_of, AllUpTo, IsRising}
use Rattle.ordered_table.proofs.RisingLaws.{above-at, place-at}
use Rattle.ordered_table.specs.MethodPlaces.{place, IsFoundAt, IsVacantAt}

found-later : {T : Type 0} (e : Entry T) (es : List (Entry T)) (p : Pid) (i : ℕ) → nat_lt e.pid.0 p.0 ≡ true → IsFoundAt es p i → IsFoundAt (e ∷ es) p (suc i)
found-later e es p i less h = record {
  within = let lt = h.within in omega arith;
  id = h.id;
  value = λ d. rw less (h.value d);
  replaced = λ v. rw less (ap (λ zs. e ∷ zs) (h.replaced v));
  removed = rw less (ap (λ zs. e ∷ zs) h.removed);
}

found-here : {T : Type 0} (e : Entry T) (es : List (Entry T)) (p : Pid) → nat_lt e.pid.0 p.0 ≡ false → (e.pid.0 == p.0) ≡ true → IsFoundAt (e ∷ es) p zero
found-here e es p less same = record {
  within = omega arith;
  id = λ x at. let first : e ≡ x = cc in ap (λ (n : ℕ). record { 0 = n }) (ap (λ (y : Entry _). y.pid.0) (sym first) ∙ eqb-true e.pid.0 p.0 same);
  value = λ d. rw (less, same);
  replaced = λ v. rw (less, same);
  removed = rw (less, same);
}

vacant-later : {T : Type 0} (e : Entry T) (es : List (Entry T)) (p : Pid) (i : ℕ) → nat_lt e.pid.0 p.0 ≡ true → IsVacantAt es p i → IsVacantAt (e ∷ es) p (suc i)
vacant-later e es p i less h = record {
  within = let le = h.within in omega arith;
  none = rw less h.none;
  inserted = λ v. rw less (ap (λ zs. e ∷ zs) (h.inserted v));
  removed = rw less (ap (λ zs. e ∷ zs) h.removed);
}

vacant-here : {T : Type 0} (e : Entry T) (es : List (Entry T)) (p : Pid) → nat_lt e.pid.0 p.0 ≡ false → (e.pid.0 == p.0) ≡ false → IsVacantAt (e ∷ es) p zero
vacant-here e es p less same = record {
  within = omega arith;
  none = rw (less, same);
  inserted = λ v. rw (less, same);
  removed = rw (less, same);
}

abbrev Found : {T : Type 0} → List (Entry T) → Pid → Type 0
Found {T} es p = (i : ℕ) → i ≡ place es p → i < length es → ((d : Entry T) → ((get_or es i d).pid.0 == p.0) ≡ true) → IsFoundAt es p i

found-by : {T : Type 0} (e : Entry T) (es : List (Entry T)) (p : Pid) (b : Bool) → nat_lt e.pid.0 p.0 ≡ b → Found es p →
    (i : ℕ) → i ≡ (if b then suc (place es p) else zero) → i < length (e ∷ es) → ((d : Entry T) → ((get_or (e ∷ es) i d).pid.0 == p.0) ≡ true) → IsFoundAt (e ∷ es) p i
found-by e es p true less rest zero at lt same = absurd (omega arith)
found-by e es p true less rest (suc i) at lt same = found-later e es p i less (rest i (omega arith) (omega arith) same)
found-by e es p false less rest zero at lt same = found-here e es p less (same e)
found-by e es p false less rest (suc i) at lt same = absurd (omega arith)

-- an entry of the id stands at its place
pub found : {T : Type 0} (es : List (Entry T)) (p : Pid) → Found es p
found [] p i at lt same = absurd (omega arith)
found (e ∷ es) p i at lt same = found-by e es p (nat_lt e.pid.0 p.0) refl (found es p) i at lt same

-- an entry of the id has the id's place
pub found-at : {T : Type 0} (es : List (Entry T)) (p : Pid) (i : ℕ) (e : Entry T) → IsRising es → i < length es → e ≡ get_or es i e → e.pid.0 ≡ p.0 → IsFoundAt es p i
found-at {T} es p i e r lt at same =
    found es p i (place-at (λ (x : Entry T). x.pid.0) es p.0 i e r lt (ap (λ (x : Entry T). x.pid.0) (sym at) ∙ same)) lt
    (λ d. eq-eqb _ _ (ap (λ (x : Entry T). x.pid.0) (get_or_default es i d e lt ∙ sym at) ∙ same))

abbrev Vacant : {T : Type 0} → List (Entry T) → Pid → Type 0
Vacant {T} es p = (i : ℕ) → i ≡ place es p → ((d : Entry T) → i < length es → ((get_or es i d).pid.0 == p.0) ≡ false) → IsVacantAt es p i

vacant-by : {T : Type 0} (e : Entry T) (es : List (Entry T)) (p : Pid) (b : Bool) → nat_lt e.pid.0 p.0 ≡ b → Vacant es p →
    (i : ℕ) → i ≡ (if b then suc (place es p) else zero) → ((d : Entry T) → i < length (e ∷ es) → ((get_or (e ∷ es) i d).pid.0 == p.0) ≡ false) → IsVacantAt (e ∷ es) p i
vacant-by e es p true less rest zero at other = absurd (omega arith)
vacant-by e es p true less rest (suc i) at other = vacant-later e es p i less (rest i (omega arith) (λ d lt. other d (omega arith)))
vacant-by e es p false less rest zero at other = vacant-here e es p less (other e (omega arith))
vacant-by e es p false less rest (suc i) at other = absurd (omega arith)

-- no entry of the id stands at its place
pub vacant : {T : Type 0} (es : List (Entry T)) (p : Pid) → Vacant es p
vacant [] p zero at other = record { within = omega arith; none = refl; inserted = λ v. refl; removed = refl }
vacant [] p (suc i) at other = absurd (omega arith)
vacant (e ∷ es) p i at other = vacant-by e es p (nat_lt e.pid.0 p.0) refl (vacant es p) i at other

-- the last id
pub last-pid : {T : Type 0} (es : List (Entry T)) (i : ℕ) (d : Entry T) (o : Option Pid) → suc i ≡ length es → last_or o (pids_of es) ≡ Some (get_or es i d).pid
last-pid [] i d o at = absurd (omega arith)
last-pid (e ∷ []) zero d o at = refl
last-pid (e ∷ []) (suc i) d o at = absurd (omega arith)
last-pid (e ∷ f ∷ es) zero d o at = absurd (omega arith)
last-pid (e ∷ f ∷ es) (suc i) d o at = last-pid (f ∷ es) i d (Some e.pid) (omega arith)

-- none is above the last
pub AllUpTo-last : {T : Type 0} (es : List (Entry T)) (i : ℕ) (d : Entry T) → suc i ≡ length es → IsRising es → AllUpTo (get_or es i d).pid es
AllUpTo-last [] i d at r = tt
AllUpTo-last (e ∷ []) zero d at r = (omega arith, tt)
AllUpTo-last (e ∷ []) (suc i) d at r = absurd (omega arith)
AllUpTo-last (e ∷ f ∷ es) zero d at r = absurd (omega arith)
AllUpTo-last (e ∷ f ∷ es) (suc i) d at r =
    let above = above-at (λ (x : Entry _). x.pid.0) e.pid.0 (f ∷ es) i d r.0 (omega arith) in
    (omega arith, AllUpTo-last (f ∷ es) i d (omega arith) r.1)
